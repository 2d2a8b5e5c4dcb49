use Rattle.std.proofs.Common.{◌∙◌, ap, sym}
use Rattle.std.specs.Option.{is_some}
use Rattle.ft_plain_lists.proofs.NotedAnswers.{slide-pending, slide-sequenced}
use Rattle.ft_plain_lists.proofs.slides.noted_slide.Goals as goal

pub returns-then-is_none : goal.returns-then-is_none
returns-then-is_none c = sym (slide-pending c.args.items.now c.args.name (sym (ap is_some c.sequenced_number.ensures) ∙ c.if-is_none.ensures))

pub returns : goal.returns
returns c =
    c.noted.ensures ∙ slide-sequenced c.args.items.now c.args.name (sym (ap is_some c.sequenced_number.ensures) ∙ c.if-is_none.ensures)
