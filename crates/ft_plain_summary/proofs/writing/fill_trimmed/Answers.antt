use Rattle.std.proofs.Common.{◌∙◌, ap}
use Rattle.std.proofs.lemmas.Result.{on_ok_weaker}
use Rattle.ft_op.specs.Document.{Document}
use Rattle.ft_plain_summary.specs.FilledLists.{with_lists}
use Rattle.ft_plain_summary.proofs.writing.fill_trimmed.Goals as goal

pub returns : goal.returns
returns c =
    on_ok_weaker c.fill_lists.result (λ filled. filled ∙ ap (λ (doc : Document). with_lists doc c.args.sum.now) c.in_ok-kept.ensures)
    c.fill_lists.ensures
