use Rattle.std.proofs.Common.{sym, ◌∙◌, ap}
use Rattle.std.specs.Prelude.{option_copied}
use Rattle.ft_interval_store.specs.declared.intervals.Interval.{Interval}
use Rattle.ft_interval_store.proofs.OneLabel.{one-label}
use Rattle.ft_interval_store.proofs.search.is_of_label.Goals as goal

pub returns-then-same : goal.returns-then-same
returns-then-same g c = λ yes.
    let label_of = λ (i : Interval g.row.T.Denot). i.label in
    one-label c.args.label.now c.args.page.now c.in-Some.first.now c.in-Some-last.last.now c.requires
    (sym c.first.ensures.value ∙ ap option_copied c.in-Some.is) (sym c.last.ensures.value ∙ ap option_copied c.in-Some-last.is)
    (ap label_of (sym c.get.ensures) ∙ c.same.ensures.0 c.if-same.true)
    (ap label_of (sym c.get-then-same.ensures) ∙ c.same-then-same.ensures.0 yes)
