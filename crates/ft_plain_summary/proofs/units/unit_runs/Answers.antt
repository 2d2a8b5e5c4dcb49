use Rattle.std.proofs.Common.{◌+◌, ◌∷◌, ◌∙◌, ap, drop, sym}
use Rattle.std.proofs.lemmas.List.{drop_more}
use Rattle.ft_msg.specs.SummaryOf.{unit_runs}
use Rattle.ft_plain_summary.proofs.FrontRuns.{runs_behind-with}
use Rattle.ft_plain_summary.proofs.units.unit_runs.Goals as goal

pub loop-e-preserved : goal.loop-e-preserved
loop-e-preserved c =
    let xs = c.args.items.now in
    let i = c.loop-e.e-index in
    let e = c.e-item.result in
    let front = drop_more xs i e c.loop-e-test.true ∙ ap (λ x. x ∷ drop (i + 1) xs) (sym c.e-item.is) in
    runs_behind-with c.loop-e.last e (drop (i + 1) xs) (drop i xs) c.in_ok-count_unit.field-0 c.loop-e.runs c.count_unit.new.runs (unit_runs xs)
    front c.in_ok-count_unit.ensures.ended c.in_ok-count_unit.ensures.last c.loop-e.invariant
