use Rattle.std.proofs.Common.{◌∙◌, ◌-◌, arith, refl, sym, vec_len}
use Rattle.ft_matrix.proofs.SavedRuns.{run-counted, run-uncounted}
use Rattle.ft_matrix.proofs.saved.join_last.Goals as goal

pub returns-then-not-same_stamps : goal.returns-then-not-same_stamps
returns-then-not-same_stamps c =
    run-uncounted c.args.runs.now.items (vec_len c.args.runs.now - 1) c.in-Some.last.now c.args.run.now
    (omega (arith, c.in-Some.ensures.variant.0 refl, c.args.runs.now.ok.0))
    c.in-Some.ensures.value (sym c.same_stamps.ensures ∙ c.if-not-same_stamps.true)

pub returns : goal.returns
returns c =
    run-counted c.args.runs.now.items (vec_len c.args.runs.now - 1) c.in-Some.last.now c.args.run.now
    (omega (arith, c.in-Some.ensures.variant.0 refl, c.args.runs.now.ok.0))
    c.in-Some.ensures.value c.in_ok-last.field-0 (sym c.same_stamps.ensures ∙ c.if-not-same_stamps.false) c.in_ok-last.ensures
