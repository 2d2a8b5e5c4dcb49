use Rattle.std.proofs.Common.{Some, ap, arith, ◌∙◌}
use Rattle.ft_perm.specs.Handles.{HandleRun}
use Rattle.ft_perm.proofs.StandingRuns.{first_there}
use Rattle.ft_perm.proofs.vectors.Vector.handle_at.Goals as goal

pub returns : goal.returns
returns c =
    ap (λ (run : HandleRun). Some run.first) c.run.view_is
    ∙ first_there c.args.p c.in_ok-run.run' _ c.in_ok-run.ensures.run (omega (arith, c.run.invariant.0, ap (λ (run : HandleRun). run.count) c.run.view_is))
