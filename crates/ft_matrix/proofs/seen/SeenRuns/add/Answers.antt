use Rattle.std.proofs.Common.{◌≡◌, ◌+◌, ◌-◌, ◌^◌, ◌<◌, ap, arith, refl}
use Rattle.ft_perm.specs.Handles.{HandleRun}
use Rattle.ft_matrix.proofs.SeenHandles.{one-run-more}
use Rattle.ft_matrix.proofs.seen.SeenRuns.add.Goals as goal

pub returns : goal.returns
returns c =
    let run = c.args.run.now in
    let first = ap (λ (r : HandleRun). r.first) c.run.view_is in
    let count = ap (λ (r : HandleRun). r.count) c.run.view_is in
    let some = c.run.invariant in
    let sum : c.in_ok-count.count ≡ c.args.self.now.count + run.count = omega arith in
    let fits : c.in_ok-count.count < 2 ^ 64 = omega arith in
    λ hs h o. one-run-more hs c.args.self.now (record { runs = c.insert.new.self; count = c.in_ok-count.count }) run
    (c.run.inside.first + (c.run.inside.count - 1)) (record { first = c.run.inside.first; place = c.args.self.now.count })
    (omega arith) (omega arith) first refl sum fits c.in_ok-insert.ensures.updates.0 h o
