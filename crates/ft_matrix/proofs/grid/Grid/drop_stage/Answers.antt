use Rattle.std.proofs.Common.{◌≡◌, ◌<◌, arith, length, refl, rules}
use Rattle.ft_matrix.proofs.ResubmitSteps.{drops-stage, place-less}
use Rattle.ft_matrix.proofs.grid.Grid.drop_stage.Goals as goal

pub returns-in-Some : goal.returns-in-Some
returns-in-Some c = drops-stage c.args.i c.in-Some.t c.args.self.now _ c.in-Some.ensures.value c.in-Some.ensures.items c.drop_pending.ensures refl

pub returns-in_default : goal.returns-in_default
returns-in_default c = λ t e.
    let len : c.args.self.now.stages.len ≡ length c.args.self.now.stages.items = search rules in
    let low = place-less c.args.self.now.stages.items c.args.i t e in
    let within : c.args.i < c.args.self.now.stages.len = omega (arith, low, len) in
    cc (c.in_default.ensures.variant.1 within)
