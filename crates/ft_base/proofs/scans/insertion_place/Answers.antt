use Rattle.std.proofs.Common.{◌<◌, arith, length}
use Rattle.ft_base.specs.Visibility.{sees}
use Rattle.ft_base.proofs.PlainList.{place-step}
use Rattle.ft_base.proofs.scans.insertion_place.Goals as goal
use Rattle.ft_base.proofs.scans.insertion_place.Goals.{then-sees, else-sees}

pub loop-i-preserved : goal.loop-i-preserved
loop-i-preserved c =
    let left : 0 < c.loop-i.left = omega arith in
    let inside : c.loop-i.i < length c.args.items.now = omega arith in
    let next = place-step (λ e. sees e c.args.at.r c.args.at.c) c.loop-i.left c.loop-i.i c.index-items-i.result c.args.items.now left inside in
    elim c.if-sees.branch [ then-sees w ↦ grind (arith, next) | else-sees w ↦ grind (arith, next) ]
