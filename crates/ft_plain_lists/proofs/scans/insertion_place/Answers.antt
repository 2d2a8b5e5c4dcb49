use Rattle.std.proofs.Common.{◌<◌, arith, length}
use Rattle.ft_base.proofs.PlainList.{place-step}
use Rattle.ft_plain_lists.proofs.scans.insertion_place.Goals as goal
use Rattle.ft_plain_lists.proofs.scans.insertion_place.Goals.{then-passes, else-passes}

pub loop-i-preserved : goal.loop-i-preserved
loop-i-preserved g c =
    let left : 0 < c.loop-i.left = omega arith in
    let inside : c.loop-i.i < length c.args.items.now = omega arith in
    let next = place-step (g.T.ElementTest.test c.args.seen) c.loop-i.left c.loop-i.i c.index-items-i.result c.args.items.now left inside in
    elim c.if-passes.branch [ then-passes w ↦ grind (arith, next) | else-passes w ↦ grind (arith, next) ]
