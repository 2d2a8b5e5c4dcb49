use Rattle.std.proofs.Common.{IsTrue, drop, subst, sym}
use Rattle.std.proofs.Math.ListN.{drop_of_length-le}
use Rattle.ft_string.proofs.Appended.{segments-begin, segments-done, segments-next}
use Rattle.ft_string.proofs.summaries.append_all.Goals as goal

pub loop-seg-init : goal.loop-seg-init
loop-seg-init c = segments-begin c.args.segs.now c.args.tree.now

pub append-requires : goal.append-requires
append-requires c = subst (λ b. IsTrue b) (sym c.loop-seg.invariant.keeps.usable) c.requires

pub loop-seg-preserved : goal.loop-seg-preserved
loop-seg-preserved c =
    segments-next c.args.segs.now c.loop-seg.seg-index c.seg-item.result c.args.tree.now c.loop-seg.tree c.append.new.tree c.loop-seg.invariant c.loop-seg-test.true
    c.seg-item.is c.in_ok-append.ensures

pub returns : goal.returns
returns c =
    segments-done c.args.segs.now (drop c.loop-seg.seg-index c.args.segs.now) c.args.tree.now c.loop-seg.tree (drop_of_length-le c.args.segs.now c.loop-seg-test.false)
    c.loop-seg.invariant
