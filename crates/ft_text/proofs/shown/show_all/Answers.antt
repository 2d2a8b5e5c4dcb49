use Rattle.std.proofs.Common.{subst}
use Rattle.ft_block.specs.Leaves.{IsPlaceIn}
use Rattle.ft_named.proofs.LeafWalks.{walk-shorter}
use Rattle.ft_text.proofs.ShownLeaves.{shows-all, shows-begin, shows-next}
use Rattle.ft_text.proofs.shown.show_all.Goals as goal

pub loop-next-init : goal.loop-next-init
loop-next-init c =
    let e = c.new-shown.ensures in
    shows-begin c.args.tree.now.leaves c.first_leaf-next.result c.new-shown.result c.first_leaf-next.ensures.value e.text e.markers e.runs e.count

pub loop-next-preserved : goal.loop-next-preserved
loop-next-preserved c =
    shows-next c.args.tree.now.leaves c.first_leaf-next.ensures.once c.loop-next.next c.next_leaf-next.result c.in-Some.leaf c.loop-next.shown c.add_leaf.new.shown
    c.loop-next.invariant c.in-Some.is c.in_ok-add_leaf.ensures c.next_leaf-next.ensures

pub loop-next-smaller : goal.loop-next-smaller
loop-next-smaller c =
    walk-shorter c.args.tree.now.leaves c.first_leaf-next.ensures.once c.loop-next.next c.next_leaf-next.result c.in-Some.leaf c.loop-next.invariant.place c.in-Some.is
    c.next_leaf-next.ensures

pub add_leaf-requires-clause-live : goal.add_leaf-requires-clause-live
add_leaf-requires-clause-live c = subst (λ n. IsPlaceIn c.args.tree.now.leaves n) c.in-Some.is c.loop-next.invariant.place

pub next_leaf-next-requires-clause-live : goal.next_leaf-next-requires-clause-live
next_leaf-next-requires-clause-live c = subst (λ n. IsPlaceIn c.args.tree.now.leaves n) c.in-Some.is c.loop-next.invariant.place

pub returns : goal.returns
returns c = shows-all c.args.tree.now.leaves c.loop-next.next c.loop-next.shown c.loop-next.invariant c.in_default.is
