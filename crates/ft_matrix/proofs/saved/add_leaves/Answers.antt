use Rattle.std.proofs.Common.{subst}
use Rattle.ft_block.specs.Leaves.{IsPlaceIn}
use Rattle.ft_named.proofs.LeafWalks.{walk-shorter}
use Rattle.ft_matrix.proofs.SavedRuns.{saves-all, saves-begin, saves-next}
use Rattle.ft_matrix.proofs.saved.add_leaves.Goals as goal

pub loop-next-init : goal.loop-next-init
loop-next-init c = saves-begin c.args.min c.args.tree.now.leaves c.first_leaf-next.result c.args.runs.now.items c.first_leaf-next.ensures.value
    c.requires.none

pub loop-next-preserved : goal.loop-next-preserved
loop-next-preserved c =
    saves-next c.args.min c.args.tree.now.leaves c.first_leaf-next.ensures.once c.loop-next.next c.next_leaf-next.result c.in-Some.leaf
    c.loop-next.runs.items c.add_leaf.new.runs.items
    c.loop-next.invariant c.in-Some.is c.in_ok-add_leaf.ensures c.next_leaf-next.ensures

pub loop-next-smaller : goal.loop-next-smaller
loop-next-smaller c =
    walk-shorter c.args.tree.now.leaves c.first_leaf-next.ensures.once c.loop-next.next c.next_leaf-next.result c.in-Some.leaf
    c.loop-next.invariant.place
    c.in-Some.is c.next_leaf-next.ensures

pub add_leaf-requires-clause-live : goal.add_leaf-requires-clause-live
add_leaf-requires-clause-live c = subst (λ n. IsPlaceIn c.args.tree.now.leaves n) c.in-Some.is c.loop-next.invariant.place

pub next_leaf-next-requires-clause-live : goal.next_leaf-next-requires-clause-live
next_leaf-next-requires-clause-live c = subst (λ n. IsPlaceIn c.args.tree.now.leaves n) c.in-Some.is c.loop-next.invariant.place

pub returns : goal.returns
returns c = saves-all c.args.min c.args.tree.now.leaves c.loop-next.next c.loop-next.runs.items c.loop-next.invariant c.in_default.is
