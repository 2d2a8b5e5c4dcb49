use Rattle.std.proofs.Common.{subst}
use Rattle.ft_block.specs.Leaves.{IsPlaceIn}
use Rattle.ft_named.proofs.LeafWalks.{walk-shorter}
use Rattle.ft_matrix.proofs.SeenHandles.{runs-all, runs-begin, runs-next}
use Rattle.ft_matrix.proofs.seen.seen_runs.Goals as goal

pub loop-next-init : goal.loop-next-init
loop-next-init c = runs-begin c.args.tree.now.leaves c.first_leaf-next.result c.new-runs.result c.first_leaf-next.ensures.value c.new-runs.ensures

pub loop-next-preserved : goal.loop-next-preserved
loop-next-preserved c =
    runs-next c.args.tree.now.leaves c.first_leaf-next.ensures.once c.requires.once
    c.loop-next.next c.next_leaf-next.result c.in-Some.leaf c.loop-next.runs c.add_leaf.new.runs c.loop-next.invariant c.in-Some.is c.in_ok-add_leaf.ensures
    c.next_leaf-next.ensures

pub loop-next-smaller : goal.loop-next-smaller
loop-next-smaller c =
    walk-shorter c.args.tree.now.leaves c.first_leaf-next.ensures.once c.loop-next.next c.next_leaf-next.result c.in-Some.leaf c.loop-next.invariant.walk.place
    c.in-Some.is c.next_leaf-next.ensures

pub add_leaf-requires-clause-live : goal.add_leaf-requires-clause-live
add_leaf-requires-clause-live c = subst (λ n. IsPlaceIn c.args.tree.now.leaves n) c.in-Some.is c.loop-next.invariant.walk.place

pub next_leaf-next-requires-clause-live : goal.next_leaf-next-requires-clause-live
next_leaf-next-requires-clause-live c = subst (λ n. IsPlaceIn c.args.tree.now.leaves n) c.in-Some.is c.loop-next.invariant.walk.place

pub returns : goal.returns
returns c = runs-all c.args.tree.now.leaves c.loop-next.next c.loop-next.runs c.loop-next.invariant c.in_default.is
