use Rattle.std.proofs.Common.{refl, subst, sym}
use Rattle.ft_block.specs.Leaves.{IsPlaceIn}
use Rattle.ft_text.specs.Shows.{leaf_origins, origins_in}
use Rattle.ft_named.proofs.LeafWalks.{Walks, walk-begin, walk-done, walk-next, walk-shorter}
use Rattle.ft_text.proofs.ShownElements.{origins-room, origins-step}
use Rattle.ft_text.proofs.shown.origins_of.Goals as goal

pub loop-next-init : goal.loop-next-init
loop-next-init c =
    subst (λ os. Walks origins_in leaf_origins refl origins-step c.args.tree.now.leaves c.first_leaf-next.result os) (sym c.new-origins.ensures)
    (walk-begin origins_in leaf_origins refl origins-step c.args.tree.now.leaves c.first_leaf-next.result c.first_leaf-next.ensures.value)

pub loop-next-preserved : goal.loop-next-preserved
loop-next-preserved c =
    walk-next origins_in leaf_origins refl origins-step c.args.tree.now.leaves c.first_leaf-next.ensures.once c.loop-next.next c.next_leaf-next.result c.in-Some.leaf
    c.loop-next.origins c.add_origin.new.origins c.loop-next.invariant c.in-Some.is c.in_ok-add_origin.ensures c.next_leaf-next.ensures

pub loop-next-smaller : goal.loop-next-smaller
loop-next-smaller c =
    walk-shorter c.args.tree.now.leaves c.first_leaf-next.ensures.once c.loop-next.next c.next_leaf-next.result c.in-Some.leaf c.loop-next.invariant.place c.in-Some.is
    c.next_leaf-next.ensures

pub add_origin-requires-clause-live : goal.add_origin-requires-clause-live
add_origin-requires-clause-live c = subst (λ n. IsPlaceIn c.args.tree.now.leaves n) c.in-Some.is c.loop-next.invariant.place

pub add_origin-requires-clause-few : goal.add_origin-requires-clause-few
add_origin-requires-clause-few c =
    origins-room c.args.tree.now.leaves c.first_leaf-next.ensures.once c.loop-next.next c.in-Some.leaf c.args.tree.now.made c.loop-next.origins c.loop-next.invariant c.in-Some.is
    (c.made-made.ensures.fits c.requires) (c.made-made.ensures.small c.requires)

pub next_leaf-next-requires-clause-live : goal.next_leaf-next-requires-clause-live
next_leaf-next-requires-clause-live c = subst (λ n. IsPlaceIn c.args.tree.now.leaves n) c.in-Some.is c.loop-next.invariant.place

pub returns : goal.returns
returns c =
    walk-done origins_in leaf_origins refl origins-step c.args.tree.now.leaves c.loop-next.next c.loop-next.origins c.loop-next.invariant c.in_default.is
