use Rattle.std.proofs.Common.{◌≡◌, ◌∙◌, [], subst}
use Rattle.std.proofs.lemmas.Result.{IfOk-weaker}
use Rattle.ft_block.specs.Leaves.{IsPlaceIn}
use Rattle.ft_text.specs.Saved.{joined_from, segments_in, whole}
use Rattle.ft_named.proofs.LeafWalks.{walk-shorter}
use Rattle.ft_text.proofs.SavedLeaves.{leaf-begin, leaf-done, leaf-next}
use Rattle.ft_text.proofs.segments.segments_of.Goals as goal

pub loop-next-init : goal.loop-next-init
loop-next-init c = leaf-begin c.args.min c.args.tree.now.leaves c.first_leaf-next.result c.new-segments.result c.first_leaf-next.ensures.value c.new-segments.ensures

pub loop-next-preserved : goal.loop-next-preserved
loop-next-preserved c =
    leaf-next c.args.min c.args.tree.now.leaves c.first_leaf-next.ensures.once c.loop-next.next c.next_leaf-next.result c.in-Some.leaf
    c.loop-next.segments c.add.new.self c.loop-next.invariant c.in-Some.is c.in_ok-add.ensures c.next_leaf-next.ensures

pub loop-next-smaller : goal.loop-next-smaller
loop-next-smaller c =
    walk-shorter c.args.tree.now.leaves c.first_leaf-next.ensures.once c.loop-next.next c.next_leaf-next.result c.in-Some.leaf c.loop-next.invariant.place c.in-Some.is
    c.next_leaf-next.ensures

pub add-requires-clause-live : goal.add-requires-clause-live
add-requires-clause-live c = subst (λ n. IsPlaceIn c.args.tree.now.leaves n) c.in-Some.is c.loop-next.invariant.place

pub next_leaf-next-requires-clause-live : goal.next_leaf-next-requires-clause-live
next_leaf-next-requires-clause-live c = subst (λ n. IsPlaceIn c.args.tree.now.leaves n) c.in-Some.is c.loop-next.invariant.place

pub returns : goal.returns
returns c =
    IfOk-weaker c.into_list.result (λ segs. segs ≡ whole c.loop-next.segments []) (λ segs. segs ≡ joined_from 0 (segments_in c.args.min c.args.tree.now.leaves))
    (λ segs h. h ∙ leaf-done c.args.min c.args.tree.now.leaves c.loop-next.next c.loop-next.segments c.loop-next.invariant c.in_default.is) c.into_list.ensures
