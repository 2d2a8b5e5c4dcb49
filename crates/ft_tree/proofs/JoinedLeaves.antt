-- The leaf of a node that was joined with the next one: how often each node stands there then, and how many elements there are.
use Rattle.std.proofs.Common.{◌≡◌, ℕ, ◌+◌, ◌≤◌, Bool, List, ◌∷◌, ◌++◌, length, Option, Some, None, refl, sym, ◌∙◌, ap, arith, length-append}
use Rattle.ft_arena.specs.Ids.{after, same}
use Rattle.ft_arena.proofs.IdLemmas.{same_other, same_refl}
use Rattle.ft_base.specs.declared.stamps.Stamp.{Stamp}
use Rattle.ft_block.specs.Leaves.{ids, join_leaf, left_of, times_leaf, value_after, value_at}
use Rattle.ft_block.proofs.LeafListLemmas.{value_after_is, value_after_none}
use Rattle.ft_tree_blocks.proofs.Neighbours.{Beside, beside}
use Rattle.ft_tree_leaves.specs.declared.leaves.TreeLeaf.{TreeLeaf}
use Rattle.ft_tree_leaves.specs.Edits.{MayJoin, MayJoinGiven, MayJoinNext, joined_leaf}
use Rattle.ft_tree_leaves.specs.LeafLists.{elements, leaf_elements}
use Rattle.ft_tree_leaves.specs.Plain.{WithoutNode}
use Rattle.ft_tree_leaves.proofs.CutLeaves.{times-append}
use Rattle.ft_tree_leaves.proofs.LeafRuns.{elements-append, length-leaf}
use Rattle.ft_tree_leaves.proofs.Standing.{join-split}

module _ {C : Type 0} (joins : C → C → Bool) (floor : ℕ) (xs : List (ℕ × TreeLeaf C)) (id : ℕ) (once : (z : ℕ) → times_leaf xs z ≤ 1) where
  -- two leaves side by side that may be joined
  pub record Pair : Type 0 where
    pub next : ℕ
    pub front : TreeLeaf C
    pub rear : TreeLeaf C
    pub is_next : after (ids xs) id ≡ Some next
    pub beside : Beside xs id next front rear
    pub may : MayJoin joins floor front rear

  pair_of : (v w : TreeLeaf C) (o : Option ℕ) → value_at xs id ≡ Some v → value_after xs id ≡ Some w → MayJoin joins floor v w → after (ids xs) id ≡ o → Pair
  pair_of v w None e d m last = let none = value_after_none xs id last in let no : None ≡ Some w = sym none ∙ d in absurd (cc)
  pair_of v w (Some n) e d m next = record {
    next = n;
    front = v;
    rear = w;
    is_next = next;
    beside = beside xs id n v w once e next (value_after_is xs id n once next ∙ d);
    may = m;
  }

  pair_given : (o q : Option (TreeLeaf C)) → value_at xs id ≡ o → value_after xs id ≡ q → MayJoinGiven joins floor o q → Pair
  pair_given None q e d m = absurd m
  pair_given (Some v) None e d m = absurd m
  pair_given (Some v) (Some w) e d m = pair_of v w (after (ids xs) id) e d m refl

  pub pair_next : MayJoinNext joins floor xs id → Pair
  pair_next m = pair_given (value_at xs id) (value_after xs id) refl refl m

module _ {C U : Type 0} (units : C → List U) (by : C → Option Stamp) (joined : C → C → C) (xs now : List (ℕ × TreeLeaf C)) (id n : ℕ) (v w : TreeLeaf C)
    (b : Beside xs id n v w) (is_now : now ≡ join_leaf (joined_leaf joined) xs id)
    (sizes : length (units (joined v.content w.content)) ≡ length (units v.content) + length (units w.content)) where
  flat : now ≡ left_of xs id ++ (id, joined_leaf joined v w) ∷ b.rest
  flat = is_now ∙ ap (λ zs. join_leaf (joined_leaf joined) zs id) b.whole ∙ join-split id v ((n, w) ∷ b.rest) (joined_leaf joined) (left_of xs id) b.apart

  times_now : (z : ℕ) → times_leaf now z + same n z ≡ times_leaf xs z
  times_now z =
      omega (
        arith,
        ap (λ zs. times_leaf zs z) flat,
        ap (λ zs. times_leaf zs z) b.whole,
        times-append (left_of xs id) ((id, joined_leaf joined v w) ∷ b.rest) z,
        times-append (left_of xs id) ((id, v) ∷ (n, w) ∷ b.rest) z,
      )

  count_now : length (elements units by now) ≡ length (elements units by xs)
  count_now =
      let front = left_of xs id in
      let j = joined_leaf joined v w in
      omega (
        arith,
        ap (λ zs. length (elements units by zs)) flat,
        ap (λ zs. length (elements units by zs)) b.whole,
        ap length (elements-append units by front ((id, j) ∷ b.rest)),
        length-append (elements units by front) (elements units by ((id, j) ∷ b.rest)),
        length-append (leaf_elements units by j) (elements units by b.rest),
        length-leaf units by j,
        ap length (elements-append units by front ((id, v) ∷ (n, w) ∷ b.rest)),
        length-append (elements units by front) (elements units by ((id, v) ∷ (n, w) ∷ b.rest)),
        length-append (leaf_elements units by v) (elements units by ((n, w) ∷ b.rest)),
        length-leaf units by v,
        length-append (leaf_elements units by w) (elements units by b.rest),
        length-leaf units by w,
        sizes,
      )

  -- the next one is gone
  pub joins_without : ((z : ℕ) → times_leaf xs z ≤ 1) → WithoutNode units by n xs now
  joins_without once = record {
    others = λ z d. omega (arith, times_now z, same_other n z (λ q. d (sym q)));
    gone = omega (arith, times_now n, same_refl n, once n);
    fewer = omega (arith, count_now);
  }
