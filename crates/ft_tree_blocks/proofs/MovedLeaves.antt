-- The other leaves where one is taken out or moved.
use Rattle.std.proofs.Common.{◌≡◌, ◌≢◌, ℕ, ◌≤◌, List, length, Option, Some, None, sym, ap, arith}
use Rattle.ft_arena.proofs.IdLemmas.{same_other, same_refl}
use Rattle.ft_base.specs.declared.stamps.Stamp.{Stamp}
use Rattle.ft_block.specs.Leaves.{IsPlaceIn, times_leaf, value_at, without_leaf}
use Rattle.ft_tree_leaves.specs.declared.leaves.TreeLeaf.{TreeLeaf}
use Rattle.ft_tree_leaves.specs.Edits.{leaf_at}
use Rattle.ft_tree_leaves.specs.LeafLists.{elements}
use Rattle.ft_tree_leaves.proofs.LeafEdits.{times-without-one}
use Rattle.ft_tree_leaves.proofs.LeafRuns.{elements-one, length-leaf}
use Rattle.ft_tree_leaves.proofs.Standing.{at-value}

module _ {L : Type 0} (xs : List (ℕ × L)) (id : ℕ) (one : times_leaf xs id ≡ 1) where
  pub gone : times_leaf (without_leaf xs id) id ≡ 0
  gone = omega (arith, times-without-one xs id id one, same_refl id, one)

  pub once_rest : ((i : ℕ) → times_leaf xs i ≤ 1) → (i : ℕ) → times_leaf (without_leaf xs id) i ≤ 1
  once_rest once i = omega (arith, times-without-one xs id i one, once i)

  -- a place among the others is a place among all
  pub place_among : (at : Option ℕ) → IsPlaceIn (without_leaf xs id) at → IsPlaceIn xs at
  place_among None live = tt
  place_among (Some z) live = omega (arith, times-without-one xs id z one, live)

  -- and another one
  pub place_apart : (at : Option ℕ) → IsPlaceIn (without_leaf xs id) at → at ≢ Some id
  place_apart None live e = (cc)
  place_apart (Some z) live e = let same : z ≡ id = (cc) in omega (arith, gone, live, ap (times_leaf (without_leaf xs id)) same)

  -- a place among all but itself is one among the others
  pub place_left : (at : Option ℕ) → IsPlaceIn xs at → at ≢ Some id → IsPlaceIn (without_leaf xs id) at
  place_left None live d = tt
  place_left (Some z) live d = omega (arith, times-without-one xs id z one, same_other id z (λ e. d (ap Some (sym e))), live)

module _ {C U : Type 0} (units : C → List U) (by : C → Option Stamp) where
  -- the elements of the leaf of a node alone
  pub count_alone : (xs : List (ℕ × TreeLeaf C)) (id : ℕ) (v : TreeLeaf C) → times_leaf xs id ≤ 1 → value_at xs id ≡ Some v
      → length (elements units by (leaf_at xs id)) ≡ length (units v.content)
  count_alone xs id v once e =
      omega (
        arith,
        ap (λ zs. length (elements units by zs)) (at-value xs id v once e),
        ap length (elements-one units by (id, v)),
        length-leaf units by v,
      )
