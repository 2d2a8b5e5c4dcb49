-- How many elements stand up to a leaf, and where a walk from leaf to leaf goes on.
use Rattle.std.proofs.Common.{◌≡◌, ℕ, ◌+◌, ◌<◌, ◌≤◌, List, [], ◌∷◌, ◌++◌, length, Option, Some, IsSomeAnd, subst, sym, ◌∙◌, ap, arith, length-append}
use Rattle.ft_arena.specs.Ids.{after}
use Rattle.ft_base.specs.declared.stamps.Stamp.{Stamp}
use Rattle.ft_block.specs.Leaves.{IsLeafIn, IsPlaceIn, ids, left_of, times_leaf, value_at}
use Rattle.ft_tree_leaves.specs.declared.leaves.TreeLeaf.{TreeLeaf}
use Rattle.ft_tree_leaves.specs.Edits.{up_to_leaf}
use Rattle.ft_tree_leaves.specs.LeafLists.{elements, leaf_elements}
use Rattle.ft_tree_blocks.specs.Walks.{from_place}
use Rattle.ft_tree_leaves.proofs.LeafRuns.{elements-append, elements-one, length-leaf}
use Rattle.ft_tree_blocks.proofs.Walks.{after_in_place, live_value, stands, up_to-from, up_to-stands}
use Rattle.ft_block.proofs.LeafListLemmas.{value_at_in}
use Rattle.ft_refs.specs.declared.numbers.Place.{Place}
use Rattle.ft_tree_blocks.specs.LeafPlaces.{IsOnLeaf, place_on}

module _ {C U : Type 0} (units : C → List U) (by : C → Option Stamp) where
  pub up_to_count : (xs ls : List (ℕ × TreeLeaf C)) (id : ℕ) (v : TreeLeaf C) → up_to_leaf xs id ≡ ls ++ (id, v) ∷ []
      → length (elements units by (up_to_leaf xs id)) ≡ length (elements units by ls) + length (units v.content)
  up_to_count xs ls id v e =
      omega (
        arith,
        ap (λ ys. length (elements units by ys)) e,
        ap length (elements-append units by ls ((id, v) ∷ [])),
        length-append (elements units by ls) (elements units by ((id, v) ∷ [])),
        ap length (elements-one units by (id, v)),
        length-leaf units by v,
      )

  -- how many elements stand up to a leaf's end
  pub count_up_to : (xs : List (ℕ × TreeLeaf C)) (id : ℕ) (v : TreeLeaf C) → ((i : ℕ) → times_leaf xs i ≤ 1) → value_at xs id ≡ Some v
      → length (elements units by (up_to_leaf xs id)) ≡ length (elements units by (left_of xs id)) + length (units v.content)
  count_up_to xs id v once e = up_to_count xs (left_of xs id) id v (up_to-stands xs id v (stands xs id v once e))

  -- a walk goes from a leaf to the next one
  pub record WalksOn (xs : List (ℕ × TreeLeaf C)) (at : Option ℕ) (v : TreeLeaf C) (next : Option ℕ) : Type 0 where
    pub split : elements units by (from_place xs at) ≡ leaf_elements units by v ++ elements units by (from_place xs next)
    pub count : length (elements units by (from_place xs at)) ≡ length (units v.content) + length (elements units by (from_place xs next))
    pub fewer : length (from_place xs next) < length (from_place xs at)
    pub live : IsPlaceIn xs next

  pub walks_on : (xs : List (ℕ × TreeLeaf C)) (at : Option ℕ) (id : ℕ) (v : TreeLeaf C) (next : Option ℕ) → ((i : ℕ) → times_leaf xs i ≤ 1)
      → at ≡ Some id → value_at xs id ≡ Some v → next ≡ after (ids xs) id → WalksOn xs at v next
  walks_on xs at id v next once is e is_next =
      let from = (stands xs id v once e).from in
      let rest = ap (from_place xs) is_next in
      let split : elements units by (from_place xs at) ≡ leaf_elements units by v ++ elements units by (from_place xs next) =
      ap (λ o. elements units by (from_place xs o)) is ∙ ap (elements units by) from ∙ ap (λ zs. leaf_elements units by v ++ elements units by zs) (sym rest) in
      record {
        split = split;
        count = omega (arith, ap length split, length-append (leaf_elements units by v) (elements units by (from_place xs next)), length-leaf units by v);
        fewer = omega (arith, ap (λ o. length (from_place xs o)) is, ap length from, ap length rest);
        live = subst (IsPlaceIn xs) (sym is_next) (after_in_place xs id);
      }

  -- the leaf of an element stands there
  pub live_leaf : (xs : List (ℕ × TreeLeaf C)) (at : Place) → IsOnLeaf units xs at → IsLeafIn xs at.owner
  live_leaf xs at on = value_at_in xs at.owner (λ v. at.offset < length (units v.content)) on

  -- no more elements stand before one than there are
  pub offset_within : (xs : List (ℕ × TreeLeaf C)) (at : Place) → ((i : ℕ) → times_leaf xs i ≤ 1) → IsOnLeaf units xs at
      → place_on units by xs at < length (elements units by xs)
  offset_within xs at once on =
      let live = live_leaf xs at on in
      let v = live_value xs at.owner live in
      let less : at.offset < length (units v.0.content) = subst (λ o. IsSomeAnd o (λ w. at.offset < length (units w.content))) v.1 on in
      let front = up_to_leaf xs at.owner in
      let rest = from_place xs (after (ids xs) at.owner) in
      omega (
        arith,
        less,
        count_up_to xs at.owner v.0 once v.1,
        ap (λ zs. length (elements units by zs)) (up_to-from xs (Some at.owner) once live),
        ap length (elements-append units by front rest),
        length-append (elements units by front) (elements units by rest),
      )
