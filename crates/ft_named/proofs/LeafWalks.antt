-- A walk over the leaves of a tree, from the first to the last: what was made of those behind, and then what is made of those ahead, is all.
use Rattle.std.proofs.Common.{◌≡◌, ℕ, ◌≤◌, ◌<◌, List, [], ◌∷◌, ◌++◌, Option, Some, None, sym, ◌∙◌, ap, subst, arith, length, append_assoc, append-nil}
use Rattle.ft_arena.specs.Ids.{after, first}
use Rattle.ft_block.specs.Leaves.{IsLeafIn, IsPlaceIn, ids, times_leaf, value_at}
use Rattle.ft_tree_blocks.specs.Walks.{from_place}
use Rattle.ft_tree_blocks.proofs.Walks.{after_in_place, first_in_place, from_after, from_first, live_value}
use Rattle.ft_tree_leaves.specs.declared.leaves.TreeLeaf.{TreeLeaf}

module _ {C : Type 0} where
  -- the leaf of a place, and those behind it
  pub record StandsNext (all : List (ℕ × TreeLeaf C)) (id : ℕ) : Type 0 where
    pub leaf : TreeLeaf C
    pub value : value_at all id ≡ Some leaf
    pub ahead : from_place all (Some id) ≡ (id, leaf) ∷ from_place all (after (ids all) id)

  pub stands-next : (all : List (ℕ × TreeLeaf C)) → ((i : ℕ) → times_leaf all i ≤ 1) → (id : ℕ) → IsLeafIn all id → StandsNext all id
  stands-next all once id live =
      let v = live_value all id live in record { leaf = v.0; value = v.1; ahead = from_after all id v.0 once v.1 }

  -- a walk comes to its end
  pub walk-shorter : (all : List (ℕ × TreeLeaf C)) → ((i : ℕ) → times_leaf all i ≤ 1) → (next behind : Option ℕ) (id : ℕ) → IsPlaceIn all next → next ≡ Some id
      → behind ≡ after (ids all) id → length (from_place all behind) < length (from_place all next)
  walk-shorter all once next behind id place e g =
      let s = stands-next all once id (subst (λ n. IsPlaceIn all n) e place) in
      let longer = ap length s.ahead in
      let same = ap (λ n. length (from_place all n)) e in
      let less = ap (λ n. length (from_place all n)) g in
      omega arith

module _ {B C : Type 0} (of : List (ℕ × TreeLeaf C) → List B) (one : TreeLeaf C → List B)
    (end : of [] ≡ []) (step : (id : ℕ) (x : TreeLeaf C) (xs : List (ℕ × TreeLeaf C)) → of ((id, x) ∷ xs) ≡ one x ++ of xs) where
  -- a walk has come to the leaf of a place
  pub record Walks (all : List (ℕ × TreeLeaf C)) (next : Option ℕ) (done : List B) : Type 0 where
    pub place : IsPlaceIn all next
    pub whole : done ++ of (from_place all next) ≡ of all

  pub walk-begin : (all : List (ℕ × TreeLeaf C)) (next : Option ℕ) → next ≡ first (ids all) → Walks all next []
  walk-begin all next e =
      subst (λ n. Walks all n []) (sym e) (record { place = first_in_place all; whole = ap of (from_first all) })

  pub walk-next : (all : List (ℕ × TreeLeaf C)) → ((i : ℕ) → times_leaf all i ≤ 1) → (next behind : Option ℕ) (id : ℕ) (done more : List B)
      → Walks all next done
      → next ≡ Some id → ((x : TreeLeaf C) → value_at all id ≡ Some x → more ≡ done ++ one x) → behind ≡ after (ids all) id → Walks all behind more
  walk-next all once next behind id done more w e f g =
      let live : IsLeafIn all id = subst (λ n. IsPlaceIn all n) e w.place in
      let s = stands-next all once id live in
      subst (λ n. Walks all n more) (sym g) (record {
        place = after_in_place all id;
        whole = ap (λ os. os ++ of (from_place all (after (ids all) id))) (f s.leaf s.value) ∙ append_assoc done (one s.leaf) (of (from_place all (after (ids all) id)))
            ∙ ap (λ os. done ++ os) (sym (ap of s.ahead ∙ step id s.leaf (from_place all (after (ids all) id)))) ∙ ap (λ n. done ++ of (from_place all n)) (sym e) ∙ w.whole;
      })

  pub walk-done : (all : List (ℕ × TreeLeaf C)) (next : Option ℕ) (done : List B) → Walks all next done → next ≡ None → done ≡ of all
  walk-done all next done w e =
      sym (ap (λ os. done ++ os) end ∙ append-nil done) ∙ ap (λ n. done ++ of (from_place all n)) (sym e) ∙ w.whole
