-- The value of each leaf after a step on the list of leaves.
use Rattle.std.proofs.Common.{◌≡◌, ◌≢◌, ℕ, ◌≤◌, Bool, true, false, cond, map, List, [], ◌∷◌, inl, inr, IsSomeAnd, Option, Some, None, option_map, refl, sym, ◌∙◌, ap, arith, nat_eq}
use Rattle.std.specs.Option.{IsSome}
use Rattle.std.proofs.lemmas.Bool.{cases_eq, cond-true, cond-false, eq-eqb, ne_eqb}
use Rattle.std.proofs.lemmas.Bool.Decides.{nat_tests}
use Rattle.std.proofs.lemmas.Iterator.Adapters.{option_map_id}
use Rattle.ft_arena.specs.Ids.{after}
use Rattle.ft_block.specs.Leaves.{IsLeafIn, IsPlaceIn, change_leaf, ids, join_leaf, move_leaf, put_leaf, put_leaf_after, split_leaf, times_leaf, value_at, without_leaf}
use Rattle.ft_block.proofs.LeafListLemmas.{join_from, value_after_is, value_at_in, value_without}
use Rattle.ft_tree_blocks.proofs.MovedLeaves.{gone, once_rest, place_left}
use Rattle.ft_tree_blocks.proofs.WalkEdits.{live-put}
use Rattle.ft_tree_blocks.proofs.Walks.{itself, live_value}

module _ {L : Type 0} where
  some_by : (o : Option L) → IsSome o → IsSomeAnd o (λ v. Unit {0})
  some_by None h = (cc)
  some_by (Some v) h = tt

  -- the leaf of a node is live where it has a value
  pub is_live : (xs : List (ℕ × L)) (id : ℕ) → IsSome (value_at xs id) → IsLeafIn xs id
  is_live xs id h = value_at_in xs id (λ v. Unit {0}) (some_by (value_at xs id) h)

  pub is_some : (o : Option L) (v : L) → o ≡ Some v → IsSome o
  is_some None v e = (cc)
  is_some (Some w) v e = refl

  -- what holds of a value tells that there is one
  pub is_given : (o : Option L) (P : L → Type 0) → IsSomeAnd o P → IsSome o
  is_given None P h = absurd h
  is_given (Some v) P h = refl

  pub is_valued : (xs : List (ℕ × L)) (id : ℕ) → IsLeafIn xs id → IsSome (value_at xs id)
  is_valued xs id live = let v = live_value xs id live in is_some (value_at xs id) v.0 v.1

  -- a change
  pub value-change : (f : L → L) (xs : List (ℕ × L)) (id z : ℕ)
      → value_at (change_leaf f xs id) z ≡ option_map (λ v. cond (nat_eq z id) (f v) v) (value_at xs z)
  value-change f [] id z = refl
  value-change f (x ∷ xs) id z = grind (arith, nat_tests, value-change f xs id z)

  -- which is the leaf of that node alone
  pub own_value : (f : L → L) (o : Option L) (id : ℕ) (v : L) → o ≡ Some v → option_map (λ v. cond (nat_eq id id) (f v) v) o ≡ Some (f v)
  own_value f o id v e = ap (option_map (λ v. cond (nat_eq id id) (f v) v)) e ∙ ap (λ b. Some (cond b (f v) v)) (itself id)

  pub other_value : (f : L → L) (o : Option L) (id z : ℕ) → z ≢ id → option_map (λ v. cond (nat_eq z id) (f v) v) o ≡ o
  other_value f o id z d = ap (λ b. option_map (λ v. cond b (f v) v) o) (ne_eqb z id d) ∙ option_map_id o

  value_by : (f : L → L) (b : Bool) (v : L) (o p : Option L) → o ≡ option_map f p → cond b (Some (f v)) o ≡ option_map f (cond b (Some v) p)
  value_by f true v o p e = refl
  value_by f false v o p e = e

  -- a change of all leaves
  pub value-map : (f : L → L) (xs : List (ℕ × L)) (z : ℕ) → value_at (map (λ x. (x.0, f x.1)) xs) z ≡ option_map f (value_at xs z)
  value-map f [] z = refl
  value-map f (x ∷ xs) z = value_by f (nat_eq x.0 z) x.1 (value_at (map (λ y. (y.0, f y.1)) xs) z) (value_at xs z) (value-map f xs z)

  -- a new leaf
  value-put_after : (xs : List (ℕ × L)) (at id z : ℕ) (v : L) → z ≢ id → value_at (put_leaf_after xs at (id, v)) z ≡ value_at xs z
  value-put_after [] at id z v d = refl
  value-put_after (x ∷ xs) at id z v d = grind (arith, nat_tests, d, value-put_after xs at id z v d)

  pub value-put : (xs : List (ℕ × L)) (at : Option ℕ) (id z : ℕ) (v : L) → z ≢ id → value_at (put_leaf xs at (id, v)) z ≡ value_at xs z
  value-put xs None id z v d = cond-false (nat_eq id z) _ _ (ne_eqb id z (λ e. d (sym e)))
  value-put xs (Some at) id z v d = value-put_after xs at id z v d

  new_after : (xs : List (ℕ × L)) (at id : ℕ) (v w : L) → times_leaf xs id ≡ 0 → value_at (put_leaf_after xs at (id, v)) id ≡ Some w → w ≡ v
  new_after [] at id v w fresh e = (cc)
  new_after (x ∷ xs) at id v w fresh e = grind (arith, nat_tests, fresh, e, new_after xs at id v w)

  -- no other leaf has its node
  pub new_put : (xs : List (ℕ × L)) (at : Option ℕ) (id : ℕ) (v w : L) → times_leaf xs id ≡ 0 → value_at (put_leaf xs at (id, v)) id ≡ Some w → w ≡ v
  new_put xs None id v w fresh e = let here : Some v ≡ Some w = sym (cond-true (nat_eq id id) _ _ (eq-eqb id id refl)) ∙ e in (cc)
  new_put xs (Some at) id v w fresh e = new_after xs at id v w fresh e

  -- a cut
  pub value-split : (f r : L → L) (xs : List (ℕ × L)) (id new z : ℕ) → z ≢ new
      → value_at (split_leaf f r xs id new) z ≡ option_map (λ v. cond (nat_eq z id) (f v) v) (value_at xs z)
  value-split f r [] id new z d = refl
  value-split f r (x ∷ xs) id new z d = grind (arith, nat_tests, d, value-split f r xs id new z d)

  pub rear-split : (f r : L → L) (xs : List (ℕ × L)) (id new : ℕ) → times_leaf xs new ≡ 0
      → value_at (split_leaf f r xs id new) new ≡ option_map r (value_at xs id)
  rear-split f r [] id new fresh = refl
  rear-split f r (x ∷ xs) id new fresh = grind (arith, nat_tests, fresh, rear-split f r xs id new)

  -- two leaves in one
  pub value-join : (f : L → L → L) (xs : List (ℕ × L)) (id next z : ℕ) (w : L) → ((i : ℕ) → times_leaf xs i ≤ 1) → after (ids xs) id ≡ Some next
      → value_at xs next ≡ Some w → z ≢ next → value_at (join_leaf f xs id) z ≡ option_map (λ v. cond (nat_eq z id) (f v w) v) (value_at xs z)
  value-join f xs id next z w once follows there d =
      ap (λ (ys : List (ℕ × L)). value_at ys z) (sym (join_from f xs id next w once follows (sym (value_after_is xs id next once follows) ∙ there)))
      ∙ value-change (λ v. f v w) (without_leaf xs next) id z
      ∙ ap (option_map (λ v. cond (nat_eq z id) (f v w) v)) (value_without xs z next d)

  -- a leaf that is gone
  pub gone-without : (xs : List (ℕ × L)) (id : ℕ) → value_at (without_leaf xs id) id ≡ None
  gone-without [] id = refl
  gone-without (x ∷ xs) id = grind (arith, nat_tests, gone-without xs id)

  put_back : (xs : List (ℕ × L)) (id : ℕ) (at : Option ℕ) (v : L) → times_leaf xs id ≡ 0 → IsLeafIn (put_leaf xs at (id, v)) id
      → value_at (put_leaf xs at (id, v)) id ≡ Some v
  put_back xs id at v none live =
      let w = live_value (put_leaf xs at (id, v)) id live in
      w.1 ∙ ap (λ u. Some u) (new_put xs at id v w.0 none w.1)

  pub value-move : (xs : List (ℕ × L)) (id : ℕ) (at : Option ℕ) (z : ℕ) → ((i : ℕ) → times_leaf xs i ≤ 1) → IsLeafIn xs id → IsPlaceIn xs at → at ≢ Some id
      → value_at (move_leaf xs id at (value_at xs id)) z ≡ value_at xs z
  value-move xs id at z once live place d =
      let v = live_value xs id live in
      let one : times_leaf xs id ≡ 1 = omega (arith, once id, live) in
      ap (λ o. value_at (move_leaf xs id at o) z) v.1 ∙ elim (cases_eq z id) [
        | inl e ↦
            ap (value_at (put_leaf (without_leaf xs id) at (id, v.0))) e
            ∙ put_back (without_leaf xs id) id at v.0 (gone xs id one)
            (live-put (without_leaf xs id) at id v.0 (once_rest xs id one once) (place_left xs id one at place d))
            ∙ sym v.1 ∙ ap (value_at xs) (sym e)
        | inr e ↦ value-put (without_leaf xs id) at id z v.0 e ∙ value_without xs z id e
      ]

  -- what is read of a changed value
  pub mapped : (g : L → L) (o : Option L) (x : L) → option_map g o ≡ Some x → (v : L) × (o ≡ Some v) × (g v ≡ x)
  mapped g None x e = (cc)
  mapped g (Some v) x e = (v, refl, (cc))

  pub mapped_some : (g : L → L) (o : Option L) → IsSome o → IsSome (option_map g o)
  mapped_some g None h = (cc)
  mapped_some g (Some v) h = refl
