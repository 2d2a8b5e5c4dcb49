-- What callers can conclude from the clauses of `Blocks`.
use Rattle.std.proofs.Common.{◌≡◌, ◌≢◌, ℕ, ◌+◌, ◌-◌, ◌≤◌, List, [], ◌∷◌, length, Option, Some, None, IsSomeAnd, refl, sym, ap, subst, ◌∙◌, inl, inr, arith, leb, eqb}
use Rattle.std.proofs.lemmas.Bool.{cases_eq, cases_lt, cond-true, cond-false, eq-eqb, ne_eqb, le-leb, lt-leb}
use Rattle.std.specs.Option.{IfSome}
use Rattle.ft_arena.specs.Ids.{same, times, first, after}
use Rattle.ft_arena.proofs.IdLemmas.{same_refl, same_other}
use Rattle.ft_block.proofs.PositionLemmas.{first_in, after_in}
use Rattle.ft_block.proofs.LeafListLemmas.{value_after_is}
use Rattle.ft_block.specs.declared.blocks.Found.{Found}
use Rattle.ft_block.specs.Leaves.{IsLeafIn, IsPlaceIn, ids, times_leaf, value_at, value_after, length_by, place_from, place_by, put_leaf_after, put_leaf}

module _ {L : Type 0} where
  -- a leaf stands among the leaves as often as its node among the nodes
  pub times-ids : (xs : List (ℕ × L)) (id : ℕ) → times (ids xs) id ≡ times_leaf xs id
  times-ids [] id = refl
  times-ids (x ∷ xs) id = ap (λ (n : ℕ). same x.0 id + n) (times-ids xs id)

  place_from_in : (f : L → ℕ) (xs : List (ℕ × L)) (p : ℕ) (found : Found) → place_from f xs p ≡ Some found
      → (id : ℕ) × (found.leaf ≡ Some id) × (1 ≤ times_leaf xs id)
  place_from_in f [] p found e = cc
  place_from_in f (x ∷ xs) p found e = elim (cases_lt (f x.1) p) [
    | inl later ↦
        let rest : place_from f xs (p - f x.1) ≡ Some found = sym (cond-false (leb p (f x.1)) _ _ (lt-leb p (f x.1) later)) ∙ e in
        let r = place_from_in f xs (p - f x.1) found rest in
        (r.0, r.1, omega (arith, r.2))
    | inr here ↦
        let first : Some record { leaf = Some x.0; offset = p } ≡ Some found = sym (cond-true (leb p (f x.1)) _ _ (le-leb p (f x.1) here)) ∙ e in
        (x.0, sym (ap found_leaf first), omega (arith, same_refl x.0))
  ]
    where
      found_leaf : Option Found → Option ℕ
      found_leaf None = None
      found_leaf (Some y) = y.leaf

  -- a place that was found is at a leaf that stands there, or at the head
  pub place_is_in : (f : L → ℕ) (xs : List (ℕ × L)) (p : ℕ) (found : Found) → place_by f xs p ≡ Some found → IsPlaceIn xs found.leaf
  place_is_in f xs p found e = elim (cases_eq p 0) [
    | inl z ↦
        let head : Some record { leaf = None; offset = 0 } ≡ Some found = sym (cond-true (eqb p 0) _ _ (eq-eqb p 0 z)) ∙ e in
        subst (λ (o : Option Found). at_place o) head tt
    | inr d ↦
        let r = place_from_in f xs p found (sym (cond-false (eqb p 0) _ _ (ne_eqb p 0 d)) ∙ e) in
        subst (λ (o : Option ℕ). IsPlaceIn xs o) (sym r.1) r.2
  ]
    where
      at_place : Option Found → Type 0
      at_place None = Unit {0}
      at_place (Some y) = IsPlaceIn xs y.leaf

  put_later : (y : ℕ) (v : L) (ps : List (ℕ × L)) (at : ℕ) (new : ℕ × L) → y ≢ at → put_leaf_after ((y, v) ∷ ps) at new ≡ (y, v) ∷ put_leaf_after ps at new
  put_later y v ps at new d = cond-false (eqb y at) _ _ (ne_eqb y at d)

  put_none : (ps : List (ℕ × L)) (at : ℕ) (new : ℕ × L) → times_leaf ps at ≡ 0 → put_leaf_after ps at new ≡ ps
  put_none [] at new h = refl
  put_none (x ∷ xs) at new h =
      let d : x.0 ≢ at = (λ e. omega (arith, h, same_refl at, ap (λ z. same z at) e)) in
      put_later x.0 x.1 xs at new d ∙ ap (λ (zs : List (ℕ × L)). x ∷ zs) (put_none xs at new (omega arith))

  length_by-put_leaf_after : (f : L → ℕ) (xs : List (ℕ × L)) (at : ℕ) (new : ℕ × L) → times_leaf xs at ≡ 1
      → length_by f (put_leaf_after xs at new) ≡ length_by f xs + f new.1
  length_by-put_leaf_after f [] at new h = absurd (omega arith)
  length_by-put_leaf_after f (x ∷ xs) at new h = elim (cases_eq x.0 at) [
    | inl e ↦
        let none : put_leaf_after xs at new ≡ xs = put_none xs at new (omega (arith, h, same_refl at, ap (λ z. same z at) e)) in
        let put : put_leaf_after (x ∷ xs) at new ≡ x ∷ new ∷ put_leaf_after xs at new = cond-true (eqb x.0 at) _ _ (eq-eqb x.0 at e) in
        omega (arith, ap (length_by f) put, ap (length_by f) none)
    | inr d ↦ omega (arith, ap (length_by f) (put_later x.0 x.1 xs at new d), length_by-put_leaf_after f xs at new (omega (arith, same_other x.0 at d)))
  ]

  -- the leaves together are as much longer as the new one is long
  pub length_by-put_leaf : (f : L → ℕ) (xs : List (ℕ × L)) (at : Option ℕ) (new : ℕ × L) → IsPlaceIn xs at → ((id : ℕ) → times_leaf xs id ≤ 1)
      → length_by f (put_leaf xs at new) ≡ length_by f xs + f new.1
  length_by-put_leaf f xs None new h once = omega arith
  length_by-put_leaf f xs (Some at) new h once = length_by-put_leaf_after f xs at new (omega (arith, h, once at))

  length-by_one : (xs : List (ℕ × L)) → length_by (λ v. 1) xs ≡ length xs
  length-by_one [] = refl
  length-by_one (x ∷ xs) = omega (arith, length-by_one xs)

  -- there is one leaf more
  pub length-put_leaf : (xs : List (ℕ × L)) (at : Option ℕ) (new : ℕ × L) → IsPlaceIn xs at → ((id : ℕ) → times_leaf xs id ≤ 1)
      → length (put_leaf xs at new) ≡ length xs + 1
  length-put_leaf xs at new h once = omega (arith, length_by-put_leaf (λ v. 1) xs at new h once, length-by_one xs, length-by_one (put_leaf xs at new))

  -- the leaf of a place that was found, if there is one, stands there
  pub place_if_some : (f : L → ℕ) (xs : List (ℕ × L)) (p : ℕ) (found : Found) → place_by f xs p ≡ Some found → IfSome found.leaf (IsLeafIn xs)
  place_if_some f xs p found e = of_place found.leaf (place_is_in f xs p found e)
    where
      of_place : (o : Option ℕ) → IsPlaceIn xs o → IfSome o (IsLeafIn xs)
      of_place None h = tt
      of_place (Some id) h = h

  -- the first leaf stands there, and so does one that comes after another
  pub first_is_in : (xs : List (ℕ × L)) (id : ℕ) → first (ids xs) ≡ Some id → IsLeafIn xs id
  first_is_in xs id e = omega (arith, first_in (ids xs) id e, times-ids xs id)

  pub after_is_in : (xs : List (ℕ × L)) (id next : ℕ) → after (ids xs) id ≡ Some next → IsLeafIn xs next
  after_is_in xs id next e = omega (arith, after_in (ids xs) id next e, times-ids xs next)

  -- what holds of a leaf's value and of the next one's, as `join_next` asks it
  pub joins_next : (xs : List (ℕ × L)) (id next : ℕ) (v w : L) → ((z : ℕ) → times_leaf xs z ≤ 1) → after (ids xs) id ≡ Some next → value_at xs id ≡ Some v
      → value_at xs next ≡ Some w → (P : L → L → Type 0) → P v w → IsSomeAnd (value_at xs id) (λ a. IsSomeAnd (value_after xs id) (λ b. P a b))
  joins_next xs id next v w once e a b P h =
      let there : value_after xs id ≡ Some w = sym (value_after_is xs id next once e) ∙ b in
      subst (λ (o : Option L). IsSomeAnd o (λ a. IsSomeAnd (value_after xs id) (λ b. P a b))) (sym a) (subst (λ (o : Option L). IsSomeAnd o (λ b. P v b)) (sym there) h)
