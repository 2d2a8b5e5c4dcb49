-- What stands before a leaf that was found.
use Rattle.std.proofs.Common.{◌≡◌, ◌≢◌, ℕ, ◌+◌, ◌-◌, ◌<◌, ◌≤◌, List, [], ◌∷◌, Option, Some, None, leb, eqb, nat_eq, subst, refl, sym, ◌∙◌, ap, inl, inr, arith, zero, suc}
use Rattle.std.specs.Option.{option_map}
use Rattle.std.proofs.lemmas.Bool.{cases_lt, cond-true, cond-false, eq-eqb, ne_eqb, le-leb, lt-leb}
use Rattle.ft_arena.proofs.IdLemmas.{same_refl}
use Rattle.ft_block.specs.declared.blocks.Found.{Found}
use Rattle.ft_block.specs.Leaves.{left_of, length_by, place_by, place_from, times_leaf}

-- what is read of a value
pub read_value : {A B : Type 0} (f : A → B) (o : Option A) (a : A) (b : B) → o ≡ Some a → option_map f o ≡ Some b → f a ≡ b
read_value f None a b e g = absurd cc
read_value f (Some x) a b e g = let same : x ≡ a = cc in let value : f x ≡ b = cc in sym (ap f same) ∙ value

module _ {L : Type 0} (f : L → ℕ) where
  -- the place is in a leaf, so many elements behind those before it
  pub record FoundFront (xs : List (ℕ × L)) (p : ℕ) (found : Found) : Type 0 where
    pub id : ℕ
    pub is : found.leaf ≡ Some id
    pub live : 1 ≤ times_leaf xs id
    pub some : 1 ≤ found.offset
    pub count : length_by f (left_of xs id) + found.offset ≡ p

  abbrev IsFront : List (ℕ × L) → ℕ → Option Found → Type 0
  IsFront xs p None = ⊥
  IsFront xs p (Some found) = FoundFront xs p found

  front_from : (xs : List (ℕ × L)) (p : ℕ) (found : Found) → ((i : ℕ) → times_leaf xs i ≤ 1) → 0 < p
      → place_from f xs p ≡ Some found → FoundFront xs p found
  front_from [] p found once some e = (cc)
  front_from (x ∷ xs) p found once some e = elim (cases_lt (f x.1) p) [
    | inl later ↦
        let rest : place_from f xs (p - f x.1) ≡ Some found = sym (cond-false (leb p (f x.1)) _ _ (lt-leb p (f x.1) later)) ∙ e in
        let r = front_from xs (p - f x.1) found (λ i. omega (arith, once i)) (omega arith) rest in
        let d : x.0 ≢ r.id = λ q. omega (arith, once x.0, same_refl x.0, r.live, ap (times_leaf xs) q) in
        let left : left_of (x ∷ xs) r.id ≡ x ∷ left_of xs r.id = cond-false (nat_eq x.0 r.id) _ _ (ne_eqb x.0 r.id d) in
        record { id = r.id; is = r.is; live = omega (arith, r.live); some = r.some; count = omega (arith, r.count, ap (length_by f) left, later) }
    | inr here ↦
        let first : Some record { leaf = Some x.0; offset = p } ≡ Some found = sym (cond-true (leb p (f x.1)) _ _ (le-leb p (f x.1) here)) ∙ e in
        let itself = eq-eqb x.0 x.0 refl in
        let left : left_of (x ∷ xs) x.0 ≡ [] = cond-true (nat_eq x.0 x.0) [] (x ∷ left_of xs x.0) itself in
        subst (IsFront (x ∷ xs) p) first (record {
          id = x.0;
          is = refl;
          live = omega (arith, same_refl x.0);
          some = some;
          count = omega (arith, ap (length_by f) left);
        })
  ]

  pub found_front : (xs : List (ℕ × L)) (p : ℕ) (found : Found) → ((i : ℕ) → times_leaf xs i ≤ 1) → 0 < p
      → place_by f xs p ≡ Some found → FoundFront xs p found
  found_front xs p found once some e =
      let d : p ≢ 0 = λ z. omega (arith, some, z) in
      front_from xs p found once some (sym (cond-false (eqb p 0) _ _ (ne_eqb p 0 d)) ∙ e)

  -- something is found where so many are seen
  pub found_none : (xs : List (ℕ × L)) (p : ℕ) → place_by f xs p ≡ None → 0 < p
  found_none xs zero e = absurd cc
  found_none xs (suc p) e = omega arith
