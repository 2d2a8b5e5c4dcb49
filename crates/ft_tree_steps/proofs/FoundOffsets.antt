-- Places that are found, as elements on leaves.
use Rattle.std.proofs.Common.{◌≡◌, ℕ, zero, suc, ◌+◌, ◌-◌, ◌<◌, ◌≤◌, Bool, List, [], ◌∷◌, length, Option, Some, None, IsSomeAnd, subst, refl, ◌∙◌, ap, arith}
use Rattle.std.specs.Option.{SomeIff}
use Rattle.ft_base.specs.declared.stamps.Stamp.{Stamp}
use Rattle.ft_base.specs.Scan.{len, place}
use Rattle.ft_block.specs.declared.blocks.Found.{Found}
use Rattle.ft_block.specs.declared.leaves.LenView.{LenView}
use Rattle.ft_block.specs.Leaves.{place_by, times_leaf, value_at}
use Rattle.ft_tree_leaves.specs.declared.leaves.TreeLeaf.{TreeLeaf}
use Rattle.ft_tree_leaves.specs.Elements.{seen_in}
use Rattle.ft_tree_leaves.specs.LeafLists.{elements, leaf_length}
use Rattle.ft_tree_leaves.specs.Places.{place_at}
use Rattle.ft_tree_leaves.proofs.Numbered.{place_from as place_from_number}
use Rattle.ft_tree_blocks.specs.LeafPlaces.{IsOnLeaf, place_on}
use Rattle.ft_tree_steps.specs.LeafSteps.{IsInLeaf, held_place}
use Rattle.ft_tree_blocks.proofs.FoundLeaves.{beyond_none, len_elements}
use Rattle.ft_tree_steps.proofs.FoundPlaces.{found_at, found_inside}

module _ {A : Type 0} (seen : A → Bool) where
  -- the place of the seen element with p seen ones before it is behind those up to the next seen one, but for itself
  pub at-place : (n p k : ℕ) (xs : List A) → p < len seen xs → n + place seen (suc p) xs ≡ suc k → place_from_number seen n p xs ≡ Some k
  at-place n p k [] less e = absurd (omega arith)
  at-place n zero k (x ∷ xs) less e = grind (arith, at-place (n + 1) zero k xs)
  at-place n (suc p) k (x ∷ xs) less e = grind (arith, at-place (n + 1) p k xs, at-place (n + 1) (suc p) k xs)

  -- where more are seen, the place isn't the head
  place-some : (p : ℕ) (xs : List A) → p < len seen xs → 0 < place seen (suc p) xs
  place-some p [] less = absurd (omega arith)
  place-some p (x ∷ xs) less = omega arith

  -- there is none where no more are seen
  pub at-none : (n p : ℕ) (xs : List A) → len seen xs ≤ p → place_from_number seen n p xs ≡ None
  at-none n zero [] le = refl
  at-none n (suc p) [] le = refl
  at-none n zero (x ∷ xs) le = grind (arith, at-none (n + 1) zero xs)
  at-none n (suc p) (x ∷ xs) le = grind (arith, at-none (n + 1) p xs, at-none (n + 1) (suc p) xs)

  -- no more are seen than there are
  pub len-most : (xs : List A) → len seen xs ≤ length xs
  len-most [] = omega arith
  len-most (x ∷ xs) = grind (arith, len-most xs)

some_and : {A : Type 0} {P Q : A → Type 0} (o : Option A) → ((v : A) → P v → Q v) → IsSomeAnd o P → IsSomeAnd o Q
some_and None f h = h
some_and (Some v) f h = f v h

of_some : {A : Type 0} {P : A → Type 0} {Q : Type 0} (o : Option A) → ((v : A) → P v → Q) → IsSomeAnd o P → Q
of_some None f h = absurd h
of_some (Some v) f h = f v h

-- what was searched for is the next number
pub next_number : (p q n : ℕ) (o : Option ℕ) → SomeIff o (p + 1 < n) (p + 1) → o ≡ Some q → q ≡ suc p
next_number p q n o h e = let both : (p + 1 < n) × (q ≡ p + 1) = subst (λ r. SomeIff r (p + 1 < n) (p + 1)) e h in omega (arith, both.1)

module _ {C U : Type 0} (units : C → List U) (by : C → Option Stamp) (view : LenView) (xs : List (ℕ × TreeLeaf C)) where
  -- the element that was found is the seen one with p seen ones before it
  pub record SeenOn (p : ℕ) (found : Found) (id : ℕ) : Type 0 where
    pub some : 1 ≤ found.offset
    pub on_leaf : IsOnLeaf units xs (record { owner = id; offset = found.offset - 1 })
    pub place : place_at (seen_in view) p (elements units by xs) ≡ Some (place_on units by xs (record { owner = id; offset = found.offset - 1 }))

  pub seen_on : (p : ℕ) (found : Found) (id : ℕ) → ((i : ℕ) → times_leaf xs i ≤ 1) → place_by (leaf_length units view) xs (suc p) ≡ Some found
      → found.leaf ≡ Some id → SeenOn p found id
  seen_on p found id once e is =
      let r = found_at units by view xs (suc p) found once e in
      let held : IsInLeaf units xs (Some id) found.offset = subst (λ o. IsInLeaf units xs o found.offset) is r.held in
      let there : place (seen_in view) (suc p) (elements units by xs) ≡ held_place units by xs (Some id) found.offset =
      r.place ∙ ap (λ o. held_place units by xs o found.offset) is in
      let some : 1 ≤ found.offset = of_some (value_at xs id) (λ v h. h.0) held in
      record {
        some = some;
        on_leaf = some_and (value_at xs id) (λ v h. omega (arith, h.0, h.1)) held;
        place = at-place (seen_in view) 0 p (place_on units by xs (record { owner = id; offset = found.offset - 1 })) (elements units by xs)
            (omega (arith, found_inside units by view xs (suc p) found e)) (omega (arith, there, some));
      }

  -- nothing is found at the head
  pub seen_head : (p : ℕ) (found : Found) → ((i : ℕ) → times_leaf xs i ≤ 1) → place_by (leaf_length units view) xs (suc p) ≡ Some found
      → found.leaf ≡ None → ⊥
  seen_head p found once e is =
      let r = found_at units by view xs (suc p) found once e in
      let none : found.offset ≡ 0 = subst (λ o. IsInLeaf units xs o found.offset) is r.held in
      let there : place (seen_in view) (suc p) (elements units by xs) ≡ 0 = r.place ∙ ap (λ o. held_place units by xs o found.offset) is in
      omega (arith, place-some (seen_in view) p (elements units by xs), there, found_inside units by view xs (suc p) found e)

  -- no more are seen where none was found
  pub seen_none : (p : ℕ) → place_by (leaf_length units view) xs (suc p) ≡ None → place_at (seen_in {U = U} view) p (elements units by xs) ≡ None
  seen_none p e = at-none (seen_in view) 0 p (elements units by xs) (omega (arith, len_elements units by view xs, beyond_none (leaf_length units view) xs (suc p) (omega arith) e))
