-- Items that are taken out of their place among rising ones.
use Rattle.std.proofs.Common.{◌≡◌, ℕ, List, [], ◌∷◌, Result, Ok, Err, refl, sym, ◌∙◌, ap}
use Rattle.std.specs.List.{remove}
use Rattle.std.specs.declared.cmp.Ordering.{Ordering}
use Rattle.std.specs.declared.cmp.Ordering.TheVariants.{Less, Equal, Greater}
use Rattle.ft_props.specs.Keys.{next_place, remove_rising}
use Rattle.ft_plain_lists.specs.Places.{rising_place}

-- the list without the item at the place, if it is there
abbrev pub removed_at : {A : Type 0} → Result ℕ ℕ → List A → List A
removed_at (Ok i) xs = remove xs i
removed_at (Err i) xs = xs

module _ {A : Type 0} (cmp : A → A → Ordering) where
  next-removed : (r : Result ℕ ℕ) (y : A) (ys : List A) → removed_at (next_place r) (y ∷ ys) ≡ y ∷ removed_at r ys
  next-removed (Ok i) y ys = refl
  next-removed (Err i) y ys = refl

  -- what is removed stood at its key's place
  pub rising-removed : (x : A) (xs : List A) → remove_rising cmp x xs ≡ removed_at (rising_place cmp x xs) xs
  rising-removed x [] = refl
  rising-removed x (y ∷ ys) = step (cmp x y) (rising-removed x ys)
    where
      step : (o : Ordering) → remove_rising cmp x ys ≡ removed_at (rising_place cmp x ys) ys
          → elim o [ Less ↦ y ∷ ys | Equal ↦ ys | Greater ↦ y ∷ remove_rising cmp x ys ]
          ≡ removed_at (elim o [ Less ↦ Err 0 | Equal ↦ Ok 0 | Greater ↦ next_place (rising_place cmp x ys) ]) (y ∷ ys)
      step Less h = refl
      step Equal h = refl
      step Greater h = ap (λ zs. y ∷ zs) h ∙ sym (next-removed (rising_place cmp x ys) y ys)

  -- of two items of one place either serves
  pub removed-alike : (a b : A) → ((y : A) → cmp a y ≡ cmp b y) → (xs : List A) → remove_rising cmp a xs ≡ remove_rising cmp b xs
  removed-alike a b same [] = refl
  removed-alike a b same (y ∷ ys) = step (cmp a y) (cmp b y) (same y) (removed-alike a b same ys)
    where
      step : (o q : Ordering) → o ≡ q → remove_rising cmp a ys ≡ remove_rising cmp b ys
          → elim o [ Less ↦ y ∷ ys | Equal ↦ ys | Greater ↦ y ∷ remove_rising cmp a ys ]
          ≡ elim q as (λ _. List A) [ Less ↦ y ∷ ys | Equal ↦ ys | Greater ↦ y ∷ remove_rising cmp b ys ]
      step Less Less e h = refl
      step Equal Equal e h = refl
      step Greater Greater e h = ap (λ zs. y ∷ zs) h
      step Less Equal e h = (cc)
      step Less Greater e h = (cc)
      step Equal Less e h = (cc)
      step Equal Greater e h = (cc)
      step Greater Less e h = (cc)
      step Greater Equal e h = (cc)
