-- Lists of which each element is marked as staying or going: what stays, and where it stands then.
use Rattle.std.proofs.Common.{◌≡◌, ℕ, zero, suc, ◌+◌, ◌-◌, ◌<◌, ◌≤◌, Bool, true, false, not, nat_le, List, [], ◌∷◌, ◌++◌, map, length, IfSome, slice_get, inl, inr, refl, sym, ◌∙◌, ap, arith}
use Rattle.std.specs.Prelude.{option_map, ◌⊎◌}
use Rattle.std.proofs.lemmas.Bool.Decides.{nat_tests}
use Rattle.std.proofs.lemmas.List.{length-map}
use Rattle.ft_base.specs.Scan.{len}
use Rattle.ft_base.proofs.ScanLaws.{retain_map-append}
use Rattle.ft_tree_leaves.specs.Places.{seen_before}
use Rattle.ft_zamboni.specs.Scours.{place_among, staying}

-- a place among those that stay, before and after n of them from the k-th on are gone
abbrev pub Closes : ℕ → ℕ → ℕ → ℕ → Type 0
Closes k n j j' = ((j < k) × (j' ≡ j)) ⊎ ((k + n ≤ j) × (j' + n ≡ j))

closes-more : (k n j j' : ℕ) → Closes k n j j' → Closes (suc k) n (suc j) (suc j')
closes-more k n j j' (inl h) = inl (omega (arith, h.0), ap (λ m. suc m) h.1)
closes-more k n j j' (inr h) = inr (omega (arith, h.0), omega (arith, h.1))

gone-none : (A : Type 0) (i : ℕ) → seen_before {A = Bool × A} (λ x. x.0) [] i ≡ 0
gone-none A zero = refl
gone-none A (suc i) = refl

module _ {A : Type 0} where
  -- whether it goes
  abbrev goes : Bool × A → Bool
  goes x = x.0

  -- how many of the first i go
  abbrev pub gone : List (Bool × A) → ℕ → ℕ
  gone xs i = seen_before goes xs i

  abbrev pub stay : A → Bool × A
  stay x = (false, x)

  abbrev pub go : A → Bool × A
  go x = (true, x)

  -- the element at a place stays, if there is one
  abbrev pub StaysAt : List (Bool × A) → ℕ → Type 0
  StaysAt xs i = IfSome (slice_get xs i) (λ x. x.0 ≡ false)

  pub gone-few : (xs : List (Bool × A)) (i : ℕ) → gone xs i ≤ i
  gone-few xs zero = omega arith
  gone-few [] (suc i) = omega arith
  gone-few ((true, x) ∷ xs) (suc i) = omega (arith, gone-few xs i)
  gone-few ((false, x) ∷ xs) (suc i) = omega (arith, gone-few xs i)

  pub gone-append : (xs ys : List (Bool × A)) (i : ℕ) → gone (xs ++ ys) i ≡ gone xs i + gone ys (i - length xs)
  gone-append [] ys i = let e : i - 0 ≡ i = omega arith in rw e (omega (arith, gone-none A i))
  gone-append (x ∷ xs) ys zero = let none : 0 - suc (length xs) ≡ 0 = omega arith in rw none (omega (arith, gone-few ys zero))
  gone-append ((true, x) ∷ xs) ys (suc i) = let e : suc i - suc (length xs)
      ≡ i - length xs = omega arith in rw e (omega (arith, gone-append xs ys i))
  gone-append ((false, x) ∷ xs) ys (suc i) = let e : suc i - suc (length xs) ≡ i - length xs = omega arith in rw e (gone-append xs ys i)

  pub gone-stay : (es : List A) (i : ℕ) → gone (map stay es) i ≡ 0
  gone-stay es zero = refl
  gone-stay [] (suc i) = refl
  gone-stay (e ∷ es) (suc i) = gone-stay es i

  pub staying-append : (xs ys : List (Bool × A)) → staying (xs ++ ys) ≡ staying xs ++ staying ys
  staying-append xs ys = retain_map-append (λ x. not x.0) (λ x. x.1) xs ys

  pub staying-stay : (es : List A) → staying (map stay es) ≡ es
  staying-stay [] = refl
  staying-stay (e ∷ es) = ap (λ xs. e ∷ xs) (staying-stay es)

  pub staying-go : (es : List A) → staying (map go es) ≡ []
  staying-go [] = refl
  staying-go (e ∷ es) = staying-go es

  -- what stays stands at its place among what stays
  pub staying-at : (xs : List (Bool × A)) (i : ℕ) → StaysAt xs i → slice_get (staying xs) (place_among xs i)
      ≡ option_map (λ x. x.1) (slice_get xs i)
  staying-at [] i h = refl
  staying-at ((true, x) ∷ xs) zero h = (cc)
  staying-at ((false, x) ∷ xs) zero h = refl
  staying-at ((true, x) ∷ xs) (suc i) h = let e : suc i - suc (gone xs i) ≡ i - gone xs i = omega arith in rw e (staying-at xs i h)
  staying-at ((false, x) ∷ xs) (suc i) h = let e : suc i - gone xs i
      ≡ suc (i - gone xs i) = omega (arith, gone-few xs i) in rw e (staying-at xs i h)

  closes-run : (es : List A) (ys : List (Bool × A)) (i : ℕ) → StaysAt (map go es ++ ys) i
      → Closes 0 (length es) (place_among (map stay es ++ ys) i) (place_among (map go es ++ ys) i)
  closes-run [] ys i h = inr (omega arith, omega arith)
  closes-run (e ∷ es) ys zero h = (cc)
  closes-run (e ∷ es) ys (suc i) h = step (closes-run es ys i h)
    where
      step : Closes 0 (length es) (place_among (map stay es ++ ys) i) (place_among (map go es ++ ys) i)
          → Closes 0 (suc (length es)) (suc i - gone (map stay es ++ ys) i) (suc i - suc (gone (map go es ++ ys) i))
      step (inl c) = absurd (omega (arith, c.0))
      step (inr c) = inr (
        omega (arith, c.0, gone-few (map stay es ++ ys) i),
        omega
            (arith, c.1, gone-few (map stay es ++ ys) i, gone-few (map go es ++ ys) i),
      )

  -- the place of one that stays, once others that stayed so far go too
  pub closes : (xs : List (Bool × A)) (es : List A) (ys : List (Bool × A)) (i : ℕ) → StaysAt (xs ++ (map go es ++ ys)) i
      → Closes (length (staying xs)) (length es) (place_among (xs ++ (map stay es ++ ys)) i) (place_among (xs ++ (map go es ++ ys)) i)
  closes [] es ys i h = closes-run es ys i h
  closes ((true, x) ∷ xs) es ys zero h = (cc)
  closes ((false, x) ∷ xs) es ys zero h = inl (omega arith, refl)
  closes ((true, x) ∷ xs) es ys (suc i) h =
      let a : suc i - suc (gone (xs ++ (map stay es ++ ys)) i) ≡ i - gone (xs ++ (map stay es ++ ys)) i = omega arith in
      let b : suc i - suc (gone (xs ++ (map go es ++ ys)) i) ≡ i - gone (xs ++ (map go es ++ ys)) i = omega arith in
      rw (a, b) (closes xs es ys i h)
  closes ((false, x) ∷ xs) es ys (suc i) h =
      let a : suc i - gone (xs ++ (map stay es ++ ys)) i
      ≡ suc (i - gone (xs ++ (map stay es ++ ys)) i) = omega (arith, gone-few (xs ++ (map stay es ++ ys)) i) in
      let b : suc i - gone (xs ++ (map go es ++ ys)) i
      ≡ suc (i - gone (xs ++ (map go es ++ ys)) i) = omega (arith, gone-few (xs ++ (map go es ++ ys)) i) in
      rw (a, b) (closes-more _ _ _ _ (closes xs es ys i h))

  gone-all : (xs : List (Bool × A)) (i : ℕ) → length xs ≤ i → gone xs i ≡ len goes xs
  gone-all [] i h = gone-none A i
  gone-all (x ∷ xs) zero h = absurd (omega arith)
  gone-all ((true, x) ∷ xs) (suc i) h = ap (λ n. suc n) (gone-all xs i (omega arith))
  gone-all ((false, x) ∷ xs) (suc i) h = gone-all xs i (omega arith)

  gone-once : (front : List (Bool × A)) (i j : ℕ) (b : Bool) → nat_le i (length front) ≡ b → (i ≤ length front → j ≡ i)
      → (length front ≤ i → length front ≤ j)
      → gone front j ≡ gone front i
  gone-once front i j true e near far = let low : i ≤ length front = grind (arith, nat_tests) in ap (λ k. gone front k) (near low)
  gone-once front i j false e near far =
      let high : length front ≤ i = grind (arith, nat_tests) in gone-all front j (far high) ∙ sym (gone-all front i high)

  -- marks first in front and then behind, or both at once
  pub placed-twice : (front ahead : List (Bool × A)) (es rest : List A) (i : ℕ) → length front ≡ length es
      → place_among (front ++ map stay rest) (place_among (map stay es ++ ahead) i) ≡ place_among (front ++ ahead) i
  placed-twice front ahead es rest i same =
      let j = place_among (map stay es ++ ahead) i in
      let size : length (map stay es) ≡ length front = length-map es stay ∙ sym same in
      let behind : gone (map stay es ++ ahead) i ≡ gone ahead (i - length front) =
      gone-append (map stay es) ahead i ∙ ap (λ n. n + gone ahead (i - length (map stay es))) (gone-stay es i)
      ∙ omega (arith, ap (λ n. gone ahead (i - n)) size) in
      let few = gone-few ahead (i - length front) in
      let once = gone-once front i j (nat_le i (length front)) refl (λ h. omega (arith, behind, few)) (λ h. omega (arith, behind, few)) in
      omega (
        arith,
        behind,
        few,
        once,
        gone-append front (map stay rest) j,
        gone-stay rest (j - length front),
        gone-append front ahead i,
      )

module _ {A : Type 0} (test : A → Bool) where
  abbrev pub mark : A → Bool × A
  mark x = (test x, x)

  -- the element at a place isn't one that could go
  abbrev pub IsClearAt : List A → ℕ → Type 0
  IsClearAt es i = IfSome (slice_get es i) (λ x. test x ≡ false)

  pub clear-stay : (es : List A) (i : ℕ) → StaysAt (map stay es) i
  clear-stay [] i = tt
  clear-stay (e ∷ es) zero = refl
  clear-stay (e ∷ es) (suc i) = clear-stay es i

  pub clear-before : (es fs : List A) (xs : List (Bool × A)) → ((i : ℕ) → IsClearAt fs i → StaysAt xs i)
      → (i : ℕ) → IsClearAt (es ++ fs) i → StaysAt (map stay es ++ xs) i
  clear-before [] fs xs h i c = h i c
  clear-before (e ∷ es) fs xs h zero c = refl
  clear-before (e ∷ es) fs xs h (suc i) c = clear-before es fs xs h i c

  pub clear-marked : (es fs : List A) (xs : List (Bool × A)) → ((i : ℕ) → IsClearAt fs i → StaysAt xs i)
      → (i : ℕ) → IsClearAt (es ++ fs) i → StaysAt (map mark es ++ xs) i
  clear-marked [] fs xs h i c = h i c
  clear-marked (e ∷ es) fs xs h zero c = c
  clear-marked (e ∷ es) fs xs h (suc i) c = clear-marked es fs xs h i c
