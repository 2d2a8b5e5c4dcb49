-- Ends keep their order where all of them slide, settle at a stage, or are shown.
use Rattle.std.proofs.Common.{◌≡◌, ◌≢◌, ℕ, ◌+◌, ◌<◌, ◌≤◌, ◌≤ℤ◌, Bool, true, false, cond, nat_eq, List, [], ◌∷◌, length, Option, Some, None, option_and_then, refl, sym, subst, inl, inr, arith}
use Rattle.std.specs.Option.{option_or}
use Rattle.std.proofs.lemmas.Int.{ints}
use Rattle.std.proofs.lemmas.Bool.{cases_eq, cond-true, cond-false, eq-eqb, ne_eqb}
use Rattle.ft_tree_leaves.specs.Places.{settled_place}
use Rattle.ft_tree_leaves.specs.Settling.{first_from, settled_from}
use Rattle.ft_tree_leaves.proofs.Settling.{settled_place-from}
use Rattle.ft_interval_index.specs.Order.{IsAtMost, IsWithin, place_number}

pub at-most-self : (a : Option ℕ) → IsAtMost a a
at-most-self None = tt
at-most-self (Some i) = omega arith

pub at-most-trans : (a b c : Option ℕ) → IsAtMost a b → IsAtMost b c → IsAtMost a c
at-most-trans None b c p q = tt
at-most-trans (Some i) None c p q = absurd p
at-most-trans (Some i) (Some j) None p q = absurd q
at-most-trans (Some i) (Some j) (Some k) p q = omega (arith, p, q)

pub within-more : (n m : ℕ) (a : Option ℕ) → n ≤ m → IsWithin n a → IsWithin m a
within-more n m None l w = tt
within-more n m (Some i) l w = omega (arith, l, w)

pub number-most : (a b : Option ℕ) → place_number a ≤ℤ place_number b → IsAtMost a b
number-most None b h = tt
number-most (Some i) None h = absurd (omega (arith, ints, h))
number-most (Some i) (Some j) h = omega (arith, ints, h)

pub most-number : (a b : Option ℕ) → IsAtMost a b → place_number a ≤ℤ place_number b
most-number None None h = omega (arith, ints)
most-number None (Some j) h = omega (arith, ints)
most-number (Some i) None h = absurd h
most-number (Some i) (Some j) h = omega (arith, ints, h)

next-within : (b : Bool) (n : ℕ) (last : Option ℕ) → IsWithin n last → IsWithin (n + 1) (cond b (Some n) last)
next-within true n last w = omega arith
next-within false n last w = within-more n (n + 1) last (omega arith) w

last-at-most : (b : Bool) (n : ℕ) (last : Option ℕ) → IsWithin n last → IsAtMost last (cond b (Some n) last)
last-at-most true n None w = tt
last-at-most true n (Some k) w = omega (arith, w)
last-at-most false n last w = at-most-self last

or-at-most : (n : ℕ) (last o : Option ℕ) → IsWithin n last → ((j : ℕ) → o ≡ Some j → n ≤ j) → IsAtMost last (option_or o last)
or-at-most n last None w h = at-most-self last
or-at-most n None (Some j) w h = tt
or-at-most n (Some k) (Some j) w h = omega (arith, w, h j refl)

or-within : (m : ℕ) (last o : Option ℕ) → IsWithin m last → IsWithin m o → IsWithin m (option_or o last)
or-within m last None w h = w
or-within m last (Some j) w h = h

module _ {A : Type 0} (ok : A → Bool) where
  here : (i n : ℕ) (last : Option ℕ) (x : A) (xs : List A) → n ≡ i → settled_from ok i last n (x ∷ xs) ≡ option_or (first_from ok n (x ∷ xs)) last
  here i n last x xs e = cond-true (nat_eq n i) _ _ (eq-eqb n i e)

  later : (i n : ℕ) (last : Option ℕ) (x : A) (xs : List A) → n ≢ i
      → settled_from ok i last n (x ∷ xs) ≡ settled_from ok i (cond (ok x) (Some n) last) (n + 1) xs
  later i n last x xs d = cond-false (nat_eq n i) _ _ (ne_eqb n i d)

  first-least : (n : ℕ) (xs : List A) (j : ℕ) → first_from ok n xs ≡ Some j → n ≤ j
  first-least n [] j e = (cc)
  first-least n (x ∷ xs) j e = step (ok x) e (first-least (n + 1) xs j)
    where
      step : (b : Bool) → cond b (Some n) (first_from ok (n + 1) xs) ≡ Some j → (first_from ok (n + 1) xs ≡ Some j → n + 1 ≤ j) → n ≤ j
      step true g rest = (let same : n ≡ j = (cc) in omega (arith, same))
      step false g rest = (let far = rest g in omega (arith, far))

  first-within : (n : ℕ) (xs : List A) → IsWithin (n + length xs) (first_from ok n xs)
  first-within n [] = tt
  first-within n (x ∷ xs) = step (ok x) (first-within (n + 1) xs)
    where
      step : (b : Bool) → IsWithin (n + 1 + length xs) (first_from ok (n + 1) xs) → IsWithin (n + length (x ∷ xs)) (cond b (Some n) (first_from ok (n + 1) xs))
      step true rest = omega arith
      step false rest = within-more (n + 1 + length xs) (n + length (x ∷ xs)) (first_from ok (n + 1) xs) (omega arith) rest

  -- it goes no further back than the last place before the list that is ok
  settled-least : (i n : ℕ) (last : Option ℕ) (xs : List A) → IsWithin n last → n ≤ i → i < n + length xs → IsAtMost last (settled_from ok i last n xs)
  settled-least i n last [] w l s = absurd (omega (arith, l, s))
  settled-least i n last (x ∷ xs) w l s = elim (cases_eq n i) [
    | inl e ↦ subst (λ r. IsAtMost last r) (sym (here i n last x xs e)) (or-at-most n last (first_from ok n (x ∷ xs)) w (first-least n (x ∷ xs)))
    | inr d ↦ subst (λ r. IsAtMost last r) (sym (later i n last x xs d))
        (at-most-trans last (cond (ok x) (Some n) last) (settled_from ok i (cond (ok x) (Some n) last) (n + 1) xs) (last-at-most (ok x) n last w)
        (settled-least i (n + 1) (cond (ok x) (Some n) last) xs (next-within (ok x) n last w) (omega (arith, l, d)) (omega (arith, s))))
  ]

  first-at-most : (j n : ℕ) (last : Option ℕ) (xs : List A) → IsWithin n last → n ≤ j → j < n + length xs
      → IsAtMost (option_or (first_from ok n xs) last) (settled_from ok j last n xs)
  first-at-most j n last [] w l s = absurd (omega (arith, l, s))
  first-at-most j n last (x ∷ xs) w l s = elim (cases_eq n j) [
    | inl e ↦ subst (λ r. IsAtMost (option_or (first_from ok n (x ∷ xs)) last) r) (sym (here j n last x xs e)) (at-most-self (option_or (first_from ok n (x ∷ xs)) last))
    | inr d ↦ subst (λ r. IsAtMost (option_or (first_from ok n (x ∷ xs)) last) r) (sym (later j n last x xs d))
        (step (ok x) (first-at-most j (n + 1) last xs (within-more n (n + 1) last (omega arith) w) (omega (arith, l, d)) (omega (arith, s)))
        (settled-least j (n + 1) (Some n) xs (omega arith) (omega (arith, l, d)) (omega (arith, s))))
  ]
    where
      step : (b : Bool) → IsAtMost (option_or (first_from ok (n + 1) xs) last) (settled_from ok j last (n + 1) xs)
          → IsAtMost (Some n) (settled_from ok j (Some n) (n + 1) xs)
          → IsAtMost (option_or (cond b (Some n) (first_from ok (n + 1) xs)) last) (settled_from ok j (cond b (Some n) last) (n + 1) xs)
      step true rest next = next
      step false rest next = rest

  settled-rises : (i j n : ℕ) (last : Option ℕ) (xs : List A) → IsWithin n last → n ≤ i → i ≤ j → j < n + length xs
      → IsAtMost (settled_from ok i last n xs) (settled_from ok j last n xs)
  settled-rises i j n last [] w l m s = absurd (omega (arith, l, m, s))
  settled-rises i j n last (x ∷ xs) w l m s = elim (cases_eq n i) [
    | inl e ↦ subst (λ r. IsAtMost r (settled_from ok j last n (x ∷ xs))) (sym (here i n last x xs e)) (first-at-most j n last (x ∷ xs) w (omega (arith, l, m)) s)
    | inr d ↦ subst (λ r. IsAtMost r (settled_from ok j last n (x ∷ xs))) (sym (later i n last x xs d))
        (subst (λ r. IsAtMost (settled_from ok i (cond (ok x) (Some n) last) (n + 1) xs) r) (sym (later j n last x xs (behind d)))
        (settled-rises i j (n + 1) (cond (ok x) (Some n) last) xs (next-within (ok x) n last w) (omega (arith, l, d)) m (omega (arith, s))))
  ]
    where
      behind : n ≢ i → n ≢ j
      behind d e = absurd (omega (arith, l, m, d, e))

  settled-stays-within : (i n : ℕ) (last : Option ℕ) (xs : List A) → IsWithin n last → IsWithin (n + length xs) (settled_from ok i last n xs)
  settled-stays-within i n last [] w = tt
  settled-stays-within i n last (x ∷ xs) w = step (nat_eq n i) (option_or (first_from ok n (x ∷ xs)) last) (settled_from ok i (cond (ok x) (Some n) last) (n + 1) xs)
      (or-within (n + length (x ∷ xs)) last (first_from ok n (x ∷ xs)) (within-more n (n + length (x ∷ xs)) last (omega arith) w) (first-within n (x ∷ xs)))
      (within-more (n + 1 + length xs) (n + length (x ∷ xs)) (settled_from ok i (cond (ok x) (Some n) last) (n + 1) xs) (omega arith)
      (settled-stays-within i (n + 1) (cond (ok x) (Some n) last) xs (next-within (ok x) n last w)))
    where
      step : (b : Bool) (p q : Option ℕ) → IsWithin (n + length (x ∷ xs)) p → IsWithin (n + length (x ∷ xs)) q → IsWithin (n + length (x ∷ xs)) (cond b p q)
      step true p q h g = h
      step false p q h g = g

  abbrev settle : List A → Option ℕ → Option ℕ
  settle xs a = option_and_then (settled_place ok xs) a

  -- of two ends that settle on elements that are ok, none passes the other
  pub settle-rises : (xs : List A) (a b : Option ℕ) → IsWithin (length xs) b → IsAtMost a b → IsAtMost (settle xs a) (settle xs b)
  settle-rises xs None b w h = tt
  settle-rises xs (Some i) None w h = absurd h
  settle-rises xs (Some i) (Some j) w h =
      subst (λ r. IsAtMost r (settled_place ok xs j)) (sym (settled_place-from ok i xs))
      (subst (λ r. IsAtMost (settled_from ok i None 0 xs) r) (sym (settled_place-from ok j xs))
      (settled-rises i j 0 None xs tt (omega arith) h (omega (arith, w))))

  pub settle-within : (xs : List A) (a : Option ℕ) → IsWithin (length xs) (settle xs a)
  settle-within xs None = tt
  settle-within xs (Some i) =
      subst (λ r. IsWithin (length xs) r) (sym (settled_place-from ok i xs))
      (within-more (0 + length xs) (length xs) (settled_from ok i None 0 xs) (omega arith) (settled-stays-within i 0 None xs tt))
