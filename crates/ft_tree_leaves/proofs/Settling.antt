-- Where a reference goes: by places, and leaf by leaf.
use Rattle.std.proofs.Common.{◌≡◌, ◌≢◌, ℕ, ◌+◌, ◌<◌, ◌≤◌, Bool, true, false, cond, nat_eq, List, [], ◌∷◌, ◌++◌, map, length, Option, Some, None, option_map, find, refl, ◌∙◌, ap, inl, inr, arith}
use Rattle.std.specs.List.{enumerate_from}
use Rattle.std.specs.Option.{option_or}
use Rattle.std.proofs.lemmas.Bool.{cases_eq, cond-true, cond-false, eq-eqb, ne_eqb}
use Rattle.ft_base.specs.Scan.{settled_after}
use Rattle.ft_tree_leaves.specs.Places.{settled_place}
use Rattle.ft_tree_leaves.specs.Settling.{first_from, settled_from}

module _ {A : Type 0} (ok : A → Bool) where
  abbrev ok_at : ℕ × A → Bool
  ok_at x = ok x.1

  abbrev number : ℕ × A → ℕ
  number x = x.0

  first_by : (b : Bool) (n : ℕ) (x : A) (o : Option (ℕ × A)) (p : Option ℕ) → option_map number o ≡ p
      → option_map number (cond b (Some (n, x)) o) ≡ cond b (Some n) p
  first_by true n x o p e = refl
  first_by false n x o p e = e

  found_first : (n : ℕ) (xs : List A) → option_map number (find ok_at (enumerate_from n xs)) ≡ first_from ok n xs
  found_first n [] = refl
  found_first n (x ∷ xs) = first_by (ok x) n x (find ok_at (enumerate_from (n + 1) xs)) (first_from ok (n + 1) xs) (found_first (n + 1) xs)

  or_by : (a b : Option (ℕ × A)) (p : Option ℕ) → option_map number a ≡ p → option_map number (option_or a b) ≡ option_or p (option_map number b)
  or_by None b p e = ap (λ q. option_or q (option_map number b)) e
  or_by (Some x) b p e = ap (λ q. option_or q (option_map number b)) e

  last_by : (b : Bool) (n : ℕ) (x : A) (last : Option (ℕ × A)) → option_map number (cond b (Some (n, x)) last) ≡ cond b (Some n) (option_map number last)
  last_by true n x last = refl
  last_by false n x last = refl

  both_by : (b : Bool) (a c : Option (ℕ × A)) (p q : Option ℕ) → option_map number a ≡ p → option_map number c ≡ q → option_map number (cond b a c) ≡ cond b p q
  both_by true a c p q d e = d
  both_by false a c p q d e = e

  named : (i : ℕ) (last : Option (ℕ × A)) (n : ℕ) (xs : List A)
      → option_map number (settled_after (λ x. nat_eq x.0 i) ok_at last (enumerate_from n xs)) ≡ settled_from ok i (option_map number last) n xs
  named i last n [] = refl
  named i last n (x ∷ xs) =
      both_by (nat_eq n i) _ _ _ _ (or_by (find ok_at (enumerate_from n (x ∷ xs))) last (first_from ok n (x ∷ xs)) (found_first n (x ∷ xs)))
      (named i (cond (ok x) (Some (n, x)) last) (n + 1) xs ∙ ap (λ o. settled_from ok i o (n + 1) xs) (last_by (ok x) n x last))

  pub settled_place-from : (i : ℕ) (xs : List A) → settled_place ok xs i ≡ settled_from ok i None 0 xs
  settled_place-from i xs = named i None 0 xs

  here : (n i : ℕ) {X : Type 0} (a b : X) → n ≡ i → cond (nat_eq n i) a b ≡ a
  here n i a b e = cond-true (nat_eq n i) a b (eq-eqb n i e)

  later : (n i : ℕ) {X : Type 0} (a b : X) → n ≢ i → cond (nat_eq n i) a b ≡ b
  later n i a b d = cond-false (nat_eq n i) a b (ne_eqb n i d)

  module _ {U : Type 0} (f : U → A) where
    -- the first one behind a run that isn't ok
    pub first-past : ((u : U) → ok (f u) ≡ false) → (us : List U) (n m : ℕ) (ys : List A) → m ≡ n + length us
        → first_from ok n (map f us ++ ys) ≡ first_from ok m ys
    first-past h [] n m ys e = let same : n ≡ m = omega arith in ap (λ k. first_from ok k ys) same
    first-past h (u ∷ us) n m ys e = ap (λ b. cond b (Some n) (first_from ok (n + 1) (map f us ++ ys))) (h u) ∙ first-past h us (n + 1) m ys (omega arith)

    pub first-here : ((u : U) → ok (f u) ≡ true) → (us : List U) (n : ℕ) (ys : List A) → 0 < length us → first_from ok n (map f us ++ ys) ≡ Some n
    first-here h [] n ys some = absurd (omega arith)
    first-here h (u ∷ us) n ys some = ap (λ b. cond b (Some n) (first_from ok (n + 1) (map f us ++ ys))) (h u)

    -- the place is in a run that is ok
    pub settled-here : ((u : U) → ok (f u) ≡ true) → (us : List U) (i n : ℕ) (last : Option ℕ) (ys : List A) → n ≤ i → i < n + length us
        → settled_from ok i last n (map f us ++ ys) ≡ Some i
    settled-here h [] i n last ys le less = absurd (omega arith)
    settled-here h (u ∷ us) i n last ys le less = elim (cases_eq n i) [
      | inl e ↦
          here n i (option_or (first_from ok n (map f (u ∷ us) ++ ys)) last) (settled_from ok i (cond (ok (f u)) (Some n) last) (n + 1) (map f us ++ ys)) e
          ∙ ap (λ b. option_or (cond b (Some n) (first_from ok (n + 1) (map f us ++ ys))) last) (h u) ∙ ap (λ k. Some k) e
      | inr d ↦
          later n i (option_or (first_from ok n (map f (u ∷ us) ++ ys)) last) (settled_from ok i (cond (ok (f u)) (Some n) last) (n + 1) (map f us ++ ys)) d
          ∙ settled-here h us i (n + 1) (cond (ok (f u)) (Some n) last) ys (omega arith) (omega arith)
    ]

    -- the place is in a run that isn't
    pub settled-beside : ((u : U) → ok (f u) ≡ false) → (us : List U) (i n m : ℕ) (last : Option ℕ) (ys : List A) → m ≡ n + length us → n ≤ i → i < m
        → settled_from ok i last n (map f us ++ ys) ≡ option_or (first_from ok m ys) last
    settled-beside h [] i n m last ys e le less = absurd (omega arith)
    settled-beside h (u ∷ us) i n m last ys e le less = elim (cases_eq n i) [
      | inl same ↦
          here n i (option_or (first_from ok n (map f (u ∷ us) ++ ys)) last) (settled_from ok i (cond (ok (f u)) (Some n) last) (n + 1) (map f us ++ ys)) same
          ∙ ap (λ o. option_or o last) (first-past h (u ∷ us) n m ys e)
      | inr d ↦
          later n i (option_or (first_from ok n (map f (u ∷ us) ++ ys)) last) (settled_from ok i (cond (ok (f u)) (Some n) last) (n + 1) (map f us ++ ys)) d
          ∙ ap (λ b. settled_from ok i (cond b (Some n) last) (n + 1) (map f us ++ ys)) (h u) ∙ settled-beside h us i (n + 1) m last ys (omega arith) (omega arith) less
    ]
