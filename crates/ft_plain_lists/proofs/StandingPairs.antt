-- What stands on both sides of a place and beside a range, element by element.
use Rattle.std.proofs.Common.{◌≡◌, ℕ, zero, suc, ◌+◌, ◌<◌, Bool, true, false, cond, not, ◌&&◌, ◌||◌, List, [], ◌∷◌, ◌++◌, refl, sym, ◌∙◌, ap, arith, drop, filter, get_or, length, reverse, take}
use Rattle.std.specs.List.{prefix_len}
use Rattle.std.proofs.lemmas.Bool.{or_right}
use Rattle.std.proofs.lemmas.List.{reverse-append, take_more}
use Rattle.ft_base.specs.Scan.{one_more_if, place, within}
use Rattle.ft_changes.specs.Beside.{first_passes, marked_range, pass_beside_marked, passes_beside_range}
use Rattle.ft_changes.specs.ShownRuns.{place_of_insertion, shown_in_run}

-- ---- the place of an insertion among all elements

run-all : {A : Type 0} (past : A → Bool) (xs : List A) → shown_in_run past (λ (x : A). true) xs ≡ prefix_len past xs
run-all past [] = refl
run-all past (x ∷ xs) =
    let next : suc (prefix_len past xs) ≡ 1 + prefix_len past xs = omega arith in
    ap (λ n. cond (past x) (suc n) 0) (run-all past xs) ∙ ap (λ n. cond (past x) n 0) next

pub insertion-all : {A : Type 0} (seen past : A → Bool) (p : ℕ) (xs : List A)
    → place_of_insertion seen past (λ (x : A). true) p xs ≡ place seen p xs + prefix_len past (drop (place seen p xs) xs)
insertion-all seen past zero xs = let none : prefix_len past xs ≡ 0 + prefix_len past xs = omega arith in run-all past xs ∙ none
insertion-all seen past (suc p) [] = refl
insertion-all seen past (suc p) (x ∷ xs) =
    let n = place seen (cond (seen x) p (suc p)) xs in
    let next : suc (n + prefix_len past (drop n xs)) ≡ suc n + prefix_len past (drop n xs) = omega arith in
    ap suc (insertion-all seen past (cond (seen x) p (suc p)) xs) ∙ next

-- ---- the last that stands

pub last-next : {A : Type 0} (stands test : A → Bool) (xs : List A) (x : A)
    → first_passes stands test (reverse (xs ++ (x ∷ []))) ≡ cond (stands x) (test x) (first_passes stands test (reverse xs))
last-next stands test xs x = ap (first_passes stands test) (reverse-append xs (x ∷ []))

pub last-more : {A : Type 0} (stands test : A → Bool) (xs : List A) (i : ℕ) (x : A) → i < length xs → x ≡ get_or xs i x
    → first_passes stands test (reverse (take (i + 1) xs)) ≡ cond (stands x) (test x) (first_passes stands test (reverse (take i xs)))
last-more stands test xs i x h e =
    ap (λ ys. first_passes stands test (reverse ys)) (take_more xs i x h ∙ ap (λ y. take i xs ++ (y ∷ [])) (sym e))
    ∙ last-next stands test (take i xs) x

-- ---- neighbours

module _ {A : Type 0} (test : A → Bool) where
  -- whether those beside marked ones pass the test, where one stands before them that is marked by m, and passes by t
  abbrev pub pass_next_to : Bool → Bool → List (Bool × A) → Bool
  pass_next_to m t [] = true
  pass_next_to m t (b ∷ xs) = cond m (b.0 || test b.1) (not b.0 || t) && pass_next_to b.0 (test b.1) xs

  next_to-one : (a : Bool × A) (xs : List (Bool × A)) → pass_next_to a.0 (test a.1) xs ≡ pass_beside_marked test (a ∷ xs)
  next_to-one a [] = refl
  next_to-one a (b ∷ xs) = ap (λ r. cond a.0 (b.0 || test b.1) (not b.0 || test a.1) && r) (next_to-one b xs)

  -- one that isn't marked and passes the test changes nothing
  pub next_to-none : (xs : List (Bool × A)) → pass_next_to false true xs ≡ pass_beside_marked test xs
  next_to-none [] = refl
  next_to-none (a ∷ xs) = ap (λ b. b && pass_next_to a.0 (test a.1) xs) (or_right (not a.0) true refl) ∙ next_to-one a xs

-- those that stand, each with whether it is in the range, where n are seen before the list
abbrev pub standing_from : {A : Type 0} → (A → Bool) → (A → Bool) → ℕ → ℕ → ℕ → List A → List (Bool × A)
standing_from seen stands p q n xs = filter (λ m. stands m.1) (marked_range n seen p q xs)

module _ {A : Type 0} (seen stands test : A → Bool) (p q : ℕ) where
  abbrev pub RestPasses : Bool → Bool → ℕ → List A → List A → Type 0
  RestPasses m t n rest xs = pass_next_to test m t (standing_from seen stands p q n rest) ≡ passes_beside_range seen stands test p q xs

  pub rest-none : (xs : List A) → RestPasses false true 0 xs xs
  rest-none xs = next_to-none test (standing_from seen stands p q 0 xs)

  -- ---- one element more of the rest

  module _ (m t : Bool) (n : ℕ) (x : A) (rest xs : List A) (h : RestPasses m t n (x ∷ rest) xs) where
    abbrev behind : List (Bool × A)
    behind = standing_from seen stands p q (one_more_if (seen x) n) rest

    abbrev Meets : Bool → Bool → Bool → Type 0
    Meets k u b = cond m (k || u) (not k || t) ≡ b

    met : (b k u : Bool) → stands x ≡ true → k ≡ (seen x && within p q n) → u ≡ test x → Meets k u b
        → b && pass_next_to test k u behind ≡ passes_beside_range seen stands test p q xs
    met b k u s inside tests may =
        ap (λ c. c && pass_next_to test k u behind) (sym may)
        ∙ ap (λ d. cond m (d || u) (not d || t) && pass_next_to test d u behind) inside
        ∙ ap (λ d. cond m ((seen x && within p q n) || d) (not (seen x && within p q n) || t)
        && pass_next_to test (seen x && within p q n) d behind) tests
        ∙ ap (λ c. pass_next_to test m t (cond c ((seen x && within p q n, x) ∷ behind) behind)) (sym s) ∙ h

    -- that stands, and may stand there
    pub rest-standing : (k u : Bool) → stands x ≡ true → k ≡ (seen x && within p q n) → u ≡ test x → cond m (k || u) (not k || t) ≡ true
        → RestPasses k u (one_more_if (seen x) n) rest xs
    rest-standing k u s inside tests may = met true k u s inside tests may

    -- or may not
    pub rest-refused : (k u : Bool) → stands x ≡ true → k ≡ (seen x && within p q n) → u ≡ test x → cond m (k || u) (not k || t) ≡ false
        → false ≡ passes_beside_range seen stands test p q xs
    rest-refused k u s inside tests may = met false k u s inside tests may

    -- that doesn't stand
    pub rest-passed : stands x ≡ false → RestPasses m t (one_more_if (seen x) n) rest xs
    rest-passed s = ap (λ b. pass_next_to test m t (cond b ((seen x && within p q n, x) ∷ behind) behind)) (sym s) ∙ h
