-- What a walk finds that passes a front of the list at once, and then elements that are alike, many at a time.
use Rattle.std.proofs.Common.{◌≡◌, ℕ, zero, suc, ◌+◌, ◌≤◌, ◌<◌, Bool, true, false, cond, not, ◌&&◌, nat_eq, List, [], ◌∷◌, ◌++◌, refl, sym, ◌∙◌, ap, append_assoc, arith, drop, length, map, take}
use Rattle.std.proofs.lemmas.Bool.Decides.{nat_tests}
use Rattle.std.proofs.lemmas.List.{map-append, take-append-drop}
use Rattle.ft_base.specs.Scan.{len, one_more_if, place, within}
use Rattle.ft_changes.specs.PlacedRuns.{with_gone_behind}
use Rattle.ft_changes.specs.ShownRuns.{GoneRun, changed_runs_from, gone_runs_from, place_of_insertion, shown_in_run}
use Rattle.ft_changes.proofs.RunsInOrder.{changed_places, gone_places, with_all_gone}

more-sum : (b : Bool) (m n : ℕ) → one_more_if b (m + n) ≡ one_more_if b m + n
more-sum true m n = omega arith
more-sum false m n = refl

-- ---- behind a front of the list

module _ {A : Type 0} (seen shown : A → Bool) where
  -- the front ends with the p-th seen element
  pub insertion-behind : (past : A → Bool) (p : ℕ) (front back : List A) → place seen p (front ++ back) ≡ length front
      → place_of_insertion seen past shown p (front ++ back) ≡ len shown front + shown_in_run past shown back
  insertion-behind past zero [] back h = omega arith
  insertion-behind past zero (x ∷ front) back h = absurd (omega (arith, h))
  insertion-behind past (suc p) [] [] h = omega arith
  insertion-behind past (suc p) [] (y ∷ ys) h = absurd (omega (arith, h))
  insertion-behind past (suc p) (x ∷ front) back h =
      ap (one_more_if (shown x)) (insertion-behind past (cond (seen x) p (suc p)) front back (omega (arith, h)))
      ∙ more-sum (shown x) (len shown front) (shown_in_run past shown back)

  -- no more than p elements are seen up to its end
  pub gone-behind : (p q n i : ℕ) (front back : List A) → n + len seen front ≤ p
      → gone_places n i seen shown p q (front ++ back) ≡ gone_places (n + len seen front) (i + len shown front) seen shown p q back
  gone-behind p q n i [] back h =
      let seen_before : n ≡ n + 0 = omega arith in
      let shown_before : i ≡ i + 0 = omega arith in
      ap (λ m. gone_places m i seen shown p q back) seen_before ∙ ap (λ j. gone_places (n + 0) j seen shown p q back) shown_before
  gone-behind p q n i (x ∷ front) back h = by (λ m j. gone-behind p q m j front back) (seen x) refl (shown x) refl
    where
      by : ((m j : ℕ) → m + len seen front ≤ p → gone_places m j seen shown p q (front ++ back)
          ≡ gone_places (m + len seen front) (j + len shown front) seen shown p q back)
          → (b : Bool) → seen x ≡ b → (s : Bool) → shown x ≡ s
          → gone_places n i seen shown p q (x ∷ front ++ back)
          ≡ gone_places (n + len seen (x ∷ front)) (i + len shown (x ∷ front)) seen shown p q back
      by rest true b true s =
          let before : within p q n ≡ false = grind (arith, nat_tests, h, b) in
          grind (arith, b, s, before, rest (suc n) (suc i) (grind (arith, h, b)))
      by rest true b false s =
          let before : within p q n ≡ false = grind (arith, nat_tests, h, b) in
          grind (arith, b, s, before, rest (suc n) i (grind (arith, h, b)))
      by rest false b true s = grind (arith, b, s, rest n (suc i) (grind (arith, h, b)))
      by rest false b false s = grind (arith, b, s, rest n i (grind (arith, h, b)))

  pub changed-behind : {P : Type 0} (same : P → P → Bool) (props : A → P) (f : A → A) (p q n i : ℕ) (front back : List A) → n + len seen front ≤ p
      → changed_places same props f n i seen shown p q (front ++ back)
      ≡ changed_places same props f (n + len seen front) (i + len shown front) seen shown p q back
  changed-behind same props f p q n i [] back h =
      let seen_before : n ≡ n + 0 = omega arith in
      let shown_before : i ≡ i + 0 = omega arith in
      ap (λ m. changed_places same props f m i seen shown p q back) seen_before
      ∙ ap (λ j. changed_places same props f (n + 0) j seen shown p q back) shown_before
  changed-behind same props f p q n i (x ∷ front) back h = by (λ m j. changed-behind same props f p q m j front back) (seen x) refl (shown x) refl
    where
      by : ((m j : ℕ) → m + len seen front ≤ p → changed_places same props f m j seen shown p q (front ++ back)
          ≡ changed_places same props f (m + len seen front) (j + len shown front) seen shown p q back)
          → (b : Bool) → seen x ≡ b → (s : Bool) → shown x ≡ s
          → changed_places same props f n i seen shown p q (x ∷ front ++ back)
          ≡ changed_places same props f (n + len seen (x ∷ front)) (i + len shown (x ∷ front)) seen shown p q back
      by rest true b true s =
          let before : within p q n ≡ false = grind (arith, nat_tests, h, b) in
          grind (arith, b, s, before, rest (suc n) (suc i) (grind (arith, h, b)))
      by rest true b false s =
          let before : within p q n ≡ false = grind (arith, nat_tests, h, b) in
          grind (arith, b, s, before, rest (suc n) i (grind (arith, h, b)))
      by rest false b true s = grind (arith, b, s, rest n (suc i) (grind (arith, h, b)))
      by rest false b false s = grind (arith, b, s, rest n i (grind (arith, h, b)))

-- ---- many that go at one place

-- more behind the last run that stands there
gone-longer : (runs : List GoneRun) (p m n : ℕ) → with_gone_behind (with_gone_behind runs p m) p n ≡ with_gone_behind runs p (m + n)
gone-longer [] p m n = grind (arith, nat_tests)
gone-longer (run ∷ []) p m n = by (nat_eq run.place p) refl
  where
    by : (b : Bool) → nat_eq run.place p ≡ b
        → with_gone_behind (with_gone_behind (run ∷ []) p m) p n ≡ with_gone_behind (run ∷ []) p (m + n)
    by true b = grind (arith, b)
    by false b = grind (arith, nat_tests, b)
gone-longer (run ∷ next ∷ []) p m n = by (nat_eq next.place p) refl
  where
    by : (b : Bool) → nat_eq next.place p ≡ b
        → with_gone_behind (with_gone_behind (run ∷ next ∷ []) p m) p n ≡ with_gone_behind (run ∷ next ∷ []) p (m + n)
    by true b = grind (arith, b)
    by false b = grind (arith, nat_tests, b)
gone-longer (run ∷ next ∷ more ∷ runs) p m n = ap (λ rs. run ∷ rs) (gone-longer (next ∷ more ∷ runs) p m n)

-- ---- elements that are alike

pub one-inside : (p q n : ℕ) → p ≤ n → n < q → within p q n ≡ true
one-inside p q n h k = grind (arith, nat_tests)

pub none-inside : (p q n : ℕ) → q ≤ n → within p q n ≡ false
none-inside p q n h = grind (arith, nat_tests)

pub none-before : (p q n : ℕ) → n < p → within p q n ≡ false
none-before p q n h = grind (arith, nat_tests)

pub none-between : (p q n : ℕ) → q ≤ p → within p q n ≡ false
none-between p q n h = grind (arith, nat_tests)

-- those behind the first k, and of these c
pub in_parts : {A U : Type 0} (f : U → A) (k c : ℕ) (us : List U) (back : List A)
    → map f us ++ back ≡ map f (take k us) ++ (map f (take c (drop k us)) ++ (map f (drop c (drop k us)) ++ back))
in_parts f k c us back =
    ap (λ vs. map f vs ++ back) (sym (take-append-drop k us))
    ∙ ap (λ xs. xs ++ back) (map-append f (take k us) (drop k us))
    ∙ append_assoc (map f (take k us)) (map f (drop k us)) back
    ∙ ap (λ vs. map f (take k us) ++ (map f vs ++ back)) (sym (take-append-drop c (drop k us)))
    ∙ ap (λ xs. map f (take k us) ++ (xs ++ back)) (map-append f (take c (drop k us)) (drop c (drop k us)))
    ∙ ap (λ xs. map f (take k us) ++ xs) (append_assoc (map f (take c (drop k us))) (map f (drop c (drop k us))) back)

-- nothing goes away in an empty range, and nothing changes
module _ {A : Type 0} (seen shown : A → Bool) (p q : ℕ) (h : q ≤ p) where
  pub gone-empty : (n i : ℕ) (xs : List A) → gone_runs_from n i seen shown p q xs ≡ []
  gone-empty n i [] = refl
  gone-empty n i (x ∷ xs) =
      let out : within p q n ≡ false = none-between p q n h in
      let rest = gone-empty (one_more_if (seen x) n) (one_more_if (shown x && not (seen x && within p q n)) i) xs in
      grind (arith, out, rest)

  pub changed-empty : {P : Type 0} (same : P → P → Bool) (props : A → P) (mark : A → A) (n i : ℕ) (xs : List A)
      → changed_runs_from same props mark n i seen shown p q xs ≡ []
  changed-empty same props mark n i [] = refl
  changed-empty same props mark n i (x ∷ xs) =
      let out : within p q n ≡ false = none-between p q n h in
      let rest = changed-empty same props mark (one_more_if (seen x) n) (one_more_if (shown x) i) xs in
      grind (arith, out, rest)

module _ {A U : Type 0} (seen shown : A → Bool) (f : U → A) (p q : ℕ) where
  -- elements that the sender doesn't see
  pub gone-unseen : (c : Bool) → ((u : U) → seen (f u) ≡ false) → ((u : U) → shown (f u) ≡ c) → (n i : ℕ) (us : List U) (back : List A)
      → gone_places n i seen shown p q (map f us ++ back) ≡ gone_places n (cond c (i + length us) i) seen shown p q back
  gone-unseen true hides shows n i [] back = ap (λ j. gone_places n j seen shown p q back) (omega arith)
  gone-unseen true hides shows n i (u ∷ us) back =
      let next : suc i + length us ≡ i + suc (length us) = omega arith in
      let rest = gone-unseen true hides shows n (suc i) us back ∙ ap (λ j. gone_places n j seen shown p q back) next in
      grind (arith, hides u, shows u, rest)
  gone-unseen false hides shows n i [] back = refl
  gone-unseen false hides shows n i (u ∷ us) back = grind (arith, hides u, shows u, gone-unseen false hides shows n i us back)

  -- elements that aren't shown
  pub gone-hidden : ((u : U) → seen (f u) ≡ true) → ((u : U) → shown (f u) ≡ false) → (n i : ℕ) (us : List U) (back : List A)
      → gone_places n i seen shown p q (map f us ++ back) ≡ gone_places (n + length us) i seen shown p q back
  gone-hidden sees hides n i [] back = ap (λ m. gone_places m i seen shown p q back) (omega arith)
  gone-hidden sees hides n i (u ∷ us) back =
      let next : suc n + length us ≡ n + suc (length us) = omega arith in
      let rest = gone-hidden sees hides (suc n) i us back ∙ ap (λ m. gone_places m i seen shown p q back) next in
      grind (arith, sees u, hides u, rest)

  -- elements behind the range
  pub gone-after : ((u : U) → seen (f u) ≡ true) → ((u : U) → shown (f u) ≡ true) → (n i : ℕ) (us : List U) (back : List A) → q ≤ n
      → gone_places n i seen shown p q (map f us ++ back) ≡ gone_places (n + length us) (i + length us) seen shown p q back
  gone-after sees shows n i [] back h =
      let none : n ≡ n + 0 = omega arith in
      let same : i ≡ i + 0 = omega arith in
      ap (λ m. gone_places m i seen shown p q back) none ∙ ap (λ j. gone_places (n + 0) j seen shown p q back) same
  gone-after sees shows n i (u ∷ us) back h =
      let next : suc n + length us ≡ n + suc (length us) = omega arith in
      let more : suc i + length us ≡ i + suc (length us) = omega arith in
      let rest = gone-after sees shows (suc n) (suc i) us back (omega (arith, h))
      ∙ ap (λ m. gone_places m (suc i + length us) seen shown p q back) next
      ∙ ap (λ j. gone_places (n + suc (length us)) j seen shown p q back) more in
      grind (arith, sees u, shows u, none-inside p q n h, rest)

  -- elements in the range
  pub gone-inside : ((u : U) → seen (f u) ≡ true) → ((u : U) → shown (f u) ≡ true)
      → (runs : List GoneRun) (n i : ℕ) (u : U) (us : List U) (back : List A)
      → p ≤ n → n + suc (length us) ≤ q
      → with_all_gone runs (gone_places n i seen shown p q (f u ∷ map f us ++ back))
      ≡ with_all_gone (with_gone_behind runs i (suc (length us))) (gone_places (n + suc (length us)) i seen shown p q back)
  gone-inside sees shows runs n i u [] back h k =
      let next : suc n ≡ n + 1 = omega arith in
      let last = ap (λ m. with_all_gone (with_gone_behind runs i 1) (gone_places m i seen shown p q back)) next in
      grind (arith, sees u, shows u, one-inside p q n h (omega (arith, k)), last)
  gone-inside sees shows runs n i u (v ∷ us) back h k =
      let next : suc n + suc (length us) ≡ n + suc (suc (length us)) = omega arith in
      let one_more : 1 + suc (length us) ≡ suc (suc (length us)) = omega arith in
      let rest = gone-inside sees shows (with_gone_behind runs i 1) (suc n) i v us back (omega (arith, h)) (omega (arith, k))
      ∙ ap (λ rs. with_all_gone rs (gone_places (suc n + suc (length us)) i seen shown p q back)) (gone-longer runs i 1 (suc (length us)))
      ∙ ap (λ m. with_all_gone (with_gone_behind runs i (1 + suc (length us))) (gone_places m i seen shown p q back)) next
      ∙ ap (λ m. with_all_gone (with_gone_behind runs i m) (gone_places (n + suc (suc (length us))) i seen shown p q back)) one_more in
      grind (arith, sees u, shows u, one-inside p q n h (omega (arith, k)), rest)
