-- The runs of marked elements, as ranges one after another, change just the marked elements.
use Rattle.std.proofs.Common.{◌≡◌, ℕ, suc, ◌+◌, ◌-◌, ◌≤◌, ◌<◌, Bool, true, false, cond, ◌&&◌, nat_le, nat_eq, List, [], ◌∷◌, map, refl, sym, ◌∙◌, ap, subst, arith}
use Rattle.std.proofs.lemmas.Bool.Decides.{nat_tests}
use Rattle.ft_base.proofs.Booleans.{both}
use Rattle.ft_base.specs.Scan.{change_range, change_range_from, len, one_more_if, within}
use Rattle.ft_props.specs.Element.{ListElement}
use Rattle.ft_props.specs.Steps.{extended_runs, lowered_runs, marked_runs_from}
use Rattle.ft_laws_agreement.proofs.StageEdits.{change_ranges, ranges_fit}

-- ---- runs

-- runs from i on, in order and apart
abbrev pub AreApart : ℕ → List (ℕ × ℕ) → Type 0
AreApart i [] = Unit {0}
AreApart i ((a, b) ∷ runs) = (i ≤ a) × (a < b) × AreApart b runs

apart-weaker : (i j : ℕ) (runs : List (ℕ × ℕ)) → i ≤ j → AreApart j runs → AreApart i runs
apart-weaker i j [] l h = tt
apart-weaker i j ((a, b) ∷ runs) l h =
    let here : j ≤ a = h.0 in
    let there : i ≤ a = omega arith in
    (there, h.1, h.2)

extended-choice : (i a b : ℕ) (runs : List (ℕ × ℕ)) (m : Bool) → nat_eq a (i + 1) ≡ m → AreApart (suc i) ((a, b) ∷ runs)
    → AreApart i (cond m ((i, b) ∷ runs) ((i, i + 1) ∷ (a, b) ∷ runs))
extended-choice i a b runs true e h =
    let l : suc i ≤ a = h.0 in
    let k : a < b = h.1 in
    let start : i ≤ i = omega arith in
    let some : i < b = omega arith in
    (start, some, h.2)
extended-choice i a b runs false e h =
    let l : suc i ≤ a = h.0 in
    let start : i ≤ i = omega arith in
    let some : i < i + 1 = omega arith in
    let next : i + 1 ≤ a = omega arith in
    (start, some, (next, h.1, h.2))

extended-apart : (i : ℕ) (runs : List (ℕ × ℕ)) → AreApart (suc i) runs → AreApart i (extended_runs i runs)
extended-apart i [] h =
    let start : i ≤ i = omega arith in
    let some : i < i + 1 = omega arith in
    (start, some, tt)
extended-apart i ((a, b) ∷ runs) h = extended-choice i a b runs (nat_eq a (i + 1)) refl h

apart-step : (seen is : ListElement → Bool) (i : ℕ) (zs : List ListElement) (s m : Bool) → ((j : ℕ) → AreApart j (marked_runs_from j seen is zs))
    → AreApart i (cond (s && m) (extended_runs i (marked_runs_from (one_more_if s i) seen is zs)) (marked_runs_from (one_more_if s i) seen is zs))
apart-step seen is i zs true true ih = extended-apart i (marked_runs_from (suc i) seen is zs) (ih (suc i))
apart-step seen is i zs true false ih = apart-weaker i (suc i) (marked_runs_from (suc i) seen is zs) (omega arith) (ih (suc i))
apart-step seen is i zs false m ih = ih i

pub runs-apart : (seen is : ListElement → Bool) (i : ℕ) (zs : List ListElement) → AreApart i (marked_runs_from i seen is zs)
runs-apart seen is i [] = tt
runs-apart seen is i (x ∷ zs) = apart-step seen is i zs (seen x) (is x) (λ j. runs-apart seen is j zs)

-- ranges from i on, in any order
abbrev pub AreFrom : ℕ → List (ℕ × ℕ) → Type 0
AreFrom i [] = Unit {0}
AreFrom i ((p, q) ∷ ranges) = (i ≤ p) × AreFrom i ranges

from-weaker : (i j : ℕ) (ranges : List (ℕ × ℕ)) → i ≤ j → AreFrom j ranges → AreFrom i ranges
from-weaker i j [] l h = tt
from-weaker i j ((p, q) ∷ ranges) l h =
    let here : j ≤ p = h.0 in
    let there : i ≤ p = omega arith in
    (there, from-weaker i j ranges l h.1)

apart-from : (i : ℕ) (runs : List (ℕ × ℕ)) → AreApart i runs → AreFrom i runs
apart-from i [] h = tt
apart-from i ((a, b) ∷ runs) h =
    let here : i ≤ a = h.0 in
    let some : a < b = h.1 in
    (here, from-weaker i b runs (omega arith) (apart-from b runs h.2))

lowered-from : (d j : ℕ) (runs : List (ℕ × ℕ)) → d ≤ j → AreApart j runs → AreFrom (j - d) (lowered_runs d runs)
lowered-from d j [] l h = tt
lowered-from d j ((a, b) ∷ runs) l h =
    let here : j ≤ a = h.0 in
    let some : a < b = h.1 in
    let start : j - d ≤ a - d = omega arith in
    let low : d + (b - a) ≤ b = omega arith in
    let more : j - d ≤ b - (d + (b - a)) = omega arith in
    (start, from-weaker (j - d) (b - (d + (b - a))) (lowered_runs (d + (b - a)) runs) more (lowered-from (d + (b - a)) b runs low h.2))

-- ---- ranges one after another, where o are seen before the list

abbrev pub ranges_from : ℕ → (ListElement → Bool) → (ListElement → ListElement) → List (ℕ × ℕ) → List ListElement → List ListElement
ranges_from o test g [] ys = ys
ranges_from o test g ((p, q) ∷ ranges) ys = ranges_from o test g ranges (change_range_from o test p q g ys)

abbrev pub fit_from : ℕ → (ListElement → Bool) → (ListElement → ListElement) → List (ℕ × ℕ) → List ListElement → Bool
fit_from o test g [] ys = true
fit_from o test g ((p, q) ∷ ranges) ys = nat_le q (o + len test ys) && fit_from o test g ranges (change_range_from o test p q g ys)

pub ranges-from-first : (test : ListElement → Bool) (g : ListElement → ListElement) (ranges : List (ℕ × ℕ)) (ys : List ListElement)
    → change_ranges test g ranges ys ≡ ranges_from 0 test g ranges ys
ranges-from-first test g [] ys = refl
ranges-from-first test g ((p, q) ∷ ranges) ys = ranges-from-first test g ranges (change_range test p q g ys)

pub fit-from-first : (test : ListElement → Bool) (g : ListElement → ListElement) (ranges : List (ℕ × ℕ)) (ys : List ListElement) → ranges_fit test g ranges ys
    ≡ fit_from 0 test g ranges ys
fit-from-first test g [] ys = refl
fit-from-first test g ((p, q) ∷ ranges) ys =
    let none : len test ys ≡ 0 + len test ys = omega arith in
    ap (λ n. nat_le q n && ranges_fit test g ranges (change_range test p q g ys)) none
    ∙ ap (λ b. nat_le q (0 + len test ys) && b) (fit-from-first test g ranges (change_range test p q g ys))

module _ (test : ListElement → Bool) (g : ListElement → ListElement) where
  -- an element that isn't seen
  skip-unseen : (o : ℕ) (y : ListElement) (ys : List ListElement) (ranges : List (ℕ × ℕ)) → test y ≡ false → ranges_from o test g ranges (y ∷ ys)
      ≡ y ∷ ranges_from o test g ranges ys
  skip-unseen o y ys [] h = refl
  skip-unseen o y ys ((p, q) ∷ ranges) h =
      ap (λ b. ranges_from o test g ranges (cond (b && within p q o) (g y) y ∷ change_range_from (one_more_if b o) test p q g ys)) h
      ∙ skip-unseen o y (change_range_from o test p q g ys) ranges h

  fit-unseen : (o : ℕ) (y : ListElement) (ys : List ListElement) (ranges : List (ℕ × ℕ)) → test y ≡ false → fit_from o test g ranges (y ∷ ys) ≡ fit_from o test g ranges ys
  fit-unseen o y ys [] h = refl
  fit-unseen o y ys ((p, q) ∷ ranges) h =
      ap (λ b. nat_le q (o + one_more_if b (len test ys)) && fit_from o test g ranges (cond (b && within p q o) (g y) y ∷ change_range_from (one_more_if b o) test p q g ys)) h
      ∙ ap (λ b. nat_le q (o + len test ys) && b) (fit-unseen o y (change_range_from o test p q g ys) ranges h)

  not-within : (o p q : ℕ) → suc o ≤ p → within p q o ≡ false
  not-within o p q l = grind (arith, nat_tests)

  -- a seen element before all ranges
  skip-before : (o : ℕ) (y : ListElement) (ys : List ListElement) (ranges : List (ℕ × ℕ)) → test y ≡ true → AreFrom (suc o) ranges
      → ranges_from o test g ranges (y ∷ ys) ≡ y ∷ ranges_from (suc o) test g ranges ys
  skip-before o y ys [] h f = refl
  skip-before o y ys ((p, q) ∷ ranges) h f =
      ap (λ b. ranges_from o test g ranges (cond (b && within p q o) (g y) y ∷ change_range_from (one_more_if b o) test p q g ys)) h
      ∙ ap (λ b. ranges_from o test g ranges (cond b (g y) y ∷ change_range_from (suc o) test p q g ys)) (not-within o p q f.0)
      ∙ skip-before o y (change_range_from (suc o) test p q g ys) ranges h f.1

  fit-before : (o : ℕ) (y : ListElement) (ys : List ListElement) (ranges : List (ℕ × ℕ)) → test y ≡ true → AreFrom (suc o) ranges
      → fit_from o test g ranges (y ∷ ys) ≡ fit_from (suc o) test g ranges ys
  fit-before o y ys [] h f = refl
  fit-before o y ys ((p, q) ∷ ranges) h f =
      let next : o + suc (len test ys) ≡ suc o + len test ys = omega arith in
      ap (λ b. nat_le q (o + one_more_if b (len test ys)) && fit_from o test g ranges (cond (b && within p q o) (g y) y ∷ change_range_from (one_more_if b o) test p q g ys)) h
      ∙ ap (λ b. nat_le q (o + suc (len test ys)) && fit_from o test g ranges (cond b (g y) y ∷ change_range_from (suc o) test p q g ys)) (not-within o p q f.0)
      ∙ ap (λ n. nat_le q n && fit_from o test g ranges (y ∷ change_range_from (suc o) test p q g ys)) next
      ∙ ap (λ b. nat_le q (suc o + len test ys) && b) (fit-before o y (change_range_from (suc o) test p q g ys) ranges h f.1)

  -- a range behind which the list begins
  range-over : (o p q : ℕ) (ys : List ListElement) → q ≤ o → change_range_from o test p q g ys ≡ ys
  range-over o p q [] l = refl
  range-over o p q (y ∷ ys) l = over-step (test y) (within p q o) (grind (arith, nat_tests)) (range-over (one_more_if (test y) o) p q ys (more (test y)))
    where
      more : (b : Bool) → q ≤ one_more_if b o
      more true = omega arith
      more false = l

      over-step : (b w : Bool) → w ≡ false → change_range_from (one_more_if (test y) o) test p q g ys ≡ ys
          → cond (b && w) (g y) y ∷ change_range_from (one_more_if (test y) o) test p q g ys ≡ y ∷ ys
      over-step true true e ih = (cc)
      over-step true false e ih = ap (λ zs. y ∷ zs) ih
      over-step false w e ih = ap (λ zs. y ∷ zs) ih

  -- one that begins before the list might as well begin with it
  range-from : (o p r q : ℕ) (ys : List ListElement) → p ≤ o → r ≤ o → change_range_from o test p q g ys ≡ change_range_from o test r q g ys
  range-from o p r q [] l k = refl
  range-from o p r q (y ∷ ys) l k = grind (arith, nat_tests, range-from o p r q ys l k, range-from (suc o) p r q ys (omega arith) (omega arith))

  -- all moved by one
  range-moved : (o p q : ℕ) (ys : List ListElement) → change_range_from (suc o) test (suc p) (suc q) g ys ≡ change_range_from o test p q g ys
  range-moved o p q [] = refl
  range-moved o p q (y ∷ ys) = grind (arith, nat_tests, range-moved o p q ys, range-moved (suc o) p q ys)

  is-within : (o p q : ℕ) → p ≤ o → o < q → within p q o ≡ true
  is-within o p q l k = grind (arith, nat_tests)

  -- the range changes a seen element at its place
  head-changed : (o p q : ℕ) (y : ListElement) (ys : List ListElement) → test y ≡ true → p ≤ o → o < q → change_range_from o test p q g (y ∷ ys)
      ≡ g y ∷ change_range_from (suc o) test p q g ys
  head-changed o p q y ys h l k =
      ap (λ b. cond (b && within p q o) (g y) y ∷ change_range_from (one_more_if b o) test p q g ys) h
      ∙ ap (λ b. cond b (g y) y ∷ change_range_from (suc o) test p q g ys) (is-within o p q l k)

-- what is so of each element of a list
abbrev pub Each : (ListElement → Type 0) → List ListElement → Type 0
Each P [] = Unit {0}
Each P (x ∷ xs) = P x × Each P xs

module _ (test : ListElement → Bool) (g f h : ListElement → ListElement) (seen is : ListElement → Bool) (still : Bool) where
  -- an element before and after its stage: f leaves out the stage's mark, and h keeps it
  pub record MarkedAs (x : ListElement) : Type 0 where
    pub same : test (f x) ≡ seen x
    pub marked : is x ≡ true → (seen x ≡ true) × (h x ≡ g (f x)) × (test (h x) ≡ still)
    pub unmarked : is x ≡ false → h x ≡ f x

  -- ranges from o on make the marked list of the unmarked one
  pub record MarksRanges (o : ℕ) (ranges : List (ℕ × ℕ)) (zs : List ListElement) : Type 0 where
    pub made : ranges_from o test g ranges (map f zs) ≡ map h zs
    pub fits : fit_from o test g ranges (map f zs) ≡ true

  unseen-marks : (o : ℕ) (ranges : List (ℕ × ℕ)) (x : ListElement) (zs : List ListElement) → test (f x) ≡ false → h x ≡ f x → MarksRanges o ranges zs → MarksRanges o ranges (x ∷ zs)
  unseen-marks o ranges x zs e k m = record {
    made = skip-unseen test g o (f x) (map f zs) ranges e ∙ ap (λ y. y ∷ ranges_from o test g ranges (map f zs)) (sym k) ∙ ap (λ ys. h x ∷ ys) m.made;
    fits = fit-unseen test g o (f x) (map f zs) ranges e ∙ m.fits;
  }

  before-marks : (o : ℕ) (ranges : List (ℕ × ℕ)) (x : ListElement) (zs : List ListElement) → test (f x) ≡ true → h x ≡ f x → AreFrom (suc o) ranges
      → MarksRanges (suc o) ranges zs → MarksRanges o ranges (x ∷ zs)
  before-marks o ranges x zs e k l m = record {
    made = skip-before test g o (f x) (map f zs) ranges e l ∙ ap (λ y. y ∷ ranges_from (suc o) test g ranges (map f zs)) (sym k) ∙ ap (λ ys. h x ∷ ys) m.made;
    fits = fit-before test g o (f x) (map f zs) ranges e l ∙ m.fits;
  }

  contradiction : true ≡ false → ⊥
  contradiction e = (cc)

  both-bounds : (a b : Bool) → a ≡ true → b ≡ true → a && b ≡ true
  both-bounds a b e k = rw (e, k) refl

  test-bound : (m n : ℕ) → m ≤ n → nat_le m n ≡ true
  test-bound m n l = grind (arith, nat_tests)

  bound-test : (m n : ℕ) → nat_le m n ≡ true → m ≤ n
  bound-test m n l = grind (arith, nat_tests)

  -- ---- where marked elements are still seen

  module _ (seen-on : still ≡ true) where
    -- a run of its own
    one-marks : (i : ℕ) (rs : List (ℕ × ℕ)) (x : ListElement) (zs : List ListElement) → MarkedAs x → is x ≡ true → AreFrom (suc i) rs → MarksRanges (suc i) rs zs
        → MarksRanges i ((i, i + 1) ∷ rs) (x ∷ zs)
    one-marks i rs x zs p e l m =
        let q = p.marked e in
        let here : test (f x) ≡ true = p.same ∙ q.0 in
        let on : test (h x) ≡ true = q.2 ∙ seen-on in
        let first : change_range_from i test i (i + 1) g (f x ∷ map f zs) ≡ h x ∷ map f zs =
        head-changed test g i i (i + 1) (f x) (map f zs) here (omega arith) (omega arith)
        ∙ ap (λ ys. g (f x) ∷ ys) (range-over test g (suc i) i (i + 1) (map f zs) (omega arith)) ∙ ap (λ y. y ∷ map f zs) (sym q.1) in
        record {
          made = ap (ranges_from i test g rs) first ∙ skip-before test g i (h x) (map f zs) rs on l ∙ ap (λ ys. h x ∷ ys) m.made;
          fits =
              both-bounds (nat_le (i + 1) (i + one_more_if (test (f x)) (len test (map f zs)))) (fit_from i test g rs (change_range_from i test i (i + 1) g (f x ∷ map f zs)))
              (ap (λ b. nat_le (i + 1) (i + one_more_if b (len test (map f zs)))) here ∙ test-bound (i + 1) (i + suc (len test (map f zs))) (omega arith))
              (ap (fit_from i test g rs) first ∙ fit-before test g i (h x) (map f zs) rs on l ∙ m.fits);
        }

    -- a run that goes on
    more-marks : (i b : ℕ) (rs : List (ℕ × ℕ)) (x : ListElement) (zs : List ListElement) → MarkedAs x → is x ≡ true → i < b → AreFrom (suc i) rs
        → MarksRanges (suc i) ((i + 1, b) ∷ rs) zs → MarksRanges i ((i, b) ∷ rs) (x ∷ zs)
    more-marks i b rs x zs p e k l m =
        let q = p.marked e in
        let here : test (f x) ≡ true = p.same ∙ q.0 in
        let on : test (h x) ≡ true = q.2 ∙ seen-on in
        let rest = change_range_from (suc i) test (i + 1) b g (map f zs) in
        let first : change_range_from i test i b g (f x ∷ map f zs) ≡ h x ∷ rest =
        head-changed test g i i b (f x) (map f zs) here (omega arith) k ∙ ap (λ ys. g (f x) ∷ ys)
        (range-from test g (suc i) i (i + 1) b (map f zs) (omega arith) (omega arith)) ∙ ap (λ y. y ∷ rest) (sym q.1) in
        let bounds = both (nat_le b (suc i + len test (map f zs))) (fit_from (suc i) test g rs rest) m.fits in
        let bound : b ≤ suc i + len test (map f zs) = bound-test b (suc i + len test (map f zs)) bounds.0 in
        record {
          made = ap (ranges_from i test g rs) first ∙ skip-before test g i (h x) rest rs on l ∙ ap (λ ys. h x ∷ ys) m.made;
          fits =
              both-bounds (nat_le b (i + one_more_if (test (f x)) (len test (map f zs)))) (fit_from i test g rs (change_range_from i test i b g (f x ∷ map f zs)))
              (ap (λ t. nat_le b (i + one_more_if t (len test (map f zs)))) here ∙ test-bound b (i + suc (len test (map f zs))) (omega arith))
              (ap (fit_from i test g rs) first ∙ fit-before test g i (h x) rest rs on l ∙ bounds.1);
        }

    next-number : (a i : ℕ) → nat_eq a (i + 1) ≡ true → a ≡ i + 1
    next-number a i e = grind (arith, nat_tests)

    choice-marks : (i a b : ℕ) (rs : List (ℕ × ℕ)) (x : ListElement) (zs : List ListElement) → MarkedAs x → is x ≡ true → AreApart (suc i) ((a, b) ∷ rs)
        → MarksRanges (suc i) ((a, b) ∷ rs) zs
        → (t : Bool) → nat_eq a (i + 1) ≡ t → MarksRanges i (cond t ((i, b) ∷ rs) ((i, i + 1) ∷ (a, b) ∷ rs)) (x ∷ zs)
    choice-marks i a b rs x zs p e l m true j =
        let start : suc i ≤ a = l.0 in
        let some : a < b = l.1 in
        more-marks i b rs x zs p e (omega arith) (from-weaker (suc i) b rs (omega arith) (apart-from b rs l.2)) (subst (λ n. MarksRanges (suc i) ((n, b) ∷ rs) zs) (next-number a i j) m)
    choice-marks i a b rs x zs p e l m false j = one-marks i ((a, b) ∷ rs) x zs p e (apart-from (suc i) ((a, b) ∷ rs) l) m

    marked-marks : (i : ℕ) (rs : List (ℕ × ℕ)) (x : ListElement) (zs : List ListElement) → MarkedAs x → is x ≡ true → AreApart (suc i) rs → MarksRanges (suc i) rs zs
        → MarksRanges i (extended_runs i rs) (x ∷ zs)
    marked-marks i [] x zs p e l m = one-marks i [] x zs p e l m
    marked-marks i ((a, b) ∷ rs) x zs p e l m = choice-marks i a b rs x zs p e l m (nat_eq a (i + 1)) refl

    step-marks : (i : ℕ) (x : ListElement) (zs : List ListElement) → MarkedAs x → (s t : Bool) → seen x ≡ s → is x ≡ t → ((j : ℕ) → MarksRanges j (marked_runs_from j seen is zs) zs)
        → MarksRanges i (cond (s && t) (extended_runs i (marked_runs_from (one_more_if s i) seen is zs)) (marked_runs_from (one_more_if s i) seen is zs)) (x ∷ zs)
    step-marks i x zs p true true e k ih = marked-marks i (marked_runs_from (suc i) seen is zs) x zs p k (runs-apart seen is (suc i) zs) (ih (suc i))
    step-marks i x zs p true false e k ih =
        before-marks i (marked_runs_from (suc i) seen is zs) x zs (p.same ∙ e) (p.unmarked k)
        (apart-from (suc i) (marked_runs_from (suc i) seen is zs) (runs-apart seen is (suc i) zs)) (ih (suc i))
    step-marks i x zs p false true e k ih = absurd (contradiction (sym (p.marked k).0 ∙ e))
    step-marks i x zs p false false e k ih = unseen-marks i (marked_runs_from i seen is zs) x zs (p.same ∙ e) (p.unmarked k) (ih i)

    pub runs-mark : (i : ℕ) (zs : List ListElement) → Each MarkedAs zs → MarksRanges i (marked_runs_from i seen is zs) zs
    runs-mark i [] p = record { made = refl; fits = refl }
    runs-mark i (x ∷ zs) p = step-marks i x zs p.0 (seen x) (is x) refl refl (λ j. runs-mark j zs p.1)

  -- ---- where they are seen no more, and each run is lowered by those before it

  module _ (seen-off : still ≡ false) where
    one-gone : (i d : ℕ) (rs : List (ℕ × ℕ)) (x : ListElement) (zs : List ListElement) → d ≤ i → MarkedAs x → is x ≡ true → MarksRanges (suc i - suc d) (lowered_runs (suc d) rs) zs
        → MarksRanges (i - d) (lowered_runs d ((i, i + 1) ∷ rs)) (x ∷ zs)
    one-gone i d rs x zs l p e m =
        let o = i - d in
        let q = p.marked e in
        let here : test (f x) ≡ true = p.same ∙ q.0 in
        let off : test (h x) ≡ false = q.2 ∙ seen-off in
        let low : d + (i + 1 - i) ≡ suc d = omega arith in
        let place : suc i - suc d ≡ i - d = omega arith in
        let ls = lowered_runs (d + (i + 1 - i)) rs in
        let n : MarksRanges o ls zs = subst (λ c. MarksRanges o (lowered_runs c rs) zs) (sym low) (subst (λ c. MarksRanges c (lowered_runs (suc d) rs) zs) place m) in
        let first : change_range_from o test o (i + 1 - d) g (f x ∷ map f zs) ≡ h x ∷ map f zs =
        head-changed test g o o (i + 1 - d) (f x) (map f zs) here (omega arith) (omega arith)
        ∙ ap (λ ys. g (f x) ∷ ys) (range-over test g (suc o) o (i + 1 - d) (map f zs) (omega arith)) ∙ ap (λ y. y ∷ map f zs) (sym q.1) in
        record {
          made = ap (ranges_from o test g ls) first ∙ skip-unseen test g o (h x) (map f zs) ls off ∙ ap (λ ys. h x ∷ ys) n.made;
          fits =
              both-bounds (nat_le (i + 1 - d) (o + one_more_if (test (f x)) (len test (map f zs))))
              (fit_from o test g ls (change_range_from o test o (i + 1 - d) g (f x ∷ map f zs)))
              (ap (λ b. nat_le (i + 1 - d) (o + one_more_if b (len test (map f zs)))) here ∙ test-bound (i + 1 - d) (o + suc (len test (map f zs))) (omega arith))
              (ap (fit_from o test g ls) first ∙ fit-unseen test g o (h x) (map f zs) ls off ∙ n.fits);
        }

    more-gone : (i d b : ℕ) (rs : List (ℕ × ℕ)) (x : ListElement) (zs : List ListElement) → d ≤ i → MarkedAs x → is x ≡ true → i + 1 < b
        → MarksRanges (suc i - suc d) (lowered_runs (suc d) ((i + 1, b) ∷ rs)) zs
        → MarksRanges (i - d) (lowered_runs d ((i, b) ∷ rs)) (x ∷ zs)
    more-gone i d b rs x zs l p e k m =
        let o = i - d in
        let q = p.marked e in
        let here : test (f x) ≡ true = p.same ∙ q.0 in
        let off : test (h x) ≡ false = q.2 ∙ seen-off in
        let low : d + (b - i) ≡ suc d + (b - (i + 1)) = omega arith in
        let place : suc i - suc d ≡ i - d = omega arith in
        let start : i + 1 - suc d ≡ i - d = omega arith in
        let end : b - d ≡ suc (b - suc d) = omega arith in
        let ls = lowered_runs (d + (b - i)) rs in
        let n : MarksRanges o ((o, b - suc d) ∷ ls) zs =
        subst (λ c. MarksRanges o ((o, b - suc d) ∷ lowered_runs c rs) zs) (sym low)
        (subst (λ c. MarksRanges o ((c, b - suc d) ∷ lowered_runs (suc d + (b - (i + 1))) rs) zs) start
        (subst (λ c. MarksRanges c ((i + 1 - suc d, b - suc d) ∷ lowered_runs (suc d + (b - (i + 1))) rs) zs) place m)) in
        let rest = change_range_from o test o (b - suc d) g (map f zs) in
        let tail : change_range_from (suc o) test o (b - d) g (map f zs) ≡ rest =
        range-from test g (suc o) o (suc o) (b - d) (map f zs) (omega arith) (omega arith)
        ∙ ap (λ c. change_range_from (suc o) test (suc o) c g (map f zs)) end ∙ range-moved test g o o (b - suc d) (map f zs) in
        let first : change_range_from o test o (b - d) g (f x ∷ map f zs) ≡ h x ∷ rest =
        head-changed test g o o (b - d) (f x) (map f zs) here (omega arith) (omega arith) ∙ ap (λ ys. g (f x) ∷ ys) tail ∙ ap (λ y. y ∷ rest) (sym q.1) in
        let bounds = both (nat_le (b - suc d) (o + len test (map f zs))) (fit_from o test g ls rest) n.fits in
        let bound : b - suc d ≤ o + len test (map f zs) = bound-test (b - suc d) (o + len test (map f zs)) bounds.0 in
        record {
          made = ap (ranges_from o test g ls) first ∙ skip-unseen test g o (h x) rest ls off ∙ ap (λ ys. h x ∷ ys) n.made;
          fits =
              both-bounds (nat_le (b - d) (o + one_more_if (test (f x)) (len test (map f zs)))) (fit_from o test g ls (change_range_from o test o (b - d) g (f x ∷ map f zs)))
              (ap (λ t. nat_le (b - d) (o + one_more_if t (len test (map f zs)))) here ∙ test-bound (b - d) (o + suc (len test (map f zs))) (omega arith))
              (ap (fit_from o test g ls) first ∙ fit-unseen test g o (h x) rest ls off ∙ bounds.1);
        }

    next-place : (a i : ℕ) → nat_eq a (i + 1) ≡ true → a ≡ i + 1
    next-place a i e = grind (arith, nat_tests)

    choice-gone : (i d a b : ℕ) (rs : List (ℕ × ℕ)) (x : ListElement) (zs : List ListElement) → d ≤ i → MarkedAs x → is x ≡ true
        → AreApart (suc i) ((a, b) ∷ rs) → MarksRanges (suc i - suc d) (lowered_runs (suc d) ((a, b) ∷ rs)) zs
        → (t : Bool) → nat_eq a (i + 1) ≡ t → MarksRanges (i - d) (lowered_runs d (cond t ((i, b) ∷ rs) ((i, i + 1) ∷ (a, b) ∷ rs))) (x ∷ zs)
    choice-gone i d a b rs x zs l p e k m true j =
        let some : a < b = k.1 in
        let same : a ≡ i + 1 = next-place a i j in
        let more : i + 1 < b = subst (λ c. c < b) same some in
        more-gone i d b rs x zs l p e more (subst (λ c. MarksRanges (suc i - suc d) (lowered_runs (suc d) ((c, b) ∷ rs)) zs) same m)
    choice-gone i d a b rs x zs l p e k m false j = one-gone i d ((a, b) ∷ rs) x zs l p e m

    marked-gone : (i d : ℕ) (rs : List (ℕ × ℕ)) (x : ListElement) (zs : List ListElement) → d ≤ i → MarkedAs x → is x ≡ true → AreApart (suc i) rs
        → MarksRanges (suc i - suc d) (lowered_runs (suc d) rs) zs
        → MarksRanges (i - d) (lowered_runs d (extended_runs i rs)) (x ∷ zs)
    marked-gone i d [] x zs l p e k m = one-gone i d [] x zs l p e m
    marked-gone i d ((a, b) ∷ rs) x zs l p e k m = choice-gone i d a b rs x zs l p e k m (nat_eq a (i + 1)) refl

    step-gone : (i d : ℕ) (x : ListElement) (zs : List ListElement) → d ≤ i → MarkedAs x → (s t : Bool) → seen x ≡ s → is x ≡ t
        → ((j c : ℕ) → c ≤ j → MarksRanges (j - c) (lowered_runs c (marked_runs_from j seen is zs)) zs)
        → MarksRanges (i - d) (lowered_runs d (cond (s && t) (extended_runs i (marked_runs_from (one_more_if s i) seen is zs)) (marked_runs_from (one_more_if s i) seen is zs))) (x ∷ zs)
    step-gone i d x zs l p true true e k ih = marked-gone i d (marked_runs_from (suc i) seen is zs) x zs l p k (runs-apart seen is (suc i) zs) (ih (suc i) (suc d) (omega arith))
    step-gone i d x zs l p true false e k ih =
        let rs = marked_runs_from (suc i) seen is zs in
        let next : suc i - d ≡ suc (i - d) = omega arith in
        before-marks (i - d) (lowered_runs d rs) x zs (p.same ∙ e) (p.unmarked k)
        (subst (λ c. AreFrom c (lowered_runs d rs)) next (lowered-from d (suc i) rs (omega arith) (runs-apart seen is (suc i) zs)))
        (subst (λ c. MarksRanges c (lowered_runs d rs) zs) next (ih (suc i) d (omega arith)))
    step-gone i d x zs l p false true e k ih = absurd (contradiction (sym (p.marked k).0 ∙ e))
    step-gone i d x zs l p false false e k ih = unseen-marks (i - d) (lowered_runs d (marked_runs_from i seen is zs)) x zs (p.same ∙ e) (p.unmarked k) (ih i d l)

    pub lowered-mark : (i d : ℕ) (zs : List ListElement) → d ≤ i → Each MarkedAs zs → MarksRanges (i - d) (lowered_runs d (marked_runs_from i seen is zs)) zs
    lowered-mark i d [] l p = record { made = refl; fits = refl }
    lowered-mark i d (x ∷ zs) l p = step-gone i d x zs l p.0 (seen x) (is x) refl refl (λ j c k. lowered-mark j c zs k p.1)
