-- A change of each run of marked elements, one run after another, is a change of each marked element.
use Rattle.std.proofs.Common.{◌≡◌, ℕ, suc, ◌+◌, ◌-◌, ◌<◌, ◌≤◌, Bool, true, false, cond, ◌&&◌, List, [], ◌∷◌, ◌++◌, refl, sym, ◌∙◌, ap, subst, arith, append_assoc, map, nat_eq, nat_le}
use Rattle.std.proofs.lemmas.Bool.Decides.{nat_tests}
use Rattle.ft_base.specs.Scan.{change_range, change_range_from, len, one_more_if, within}
use Rattle.ft_props.specs.Element.{ListElement}
pub use Rattle.ft_laws_agreement.specs.Sequencing.{Each}
use Rattle.ft_props.specs.Steps.{extended_runs, lowered_runs, marked_runs_from}

-- the first run, if there is one, is in range
abbrev FirstRun : ℕ → List (ℕ × ℕ) → Type 0
FirstRun n [] = Unit {0}
FirstRun n ((a, b) ∷ runs) = (a < b) × (b ≤ n)

first-extended : (i n : ℕ) (runs : List (ℕ × ℕ)) → i + 1 ≤ n → FirstRun n runs → FirstRun n (extended_runs i runs)
first-extended i n [] l h = (omega arith, l)
first-extended i n ((a, b) ∷ runs) l h = step (nat_eq a (i + 1)) refl
  where
    step : (c : Bool) → nat_eq a (i + 1) ≡ c → FirstRun n (cond c ((i, b) ∷ runs) ((i, i + 1) ∷ (a, b) ∷ runs))
    step true e = let p : a ≡ i + 1 = grind (arith, nat_tests) in let q : a < b = h.0 in (omega arith, h.1)
    step false e = (omega arith, l)

first-run : (i : ℕ) (see is_marked : ListElement → Bool) (xs : List ListElement) → FirstRun (i + len see xs) (marked_runs_from i see is_marked xs)
first-run i see is_marked [] = tt
first-run i see is_marked (e ∷ xs) = step (see e) (is_marked e) (first-run (one_more_if (see e) i) see is_marked xs)
  where
    step : (a b : Bool) → FirstRun (one_more_if a i + len see xs) (marked_runs_from (one_more_if a i) see is_marked xs)
        → FirstRun (i + one_more_if a (len see xs)) (cond (a && b) (extended_runs i (marked_runs_from (one_more_if a i) see is_marked xs))
        (marked_runs_from (one_more_if a i) see is_marked xs))
    step true true h =
        let e : suc i + len see xs ≡ i + suc (len see xs) = omega arith in
        first-extended i (i + suc (len see xs)) (marked_runs_from (suc i) see is_marked xs) (omega arith) (subst (λ n. FirstRun n (marked_runs_from (suc i) see is_marked xs)) e h)
    step true false h =
        let e : suc i + len see xs ≡ i + suc (len see xs) = omega arith in
        subst (λ n. FirstRun n (marked_runs_from (suc i) see is_marked xs)) e h
    step false b h = h

module _ {A : Type 0} (see : A → Bool) (f : A → A) where
  -- a change of a range, where it is in range
  abbrev pub change_run : ℕ × ℕ → List A → List A
  change_run r xs = cond (nat_le r.1 (len see xs)) (change_range see r.0 r.1 f xs) xs

  -- the changes of ranges one after another
  abbrev pub change_runs : List (ℕ × ℕ) → List A → List A
  change_runs [] xs = xs
  change_runs (r ∷ runs) xs = change_runs runs (change_run r xs)

  len-append : (xs ys : List A) → len see (xs ++ ys) ≡ len see xs + len see ys
  len-append [] ys = omega arith
  len-append (x ∷ xs) ys = step (see x) (len-append xs ys)
    where
      step : (b : Bool) → len see (xs ++ ys) ≡ len see xs + len see ys → one_more_if b (len see (xs ++ ys)) ≡ one_more_if b (len see xs) + len see ys
      step true h = omega arith
      step false h = h

  outside : (p q i : ℕ) → i < p → within p q i ≡ false
  outside p q i l = grind (arith, nat_tests)

  beyond : (p q i : ℕ) → q ≤ i → within p q i ≡ false
  beyond p q i l = grind (arith, nat_tests)

  -- what stands before a range stays
  before-range : (i p q : ℕ) (xs ys : List A) → i + len see xs ≤ p → change_range_from i see p q f (xs ++ ys) ≡ xs ++ change_range_from (i + len see xs) see p q f ys
  before-range i p q [] ys l = let e : i ≡ i + 0 = omega arith in ap (λ j. change_range_from j see p q f ys) e
  before-range i p q (x ∷ xs) ys l = step (see x) refl (before-range (suc i) p q xs ys) (before-range i p q xs ys)
    where
      step : (b : Bool) → see x ≡ b
          → (suc i + len see xs ≤ p → change_range_from (suc i) see p q f (xs ++ ys) ≡ xs ++ change_range_from (suc i + len see xs) see p q f ys)
          → (i + len see xs ≤ p → change_range_from i see p q f (xs ++ ys) ≡ xs ++ change_range_from (i + len see xs) see p q f ys)
          → cond (see x && within p q i) (f x) x ∷ change_range_from (one_more_if (see x) i) see p q f (xs ++ ys)
          ≡ x ∷ (xs ++ change_range_from (i + one_more_if (see x) (len see xs)) see p q f ys)
      step true e seen unseen =
          let k : i + suc (len see xs) ≤ p = subst (λ b. i + one_more_if b (len see xs) ≤ p) e l in
          let g : suc i + len see xs ≡ i + suc (len see xs) = omega arith in
          rw (e, outside p q i (omega arith), seen (omega arith), g) refl
      step false e seen unseen =
          let k : i + len see xs ≤ p = subst (λ b. i + one_more_if b (len see xs) ≤ p) e l in
          rw (e, unseen k) refl

  -- a range that ends before the list changes nothing
  past-range : (i p q : ℕ) (xs : List A) → q ≤ i → change_range_from i see p q f xs ≡ xs
  past-range i p q [] l = refl
  past-range i p q (x ∷ xs) l = step (see x) (past-range (suc i) p q xs (omega arith)) (past-range i p q xs l)
    where
      step : (b : Bool) → change_range_from (suc i) see p q f xs ≡ xs → change_range_from i see p q f xs ≡ xs
          → cond (b && within p q i) (f x) x ∷ change_range_from (one_more_if b i) see p q f xs ≡ x ∷ xs
      step true g h = rw (beyond p q i l, g) refl
      step false g h = ap (λ ys. x ∷ ys) h

  shifted : (p q i : ℕ) → p ≤ i → within p (suc q) (suc i) ≡ within p q i
  shifted p q i l = grind (arith, nat_tests)

  -- from its start on a range may be counted from one place earlier
  shift-range : (i p q : ℕ) (xs : List A) → p ≤ i → change_range_from (suc i) see p (suc q) f xs ≡ change_range_from i see p q f xs
  shift-range i p q [] l = refl
  shift-range i p q (x ∷ xs) l = step (see x) (shift-range (suc i) p q xs (omega arith)) (shift-range i p q xs l)
    where
      step : (b : Bool) → change_range_from (suc (suc i)) see p (suc q) f xs ≡ change_range_from (suc i) see p q f xs
          → change_range_from (suc i) see p (suc q) f xs ≡ change_range_from i see p q f xs
          → cond (b && within p (suc q) (suc i)) (f x) x ∷ change_range_from (one_more_if b (suc i)) see p (suc q) f xs
          ≡ cond (b && within p q i) (f x) x ∷ change_range_from (one_more_if b i) see p q f xs
      step true g h = rw (shifted p q i l, g) refl
      step false g h = ap (λ ys. x ∷ ys) h

  started : (p q r i : ℕ) → p ≤ i → r ≤ i → within p q i ≡ within r q i
  started p q r i l k = grind (arith, nat_tests)

  -- a range that began before the list may begin at another place before it
  start-range : (i p q r : ℕ) (xs : List A) → p ≤ i → r ≤ i → change_range_from i see p q f xs ≡ change_range_from i see r q f xs
  start-range i p q r [] l k = refl
  start-range i p q r (x ∷ xs) l k = step (see x) (start-range (suc i) p q r xs (omega arith) (omega arith)) (start-range i p q r xs l k)
    where
      step : (b : Bool) → change_range_from (suc i) see p q f xs ≡ change_range_from (suc i) see r q f xs → change_range_from i see p q f xs ≡ change_range_from i see r q f xs
          → cond (b && within p q i) (f x) x ∷ change_range_from (one_more_if b i) see p q f xs
          ≡ cond (b && within r q i) (f x) x ∷ change_range_from (one_more_if b i) see r q f xs
      step true g h = rw (started p q r i l k, g) refl
      step false g h = ap (λ ys. x ∷ ys) h

  at_start : (p q : ℕ) → p < q → within p q p ≡ true
  at_start p q l = grind (arith, nat_tests)

  -- a range whose first element is the one behind the front
  first-range : (p q : ℕ) (pre : List A) (x : A) (xs : List A) → len see pre ≡ p → p < q → see x ≡ true → change_range see p q f (pre ++ (x ∷ xs))
      ≡ pre ++ (f x ∷ change_range_from (suc p) see p q f xs)
  first-range p q pre x xs e l s =
      before-range 0 p q pre (x ∷ xs) (omega arith)
      ∙ (let g : 0 + len see pre ≡ p = omega arith in ap (λ i. pre ++ change_range_from i see p q f (x ∷ xs)) g)
      ∙ rw (s, at_start p q l) refl

  in_range : (q n : ℕ) → q ≤ n → nat_le q n ≡ true
  in_range q n l = grind (arith, nat_tests)

  run-in_range : (r : ℕ × ℕ) (xs : List A) → r.1 ≤ len see xs → change_run r xs ≡ change_range see r.0 r.1 f xs
  run-in_range r xs l = rw (in_range r.1 (len see xs) l) refl

  module _ (to : A → ListElement) (seeL is_marked : ListElement → Bool) where
    -- each marked element that is seen is changed
    abbrev pub change_marked : List A → List A
    change_marked xs = map (λ x. cond (see x && is_marked (to x)) (f x) x) xs

    len-same : (xs : List A) → Each (λ x. see x ≡ seeL (to x)) xs → len seeL (map to xs) ≡ len see xs
    len-same [] h = refl
    len-same (x ∷ xs) h = rw (h.0, len-same xs h.1) refl

    along : (pre : List A) (x : A) (xs : List A) → pre ++ (x ∷ xs) ≡ (pre ++ (x ∷ [])) ++ xs
    along pre x xs = rw append_assoc refl

    first-one : (i : ℕ) (pre : List A) (x : A) (xs : List A) → len see pre ≡ i → see x ≡ true → change_run (i, suc i) (pre ++ (x ∷ xs)) ≡ pre ++ (f x ∷ xs)
    first-one i pre x xs e s =
        run-in_range (i, suc i) (pre ++ (x ∷ xs)) (let g = len-append pre (x ∷ xs) in let k : len see (x ∷ xs)
        ≡ suc (len see xs) = ap (λ b. one_more_if b (len see xs)) s in omega arith)
        ∙ first-range i (suc i) pre x xs e (omega arith) s
        ∙ ap (λ us. pre ++ (f x ∷ us)) (past-range (suc i) i (suc i) xs (omega arith))

    -- where f hides what it changes, each run is lowered by what the earlier ones hid
    module _ (hides : (x : A) → see (f x) ≡ false) where
      joined-lowered : (p b : ℕ) (pre : List A) (x : A) (xs : List A) → len see pre ≡ p → p < b → b ≤ p + len see xs → see x ≡ true
          → change_run (p, suc b) (pre ++ (x ∷ xs)) ≡ change_run (p, b) (pre ++ (f x ∷ xs))
      joined-lowered p b pre x xs e l m s =
          run-in_range (p, suc b) (pre ++ (x ∷ xs)) (let g = len-append pre (x ∷ xs) in let k : len see (x ∷ xs)
          ≡ suc (len see xs) = ap (λ b. one_more_if b (len see xs)) s in omega arith)
          ∙ first-range p (suc b) pre x xs e (omega arith) s
          ∙ ap (λ us. pre ++ (f x ∷ us)) (shift-range p p b xs (omega arith))
          ∙ sym (run-in_range (p, b) (pre ++ (f x ∷ xs)) (let g = len-append pre (f x ∷ xs) in let k : len see (f x ∷ xs)
          ≡ len see xs = ap (λ b. one_more_if b (len see xs)) (hides x) in omega arith)
          ∙ before-range 0 p b pre (f x ∷ xs) (omega arith)
          ∙ (let g : 0 + len see pre ≡ p = omega arith in ap (λ i. pre ++ change_range_from i see p b f (f x ∷ xs)) g)
          ∙ rw (hides x) refl)

      extended-lowered : (d i : ℕ) (pre : List A) (x : A) (xs : List A) (ys : List A) (runs : List (ℕ × ℕ)) → len see pre + d ≡ i → see x ≡ true
          → FirstRun (suc i + len see xs) runs
          → change_runs (lowered_runs (suc d) runs) (pre ++ (f x ∷ xs)) ≡ ys
          → change_runs (lowered_runs d (extended_runs i runs)) (pre ++ (x ∷ xs)) ≡ ys
      extended-lowered d i pre x xs ys [] e s first h =
          let p : i - d ≡ len see pre = omega arith in
          let q : i + 1 - d ≡ suc (len see pre) = omega arith in
          rw (p, q) (first-one (len see pre) pre x xs refl s ∙ h)
      extended-lowered d i pre x xs ys ((a, b) ∷ runs) e s first h = step (nat_eq a (i + 1)) refl
        where
          step : (c : Bool) → nat_eq a (i + 1) ≡ c → change_runs (lowered_runs d (cond c ((i, b) ∷ runs) ((i, i + 1) ∷ (a, b) ∷ runs))) (pre ++ (x ∷ xs)) ≡ ys
          step true g =
              let k : a ≡ i + 1 = grind (arith, nat_tests) in
              let u : a < b = first.0 in
              let v : b ≤ suc i + len see xs = first.1 in
              let p : i - d ≡ len see pre = omega arith in
              let q : b - d ≡ suc (b - suc d) = omega arith in
              let p' : a - suc d ≡ len see pre = omega arith in
              let w : suc d + (b - a) ≡ d + (b - i) = omega arith in
              let h' : change_runs (lowered_runs (d + (b - i)) runs) (change_run (len see pre, b - suc d) (pre ++ (f x ∷ xs))) ≡ ys =
              subst (λ j. change_runs (lowered_runs (d + (b - i)) runs) (change_run (j, b - suc d) (pre ++ (f x ∷ xs))) ≡ ys) p'
              (subst (λ j. change_runs (lowered_runs j runs) (change_run (a - suc d, b - suc d) (pre ++ (f x ∷ xs))) ≡ ys) w h) in
              rw (p, q) (ap (change_runs (lowered_runs (d + (b - i)) runs)) (joined-lowered (len see pre) (b - suc d) pre x xs refl (omega arith) (omega arith) s) ∙ h')
          step false g =
              let p : i - d ≡ len see pre = omega arith in
              let q : i + 1 - d ≡ suc (len see pre) = omega arith in
              let w : d + (i + 1 - i) ≡ suc d = omega arith in
              rw (p, q, w) (ap (change_runs (lowered_runs (suc d) ((a, b) ∷ runs))) (first-one (len see pre) pre x xs refl s) ∙ h)

      lowered-all : (d i : ℕ) (pre xs : List A) → len see pre + d ≡ i → Each (λ x. see x ≡ seeL (to x)) xs
          → change_runs (lowered_runs d (marked_runs_from i seeL is_marked (map to xs))) (pre ++ xs) ≡ pre ++ change_marked xs
      lowered-all d i pre [] e h = refl
      lowered-all d i pre (x ∷ xs) e h = step (see x) (is_marked (to x)) refl refl (λ d' i' pre' e'. lowered-all d' i' pre' xs e' h.1)
        where
          step : (a b : Bool) → see x ≡ a → is_marked (to x) ≡ b
              → ((d' i' : ℕ) (pre' : List A) → len see pre' + d' ≡ i' → change_runs (lowered_runs d' (marked_runs_from i' seeL is_marked (map to xs)))
              (pre' ++ xs) ≡ pre' ++ change_marked xs)
              → change_runs (lowered_runs d (marked_runs_from i seeL is_marked (to x ∷ map to xs))) (pre ++ (x ∷ xs))
              ≡ pre ++ (cond (see x && is_marked (to x)) (f x) x ∷ change_marked xs)
          step true true p q rest =
              let k = len-append pre (f x ∷ []) in
              let g : len see (f x ∷ []) ≡ 0 = ap (λ b. one_more_if b 0) (hides x) in
              let r : change_runs (lowered_runs (suc d) (marked_runs_from (suc i) seeL is_marked (map to xs))) (pre ++ (f x ∷ xs)) ≡ pre ++ (f x ∷ change_marked xs) =
              ap (change_runs (lowered_runs (suc d) (marked_runs_from (suc i) seeL is_marked (map to xs)))) (along pre (f x) xs)
              ∙ rest (suc d) (suc i) (pre ++ (f x ∷ [])) (omega arith) ∙ sym (along pre (f x) (change_marked xs)) in
              let first = subst (λ n. FirstRun (suc i + n) (marked_runs_from (suc i) seeL is_marked (map to xs))) (len-same xs h.1)
              (first-run (suc i) seeL is_marked (map to xs)) in
              rw (sym h.0, p, q) (extended-lowered d i pre x xs (pre ++ (f x ∷ change_marked xs)) (marked_runs_from (suc i) seeL is_marked (map to xs)) e p first r)
          step true false p q rest =
              let k = len-append pre (x ∷ []) in
              let g : len see (x ∷ []) ≡ 1 = ap (λ b. one_more_if b 0) p in
              rw (sym h.0, p, q) (ap (change_runs (lowered_runs d (marked_runs_from (suc i) seeL is_marked (map to xs)))) (along pre x xs)
              ∙ rest d (suc i) (pre ++ (x ∷ [])) (omega arith) ∙ sym (along pre x (change_marked xs)))
          step false b p q rest =
              let k = len-append pre (x ∷ []) in
              let g : len see (x ∷ []) ≡ 0 = ap (λ b. one_more_if b 0) p in
              rw (sym h.0, p) (ap (change_runs (lowered_runs d (marked_runs_from i seeL is_marked (map to xs)))) (along pre x xs)
              ∙ rest d i (pre ++ (x ∷ [])) (omega arith) ∙ sym (along pre x (change_marked xs)))

      -- all runs, each lowered by the earlier ones
      pub lowered-marked : (xs : List A) → Each (λ x. see x ≡ seeL (to x)) xs → change_runs (lowered_runs 0 (marked_runs_from 0 seeL is_marked (map to xs))) xs ≡ change_marked xs
      lowered-marked xs h = lowered-all 0 0 [] xs (omega arith) h

    -- where f hides nothing, each run stays where it is
    module _ (keeps : (x : A) → see (f x) ≡ see x) where
      joined-kept : (p b : ℕ) (pre : List A) (x : A) (xs : List A) → len see pre ≡ p → suc p < b → b ≤ suc p + len see xs → see x ≡ true
          → change_run (p, b) (pre ++ (x ∷ xs)) ≡ change_run (suc p, b) (pre ++ (f x ∷ xs))
      joined-kept p b pre x xs e l m s =
          run-in_range (p, b) (pre ++ (x ∷ xs)) (let g = len-append pre (x ∷ xs) in let k : len see (x ∷ xs)
          ≡ suc (len see xs) = ap (λ b. one_more_if b (len see xs)) s in omega arith)
          ∙ first-range p b pre x xs e (omega arith) s
          ∙ ap (λ us. pre ++ (f x ∷ us)) (start-range (suc p) p b (suc p) xs (omega arith) (omega arith))
          ∙ sym (run-in_range (suc p, b) (pre ++ (f x ∷ xs)) (let g = len-append pre (f x ∷ xs) in let k : len see (f x ∷ xs)
          ≡ suc (len see xs) = ap (λ b. one_more_if b (len see xs)) (keeps x ∙ s) in omega arith)
          ∙ before-range 0 (suc p) b pre (f x ∷ xs) (omega arith)
          ∙ (let g : 0 + len see pre ≡ p = omega arith in ap (λ i. pre ++ change_range_from i see (suc p) b f (f x ∷ xs)) g)
          ∙ rw (keeps x, s, outside (suc p) b p (omega arith)) refl)

      extended-kept : (i : ℕ) (pre : List A) (x : A) (xs : List A) (ys : List A) (runs : List (ℕ × ℕ)) → len see pre ≡ i → see x ≡ true → FirstRun (suc i + len see xs) runs
          → change_runs runs (pre ++ (f x ∷ xs)) ≡ ys
          → change_runs (extended_runs i runs) (pre ++ (x ∷ xs)) ≡ ys
      extended-kept i pre x xs ys [] e s first h = let q : i + 1 ≡ suc i = omega arith in rw q (first-one i pre x xs e s ∙ h)
      extended-kept i pre x xs ys ((a, b) ∷ runs) e s first h = step (nat_eq a (i + 1)) refl
        where
          step : (c : Bool) → nat_eq a (i + 1) ≡ c → change_runs (cond c ((i, b) ∷ runs) ((i, i + 1) ∷ (a, b) ∷ runs)) (pre ++ (x ∷ xs)) ≡ ys
          step true g =
              let k : a ≡ suc i = grind (arith, nat_tests) in
              let u : a < b = first.0 in
              let v : b ≤ suc i + len see xs = first.1 in
              ap (change_runs runs) (joined-kept i b pre x xs e (omega arith) v s) ∙ subst (λ j. change_runs runs (change_run (j, b) (pre ++ (f x ∷ xs))) ≡ ys) k h
          step false g = let q : i + 1 ≡ suc i = omega arith in rw q (ap (change_runs ((a, b) ∷ runs)) (first-one i pre x xs e s) ∙ h)

      kept-all : (i : ℕ) (pre xs : List A) → len see pre ≡ i → Each (λ x. see x ≡ seeL (to x)) xs
          → change_runs (marked_runs_from i seeL is_marked (map to xs)) (pre ++ xs) ≡ pre ++ change_marked xs
      kept-all i pre [] e h = refl
      kept-all i pre (x ∷ xs) e h = step (see x) (is_marked (to x)) refl refl (λ i' pre' e'. kept-all i' pre' xs e' h.1)
        where
          step : (a b : Bool) → see x ≡ a → is_marked (to x) ≡ b
              → ((i' : ℕ) (pre' : List A) → len see pre' ≡ i' → change_runs (marked_runs_from i' seeL is_marked (map to xs)) (pre' ++ xs) ≡ pre' ++ change_marked xs)
              → change_runs (marked_runs_from i seeL is_marked (to x ∷ map to xs)) (pre ++ (x ∷ xs)) ≡ pre ++ (cond (see x && is_marked (to x)) (f x) x ∷ change_marked xs)
          step true true p q rest =
              let k = len-append pre (f x ∷ []) in
              let g : len see (f x ∷ []) ≡ 1 = ap (λ b. one_more_if b 0) (keeps x ∙ p) in
              let r : change_runs (marked_runs_from (suc i) seeL is_marked (map to xs)) (pre ++ (f x ∷ xs)) ≡ pre ++ (f x ∷ change_marked xs) =
              ap (change_runs (marked_runs_from (suc i) seeL is_marked (map to xs))) (along pre (f x) xs) ∙ rest (suc i) (pre ++ (f x ∷ [])) (omega arith)
              ∙ sym (along pre (f x) (change_marked xs)) in
              let first = subst (λ n. FirstRun (suc i + n) (marked_runs_from (suc i) seeL is_marked (map to xs))) (len-same xs h.1)
              (first-run (suc i) seeL is_marked (map to xs)) in
              rw (sym h.0, p, q) (extended-kept i pre x xs (pre ++ (f x ∷ change_marked xs)) (marked_runs_from (suc i) seeL is_marked (map to xs)) e p first r)
          step true false p q rest =
              let k = len-append pre (x ∷ []) in
              let g : len see (x ∷ []) ≡ 1 = ap (λ b. one_more_if b 0) p in
              rw (sym h.0, p, q) (ap (change_runs (marked_runs_from (suc i) seeL is_marked (map to xs))) (along pre x xs)
              ∙ rest (suc i) (pre ++ (x ∷ [])) (omega arith) ∙ sym (along pre x (change_marked xs)))
          step false b p q rest =
              let k = len-append pre (x ∷ []) in
              let g : len see (x ∷ []) ≡ 0 = ap (λ b. one_more_if b 0) p in
              rw (sym h.0, p) (ap (change_runs (marked_runs_from i seeL is_marked (map to xs))) (along pre x xs) ∙ rest i (pre ++ (x ∷ [])) (omega arith)
              ∙ sym (along pre x (change_marked xs)))

      -- all runs, each where it is
      pub kept-marked : (xs : List A) → Each (λ x. see x ≡ seeL (to x)) xs → change_runs (marked_runs_from 0 seeL is_marked (map to xs)) xs ≡ change_marked xs
      kept-marked xs h = kept-all 0 [] xs refl h
