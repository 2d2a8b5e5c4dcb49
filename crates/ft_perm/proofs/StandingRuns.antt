-- A run that stands in a list of handles: its first handle, and the first place of a handle.
use Rattle.std.proofs.Common.{◌≡◌, ℕ, zero, suc, ◌+◌, ◌-◌, ◌<◌, ◌≤◌, Bool, true, false, cond, ◌&&◌, ◌||◌, nat_eq, nat_le, nat_lt, List, [], ◌∷◌, ◌++◌, length, Some, None}
use Rattle.std.proofs.Common.{refl, sym, ◌∙◌, ap, arith, take, append_assoc, length-append}
use Rattle.std.specs.Prelude.{position, slice_get}
use Rattle.std.specs.List.{list_any, position_from}
use Rattle.std.proofs.lemmas.Bool.Decides.{nat_tests}
use Rattle.std.proofs.lemmas.Iterator.Adapters.{position_from-zero}
use Rattle.std.proofs.lemmas.List.{take_all}
use Rattle.std.proofs.lemmas.List.Folds.{list_any-append}
use Rattle.ft_perm.specs.Handles.{HandleRun, handles_of, in_run, numbers_from}
use Rattle.ft_perm.specs.HandleLaws.{length-numbers_from}
use Rattle.ft_perm.specs.Vectors.{RunStandsAt}

slice_get-behind : (xs ys : List ℕ) (i : ℕ) → length xs ≡ i → slice_get (xs ++ ys) i ≡ slice_get ys 0
slice_get-behind [] ys zero e = refl
slice_get-behind [] ys (suc i) e = absurd (omega arith)
slice_get-behind (x ∷ xs) ys zero e = absurd (omega arith)
slice_get-behind (x ∷ xs) ys (suc i) e = slice_get-behind xs ys i (omega arith)

first_of : (first count : ℕ) (right : List ℕ) → 1 ≤ count → slice_get (numbers_from first count ++ right) 0 ≡ Some first
first_of first zero right h = absurd (omega arith)
first_of first (suc n) right h = refl

pub first_there : (p : ℕ) (run : HandleRun) (handles : List ℕ) → RunStandsAt p run handles → 1 ≤ run.count → Some run.first ≡ slice_get handles p
first_there p run handles s some =
    sym (ap (λ xs. slice_get xs p) s.is ∙ slice_get-behind s.left (handles_of run ++ s.right) p s.place ∙ first_of run.first run.count s.right some)

-- ---- the first place of a handle

any-numbers : (handle first n : ℕ) → list_any (λ h. nat_eq h handle) (numbers_from first n) ≡ (nat_le first handle && nat_lt handle (first + n))
any-numbers handle first zero = grind (arith, nat_tests)
any-numbers handle first (suc n) = grind (arith, nat_tests, any-numbers handle (first + 1) n)

position_from-behind : (handle i : ℕ) (xs ys : List ℕ) → list_any (λ h. nat_eq h handle) xs ≡ false
    → position_from (λ h. nat_eq h handle) i (xs ++ ys) ≡ position_from (λ h. nat_eq h handle) (i + length xs) ys
position_from-behind handle i [] ys none = ap (λ k. position_from (λ h. nat_eq h handle) k ys) (omega arith)
position_from-behind handle i (x ∷ xs) ys none = step (nat_eq x handle) none (position_from-behind handle (i + 1) xs ys)
  where
    step : (b : Bool) → (b || list_any (λ h. nat_eq h handle) xs) ≡ false
        → (list_any (λ h. nat_eq h handle) xs ≡ false → position_from (λ h. nat_eq h handle) (i + 1) (xs ++ ys)
        ≡ position_from (λ h. nat_eq h handle) (i + 1 + length xs) ys)
        → cond b (Some i) (position_from (λ h. nat_eq h handle) (i + 1) (xs ++ ys)) ≡ position_from (λ h. nat_eq h handle) (i + suc (length xs)) ys
    step true e rest = (cc)
    step false e rest = rest e ∙ ap (λ k. position_from (λ h. nat_eq h handle) k ys) (omega arith)

position_from-run : (handle i first n : ℕ) (ys : List ℕ) → first ≤ handle → handle < first + n
    → position_from (λ h. nat_eq h handle) i (numbers_from first n ++ ys) ≡ Some (i + (handle - first))
position_from-run handle i first zero ys low high = absurd (omega arith)
position_from-run handle i first (suc n) ys low high = step (nat_eq first handle) refl (position_from-run handle (i + 1) (first + 1) n ys)
  where
    step : (b : Bool) → nat_eq first handle ≡ b
        → (first + 1 ≤ handle → handle < first + 1 + n → position_from (λ h. nat_eq h handle) (i + 1) (numbers_from (first + 1) n ++ ys)
        ≡ Some (i + 1 + (handle - (first + 1))))
        → cond b (Some i) (position_from (λ h. nat_eq h handle) (i + 1) (numbers_from (first + 1) n ++ ys)) ≡ Some (i + (handle - first))
    step true e rest = let same : first ≡ handle = grind (arith, nat_tests) in ap Some (omega arith)
    step false e rest =
        let above : first + 1 ≤ handle = grind (arith, nat_tests) in
        rest above (omega arith) ∙ ap Some (omega arith)

position_from-none : (handle i : ℕ) (xs : List ℕ) → list_any (λ h. nat_eq h handle) xs ≡ false → position_from (λ h. nat_eq h handle) i xs ≡ None
position_from-none handle i [] none = refl
position_from-none handle i (x ∷ xs) none = grind (arith, nat_tests, position_from-none handle (i + 1) xs)

take-left : (left right : List ℕ) (p : ℕ) → length left ≡ p → take p (left ++ right) ≡ left
take-left [] right zero e = refl
take-left [] right (suc p) e = absurd (omega arith)
take-left (x ∷ left) right zero e = absurd (omega arith)
take-left (x ∷ left) right (suc p) e = ap (λ xs. x ∷ xs) (take-left left right p (omega arith))

-- none is left of the run, so the first place is in it
pub position-there : (handle p : ℕ) (run : HandleRun) (handles : List ℕ) → RunStandsAt p run handles → list_any (λ h. nat_eq h handle) (take p handles) ≡ false
    → in_run handle run ≡ true → Some (p + (handle - run.first)) ≡ position (λ h. nat_eq h handle) handles
position-there handle p run handles s none has =
    let left : list_any (λ h. nat_eq h handle) s.left ≡ false =
    ap (list_any (λ h. nat_eq h handle)) (sym (ap (take p) s.is ∙ take-left s.left (handles_of run ++ s.right) p s.place)) ∙ none in
    let low : run.first ≤ handle = grind (arith, nat_tests) in
    let high : handle < run.first + run.count = grind (arith, nat_tests) in
    sym (
    position_from-zero (λ h. nat_eq h handle) handles ∙ ap (position_from (λ h. nat_eq h handle) 0) s.is
    ∙ position_from-behind handle 0 s.left (handles_of run ++ s.right) left
    ∙ position_from-run handle (0 + length s.left) run.first run.count s.right low high
    ∙ ap (λ k. Some (k + (handle - run.first))) (omega (arith, s.place))
    )

-- where the run hasn't it either, none is left of what follows
pub passed-run : (handle p : ℕ) (run : HandleRun) (handles : List ℕ) → RunStandsAt p run handles → list_any (λ h. nat_eq h handle) (take p handles) ≡ false
    → in_run handle run ≡ false → list_any (λ h. nat_eq h handle) (take (p + run.count) handles) ≡ false
passed-run handle p run handles s none has =
    let left : list_any (λ h. nat_eq h handle) s.left ≡ false =
    ap (list_any (λ h. nat_eq h handle)) (sym (ap (take p) s.is ∙ take-left s.left (handles_of run ++ s.right) p s.place)) ∙ none in
    let size : length (s.left ++ handles_of run) ≡ p + run.count =
    length-append s.left (handles_of run) ∙ omega (arith, s.place, length-numbers_from run.first run.count) in
    let split : handles ≡ (s.left ++ handles_of run) ++ s.right = s.is ∙ sym (append_assoc s.left (handles_of run) s.right) in
    ap (list_any (λ h. nat_eq h handle)) (ap (take (p + run.count)) split ∙ take-left (s.left ++ handles_of run) s.right (p + run.count) size)
    ∙ list_any-append (λ h. nat_eq h handle) s.left (handles_of run)
    ∙ ap (λ b. b || list_any (λ h. nat_eq h handle) (handles_of run)) left ∙ any-numbers handle run.first run.count ∙ has

pub length-there : (p : ℕ) (run : HandleRun) (handles : List ℕ) → RunStandsAt p run handles → p + run.count ≤ length handles
length-there p run handles s =
    omega (
      arith,
      ap length s.is,
      length-append s.left (handles_of run ++ s.right),
      length-append (handles_of run) s.right,
      length-numbers_from run.first run.count,
      s.place,
    )

pub position-none : (handle p : ℕ) (handles : List ℕ) → list_any (λ h. nat_eq h handle) (take p handles) ≡ false → length handles ≤ p
    → None ≡ position (λ h. nat_eq h handle) handles
position-none handle p handles none past =
    sym (position_from-zero (λ h. nat_eq h handle) handles ∙ position_from-none handle 0 handles (ap (list_any (λ h. nat_eq h handle)) (sym (take_all p handles past)) ∙ none))

pub in_run-bounds : (handle : ℕ) (run : HandleRun) → in_run handle run ≡ true → (run.first ≤ handle) × (handle < run.first + run.count)
in_run-bounds handle run h = (grind (arith, nat_tests), grind (arith, nat_tests))
