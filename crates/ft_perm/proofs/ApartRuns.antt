-- Free runs that rise and don't meet, where one is cut, taken out or given back.
use Rattle.std.proofs.Common.{◌≡◌, ◌≢◌, ℕ, zero, suc, ◌+◌, ◌<◌, ◌≤◌, Bool, true, false, cond, nat_le, List, [], ◌∷◌, ◌++◌, Some, take, drop, get_or, length}
use Rattle.std.proofs.Common.{refl, sym, ap, subst, ◌∙◌, inl, inr, arith, true≢false}
use Rattle.std.specs.Prelude.{slice_get, slice_set}
use Rattle.std.specs.List.Sorted.{IsPartitionPoint, IsPartitionedBy}
use Rattle.std.proofs.lemmas.Bool.{cases_lt}
use Rattle.std.proofs.lemmas.Bool.Decides.{nat_tests}
use Rattle.ft_base.specs.Scan.{one_more_if}
use Rattle.ft_perm.specs.Handles.{HandleRun, in_run, joined_run, meets, rear_run}
use Rattle.ft_perm.specs.Vectors.{AreApart, AreBehind, begun, joined_at, times_held}

behind_weaker : (h k : ℕ) (xs : List HandleRun) → h ≤ k → AreBehind k xs → AreBehind h xs
behind_weaker h k [] le b = tt
behind_weaker h k (x ∷ xs) le b = (omega (arith, le, b.0), behind_weaker h k xs le b.1)

-- ---- a run is taken out, or its front is

behind_removed : (h : ℕ) (xs : List HandleRun) (i : ℕ) → AreBehind h xs → AreBehind h (take i xs ++ drop (suc i) xs)
behind_removed h [] zero b = tt
behind_removed h [] (suc i) b = tt
behind_removed h (x ∷ xs) zero b = b.1
behind_removed h (x ∷ xs) (suc i) b = (b.0, behind_removed h xs i b.1)

pub apart_removed : (xs : List HandleRun) (i : ℕ) → AreApart xs → AreApart (take i xs ++ drop (suc i) xs)
apart_removed [] zero a = tt
apart_removed [] (suc i) a = tt
apart_removed (x ∷ xs) zero a = a.2
apart_removed (x ∷ xs) (suc i) a = (a.0, behind_removed (x.first + x.count) xs i a.1, apart_removed xs i a.2)

module _ (x : HandleRun) (n : ℕ) (some : n < x.count) where
  behind_cut : (h : ℕ) (xs : List HandleRun) (i : ℕ) → slice_get xs i ≡ Some x → AreBehind h xs → AreBehind h (slice_set xs i (rear_run x n))
  behind_cut h [] i there b = tt
  behind_cut h (y ∷ ys) zero there b = let same : y ≡ x = (cc) in (omega (arith, b.0, ap (λ r. r.first) same), b.1)
  behind_cut h (y ∷ ys) (suc i) there b = (b.0, behind_cut h ys i there b.1)

  pub apart_cut : (xs : List HandleRun) (i : ℕ) → slice_get xs i ≡ Some x → AreApart xs → AreApart (slice_set xs i (rear_run x n))
  apart_cut [] i there a = tt
  apart_cut (y ∷ ys) zero there a =
      let same : y ≡ x = (cc) in
      (omega (arith, some), behind_weaker _ _ ys (omega (arith, some, ap (λ r. r.first) same, ap (λ r. r.count) same)) a.1, a.2)
  apart_cut (y ∷ ys) (suc i) there a = (a.0, behind_cut (y.first + y.count) ys i there a.1, apart_cut ys i there a.2)

-- ---- the place where a run is put in

first_above : (h j : ℕ) (xs : List HandleRun) (d : HandleRun) → AreBehind h xs → j < length xs → h < (get_or xs j d).first
first_above h j [] d b lt = absurd (omega arith)
first_above h zero (x ∷ xs) d b lt = b.0
first_above h (suc j) (x ∷ xs) d b lt = first_above h j xs d b.1 (omega arith)

firsts_rise : (xs : List HandleRun) → AreApart xs → (i j : ℕ) (d : HandleRun) → i ≤ j → j < length xs → (get_or xs i d).first ≤ (get_or xs j d).first
firsts_rise [] a i j d le lt = absurd (omega arith)
firsts_rise (x ∷ xs) a zero zero d le lt = omega arith
firsts_rise (x ∷ xs) a zero (suc j) d le lt = omega (arith, first_above (x.first + x.count) j xs d a.1 (omega arith))
firsts_rise (x ∷ xs) a (suc i) zero d le lt = absurd (omega arith)
firsts_rise (x ∷ xs) a (suc i) (suc j) d le lt = firsts_rise xs a.2 i j d (omega arith) (omega arith)

begun_too : (n m h : ℕ) → n ≤ m → nat_le m h ≡ true → nat_le n h ≡ true
begun_too n m h le t = grind (arith, nat_tests)

pub partitioned : (h : ℕ) (xs : List HandleRun) → AreApart xs → IsPartitionedBy (λ x. nat_le x.first h) xs
partitioned h xs a = λ i j d le lt t. begun_too (get_or xs i d).first (get_or xs j d).first h (firsts_rise xs a i j d le lt) t

pub point_begun : (h i : ℕ) (xs : List HandleRun) → i ≤ length xs → IsPartitionPoint (λ x. nat_le x.first h ≡ true) (λ x. nat_le x.first h ≡ false) xs i
    → i ≡ begun h xs
point_begun h i [] le p = omega arith
point_begun h zero (x ∷ xs) le p =
    let no : nat_le x.first h ≡ false = p.1 0 x (omega arith) (omega arith) in
    sym (ap (λ b. cond b (suc (begun h xs)) zero) no)
point_begun h (suc i) (x ∷ xs) le p =
    let yes : nat_le x.first h ≡ true = p.0 0 x (omega arith) (omega arith) in
    let rest = point_begun h i xs (omega arith) (λ k d lo hi. p.0 (suc k) d (omega arith) (omega arith), λ k d lo hi. p.1 (suc k) d (omega arith) (omega arith)) in
    ap (λ n. suc n) rest ∙ sym (ap (λ b. cond b (suc (begun h xs)) zero) yes)

-- ---- a run is given back

joined_later : (i : ℕ) (x : HandleRun) (zs : List HandleRun) → joined_at (suc i) (x ∷ zs) ≡ x ∷ joined_at i zs
joined_later i x [] = refl
joined_later i x (z ∷ zs) = refl

-- the first run begins here
abbrev pub BeginAt : ℕ → List HandleRun → Type 0
BeginAt first [] = Unit {0}
BeginAt first (x ∷ xs) = x.first ≡ first

-- joined with the run before this place
abbrev pub joined_before : ℕ → List HandleRun → List HandleRun
joined_before zero zs = zs
joined_before (suc i) zs = joined_at i zs

-- apart, and behind whatever is before this handle and behind which the others are
pub record IsKept (first : ℕ) (xs zs : List HandleRun) : Type 0 where
  pub apart : AreApart zs
  pub behind : (h : ℕ) → h < first → AreBehind h xs → AreBehind h zs

none_left : (b : Bool) (n : ℕ) → one_more_if b n ≡ 0 → (b ≡ false) × (n ≡ 0)
none_left true n e = absurd (omega (arith, e))
none_left false n e = (refl, e)

module _ (run : HandleRun) (some : 1 ≤ run.count) where
  -- no run holds one of the handles
  abbrev pub AreFree : List HandleRun → Type 0
  AreFree xs = (h : ℕ) → in_run h run ≡ true → times_held h xs ≡ 0

  free_tail : (x : HandleRun) (xs : List HandleRun) → AreFree (x ∷ xs) → AreFree xs
  free_tail x xs f h i = (none_left (in_run h x) (times_held h xs) (f h i)).1

  ends_before : (x : HandleRun) (xs : List HandleRun) → AreFree (x ∷ xs) → x.first ≤ run.first → x.first + x.count ≤ run.first
  ends_before x xs f le =
      let mine : in_run run.first run ≡ true = grind (arith, nat_tests, some) in
      let other : in_run run.first x ≡ false = (none_left (in_run run.first x) (times_held run.first xs) (f run.first mine)).0 in
      elim (cases_lt run.first (x.first + x.count)) [
        | inl l ↦ let its : in_run run.first x ≡ true = grind (arith, nat_tests, le, l) in absurd (true≢false (sym its ∙ other))
        | inr g ↦ g
      ]

  starts_behind : (y : HandleRun) (ys : List HandleRun) → AreFree (y ∷ ys) → 1 ≤ y.count → run.first < y.first → run.first + run.count ≤ y.first
  starts_behind y ys f one lt = elim (cases_lt y.first (run.first + run.count)) [
    | inl l ↦
        let mine : in_run y.first run ≡ true = grind (arith, nat_tests, lt, l) in
        let its : in_run y.first y ≡ true = grind (arith, nat_tests, one) in
        absurd (true≢false (sym its ∙ (none_left (in_run y.first y) (times_held y.first ys) (f y.first mine)).0))
    | inr g ↦ g
  ]

  -- before runs that begin behind it
  right_apart : (ys : List HandleRun) → AreApart ys → AreFree ys → AreBehind run.first ys
      → IsKept run.first ys (joined_at zero (run ∷ ys)) × BeginAt run.first (joined_at zero (run ∷ ys))
  right_apart [] a f b = (record { apart = (some, tt, tt); behind = λ h lt later. (lt, tt) }, refl)
  right_apart (y ∷ ys) a f b = by_test (meets run y) refl
    where
      by_test : (t : Bool) → meets run y ≡ t
          → IsKept run.first (y ∷ ys) (cond t (joined_run run y ∷ ys) (run ∷ y ∷ ys)) × BeginAt run.first (cond t (joined_run run y ∷ ys) (run ∷ y ∷ ys))
      by_test true e =
          let met : y.first ≡ run.first + run.count = grind (arith, nat_tests, e) in (
            record {
              apart = (omega (arith, some), behind_weaker _ _ ys (omega (arith, met)) a.1, a.2);
              behind = λ h lt later. (lt, later.1);
            },
            refl,
          )
      by_test false e =
          let far : y.first ≢ run.first + run.count = λ q. absurd (true≢false (sym (let met : meets run y ≡ true = grind (arith, nat_tests, q) in met) ∙ e)) in
          let next : run.first + run.count < y.first = omega (arith, starts_behind y ys f a.0 b.0, far) in (
            record {
              apart = (some, (next, behind_weaker _ _ ys (omega (arith, next)) a.1), a);
              behind = λ h lt later. (lt, later);
            },
            refl,
          )

-- behind a run that ends at or before the first of them
left_apart : (x : HandleRun) (first : ℕ) (zs : List HandleRun) → 1 ≤ x.count → x.first + x.count ≤ first → BeginAt first zs → AreApart zs
    → AreApart (joined_at zero (x ∷ zs)) × ((h : ℕ) → h < x.first → AreBehind h (joined_at zero (x ∷ zs)))
left_apart x first [] one before begin a = ((one, tt, tt), λ h lt. (lt, tt))
left_apart x first (z ∷ zs) one before begin a = by_test (meets x z) refl
  where
    by_test : (t : Bool) → meets x z ≡ t
        → AreApart (cond t (joined_run x z ∷ zs) (x ∷ z ∷ zs)) × ((h : ℕ) → h < x.first → AreBehind h (cond t (joined_run x z ∷ zs) (x ∷ z ∷ zs)))
    by_test true e =
        let met : z.first ≡ x.first + x.count = grind (arith, nat_tests, e) in (
          (omega (arith, one), behind_weaker _ _ zs (omega (arith, met)) a.1, a.2),
          λ h lt. (lt, behind_weaker h (z.first + z.count) zs (omega (arith, lt, met)) a.1),
        )
    by_test false e =
        let far : z.first ≢ x.first + x.count = λ q. absurd (true≢false (sym (let met : meets x z ≡ true = grind (arith, nat_tests, q) in met) ∙ e)) in
        let next : x.first + x.count < z.first = omega (arith, before, begin, far) in (
          (one, (next, behind_weaker _ _ zs (omega (arith, next)) a.1), a),
          λ h lt. (lt, (omega (arith, lt, next), behind_weaker h (z.first + z.count) zs (omega (arith, lt, next)) a.1)),
        )

-- what giving a run back at this place leaves
abbrev pub given_at : HandleRun → ℕ → List HandleRun → List HandleRun
given_at run at xs = joined_before at (joined_at at (take at xs ++ run ∷ drop at xs))

-- the runs are in order up to the place, and behind it
begun_behind : (h : ℕ) (x : HandleRun) (xs : List HandleRun) → nat_le x.first h ≡ false → AreApart (x ∷ xs) → AreBehind h (x ∷ xs)
begun_behind h x xs e a = let far : h < x.first = grind (arith, nat_tests, e) in (far, behind_weaker h (x.first + x.count) xs (omega (arith, far)) a.1)

module _ (run : HandleRun) (some : 1 ≤ run.count) where
  -- the same behind one run more
  kept_later : (x : HandleRun) (xs : List HandleRun) (at : ℕ) → AreApart (x ∷ xs) → x.first + x.count < run.first → x.first ≤ run.first
      → IsKept run.first xs (given_at run (suc at) xs)
      → IsKept run.first (x ∷ xs) (given_at run (suc (suc at)) (x ∷ xs))
  kept_later x xs at a before le kept =
      let put = take (suc at) xs ++ run ∷ drop (suc at) xs in
      let same : given_at run (suc (suc at)) (x ∷ xs) ≡ x ∷ given_at run (suc at) xs =
      ap (joined_at (suc at)) (joined_later (suc at) x put) ∙ joined_later at x (joined_at (suc at) put) in
      subst (IsKept run.first (x ∷ xs)) (sym same) record {
        apart = (a.0, kept.behind (x.first + x.count) before a.1, kept.apart);
        behind = λ h lt later. (later.0, kept.behind h lt later.1);
      }

  -- the same directly behind one run
  kept_next : (x : HandleRun) (xs : List HandleRun) → AreApart (x ∷ xs) → x.first + x.count ≤ run.first → AreFree run some xs → AreBehind run.first xs
      → IsKept run.first (x ∷ xs) (given_at run (suc zero) (x ∷ xs))
  kept_next x xs a before f b =
      let right = right_apart run some xs a.2 f b in
      let left = left_apart x run.first (joined_at zero (run ∷ xs)) a.0 before right.1 right.0.apart in
      subst (IsKept run.first (x ∷ xs)) (sym (ap (joined_at zero) (joined_later zero x (run ∷ xs)))) record {
        apart = left.0;
        behind = λ h lt later. left.1 h later.0;
      }

  pub kept_given : (xs : List HandleRun) → AreApart xs → AreFree run some xs → IsKept run.first xs (given_at run (begun run.first xs) xs)
  kept_given [] a f = (right_apart run some [] tt f tt).0
  kept_given (x ∷ xs) a f = by_first (nat_le x.first run.first) refl (kept_given xs a.2 (free_tail run some x xs f))
    where
      by_second : (ys : List HandleRun) → AreApart (x ∷ ys) → AreFree run some (x ∷ ys) → x.first ≤ run.first
          → IsKept run.first ys (given_at run (begun run.first ys) ys) → IsKept run.first (x ∷ ys) (given_at run (suc (begun run.first ys)) (x ∷ ys))
      by_second [] a f le kept = kept_next x [] a (ends_before run some x [] f le) (free_tail run some x [] f) tt
      by_second (y ∷ ys) a f le kept = by_test (nat_le y.first run.first) refl kept
        where
          by_test : (b : Bool) → nat_le y.first run.first ≡ b
              → IsKept run.first (y ∷ ys) (given_at run (cond b (suc (begun run.first ys)) zero) (y ∷ ys))
              → IsKept run.first (x ∷ (y ∷ ys)) (given_at run (suc (cond b (suc (begun run.first ys)) zero)) (x ∷ (y ∷ ys)))
          by_test true e kept =
              let begins : y.first ≤ run.first = grind (arith, nat_tests, e) in
              kept_later x (y ∷ ys) (begun run.first ys) a (omega (arith, a.1.0, begins)) le kept
          by_test false e kept =
              kept_next x (y ∷ ys) a (ends_before run some x (y ∷ ys) f le) (free_tail run some x (y ∷ ys) f) (begun_behind run.first y ys e a.2)

      by_first : (b : Bool) → nat_le x.first run.first ≡ b → IsKept run.first xs (given_at run (begun run.first xs) xs)
          → IsKept run.first (x ∷ xs) (given_at run (cond b (suc (begun run.first xs)) zero) (x ∷ xs))
      by_first true e kept = by_second xs a f (grind (arith, nat_tests, e)) kept
      by_first false e kept = (right_apart run some (x ∷ xs) a f (begun_behind run.first x xs e a)).0

  pub apart_given : (xs : List HandleRun) → AreFree run some xs → AreApart xs → AreApart (given_at run (begun run.first xs) xs)
  apart_given xs f a = (kept_given xs a f).apart

-- ---- two runs joined

pub joined_none : (xs : List HandleRun) (i : ℕ) → length xs ≤ i + 1 → joined_at i xs ≡ xs
joined_none [] i h = refl
joined_none (x ∷ []) i h = refl
joined_none (x ∷ (y ∷ ys)) zero h = absurd (omega arith)
joined_none (x ∷ (y ∷ ys)) (suc i) h = ap (λ (zs : List HandleRun). x ∷ zs) (joined_none (y ∷ ys) i (omega arith))

module _ (x y : HandleRun) where
  pub joined_apart : (xs : List HandleRun) (i : ℕ) → slice_get xs i ≡ Some x → slice_get xs (suc i) ≡ Some y → meets x y ≡ false → joined_at i xs ≡ xs
  joined_apart [] i here next far = refl
  joined_apart (a ∷ []) i here next far = refl
  joined_apart (a ∷ (b ∷ bs)) zero here next far =
      let first : a ≡ x = (cc) in
      let second : b ≡ y = (cc) in
      ap (λ t. cond t (joined_run a b ∷ bs) (a ∷ (b ∷ bs))) (ap (λ r. meets r b) first ∙ ap (meets x) second ∙ far)
  joined_apart (a ∷ (b ∷ bs)) (suc i) here next far = ap (λ (zs : List HandleRun). a ∷ zs) (joined_apart (b ∷ bs) i here next far)

  pub joined_met : (xs : List HandleRun) (i : ℕ) → slice_get xs i ≡ Some x → slice_get xs (suc i) ≡ Some y → meets x y ≡ true
      → joined_at i xs ≡ slice_set (take (suc i) xs ++ drop (suc (suc i)) xs) i (joined_run x y)
  joined_met [] i here next met = (cc)
  joined_met (a ∷ []) i here next met = (cc)
  joined_met (a ∷ (b ∷ bs)) zero here next met =
      let first : a ≡ x = (cc) in
      let second : b ≡ y = (cc) in
      ap (λ t. cond t (joined_run a b ∷ bs) (a ∷ (b ∷ bs))) (ap (λ r. meets r b) first ∙ ap (meets x) second ∙ met)
      ∙ ap (λ (r : HandleRun). joined_run r b ∷ bs) first ∙ ap (λ (r : HandleRun). joined_run x r ∷ bs) second
  joined_met (a ∷ (b ∷ bs)) (suc i) here next met = ap (λ (zs : List HandleRun). a ∷ zs) (joined_met (b ∷ bs) i here next met)
