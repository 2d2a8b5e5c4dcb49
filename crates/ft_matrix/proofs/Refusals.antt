-- A group of which an operation is out of range in the view that those before it make is refused as the lengths tell.
use Rattle.std.proofs.Common.{◌≡◌, ℕ, zero, suc, ◌+◌, ◌-◌, ◌≤◌, ◌<◌, Bool, true, false, cond, not, ◌&&◌, ◌||◌, nat_le, nat_lt, IsTrue, List, [], ◌∷◌, ◌++◌, Some, None, Result, Ok, Err, refl, sym, ◌∙◌, ap, subst, map, replicate, arith}
use Rattle.std.specs.List.{AllByRecursion, list_all, list_any}
use Rattle.std.proofs.lemmas.Bool.Decides.{nat_tests}
use Rattle.ft_base.specs.declared.stamps.Stamp.{Stamp}
use Rattle.ft_base.specs.declared.stamps.Stamp.TheVariants.{Local}
use Rattle.ft_base.specs.Scan.{at, change_range_from, len, no_run, one_more_if, put, within}
use Rattle.ft_base.specs.Visibility.{has_occurred_at_stage}
use Rattle.ft_base.proofs.Booleans.{both}
use Rattle.ft_block.specs.Leaves.{last_stage}
use Rattle.ft_op.specs.declared.operations.CellOp.{CellOp}
use Rattle.ft_op.specs.declared.operations.CellOp.TheVariants.{SpliceIn, SpliceOut, Set}
use Rattle.ft_props.specs.Properties.{ValueBytes}
use Rattle.ft_op.specs.declared.operations.Target.TheVariants.{Rows, Cols}
use Rattle.ft_op.specs.WellFormed.{IsWellFormedCell, is_range, is_count}
use Rattle.ft_msg.specs.declared.faults.EditFault.{EditFault}
use Rattle.ft_msg.specs.declared.faults.EditFault.TheVariants.{OutOfRange}
use Rattle.ft_props.specs.Element.{GridUnit, ListElement, id, nameless, new_elements, removal_stamp, seen, stamps_of, with_pending_removal}
use Rattle.ft_props.specs.Steps.{Sequence}
use Rattle.ft_op.specs.Operation.{OnGrid}
use Rattle.ft_op.specs.Document.{Document}
use Rattle.ft_op.specs.Intervals.{NamedElements, no_elements}
use Rattle.ft_op.specs.Stages.{Stage}
use Rattle.ft_msg.specs.Client.{EditResult, local_grid, local_sub_operations}
use Rattle.ft_tree_leaves.specs.Elements.{TreeElement, seen_in}
use Rattle.ft_laws_agreement.proofs.AgreedStage.{len-put-add}
use Rattle.ft_laws_names.proofs.Beside.{ends, next}
use Rattle.ft_laws_names.specs.GridFacts.{is_stamp_below, is_unit_below}
use Rattle.ft_matrix.specs.declared.grid.Grid.{Grid}
use Rattle.ft_matrix.specs.Applied.{Holds}
use Rattle.ft_matrix.specs.Conditions.{IsAboveAll}
use Rattle.ft_matrix.specs.GridStates.{grid_state}
use Rattle.ft_matrix.specs.OwnEdits.{behind, lengths_after, refusal, stage_of}
use Rattle.ft_matrix.specs.Sound.{IsSound, no_properties}
use Rattle.ft_matrix.specs.Units.{units_of}
use Rattle.ft_matrix.proofs.Effects.{units}
use Rattle.ft_matrix.proofs.HeldGrids.{rows-beside}
use Rattle.ft_matrix.proofs.OwnEdits.{cols-below, cols-count, local-own, own_set, rows-below, rows-count}
use Rattle.ft_matrix.proofs.OwnGroups.{taken-first}
use Rattle.ft_matrix.proofs.OwnSteps.{AreBelow, any-last, len-tests, seen-same}
use Rattle.ft_matrix.proofs.OwnSound.{later-unit}
use Rattle.ft_matrix.proofs.SoundVectors.{all-put, all-range, all-weaker}
use Rattle.ft_matrix.proofs.UnitLists.{BesideUnits, IsUnit}

-- ---- lists of which all stamps are below a stage

abbrev Below : ℕ → List ListElement → Type 0
Below k xs = AllByRecursion (λ x. is_unit_below k (nameless x) ≡ true) xs

-- an element as a unit
abbrev bare : ListElement → TreeElement ℕ
bare x = record { unit = 0; stamps = stamps_of x; by = None; overlay = no_properties }

next-le : (n : ℕ) → n ≤ suc n
next-le n = omega arith

views-same : (k : ℕ) (xs : List ListElement) → Below (suc k) xs → AllByRecursion (λ x. seen (suc k) x ≡ seen k x) xs
views-same k [] a = tt
views-same k (x ∷ xs) a = (seen-same k (suc k) (bare x) a.0 (next-le k), views-same k xs a.1)

below-units : (k : ℕ) {xs : List ListElement} {es : List (TreeElement ℕ)} → BesideUnits IsUnit xs es → AreBelow k es → Below k xs
below-units k ends a = tt
below-units k (next u us) a = (ap (is_unit_below k) u.same ∙ a.0, below-units k us a.1)

later-below : (k : ℕ) (xs : List ListElement) → Below k xs → Below (suc k) xs
later-below k xs a = subst (λ n. Below n xs) (one k) (all-weaker (λ x. is_unit_below k (nameless x) ≡ true) (λ x. is_unit_below (k + 1) (nameless x) ≡ true) (λ x h. later-unit k (nameless x) h) xs a)
  where
    one : (n : ℕ) → n + 1 ≡ suc n
    one n = omega arith

-- ---- lengths after an insertion

here-below : (k : ℕ) → is_stamp_below (suc k) (Local k) ≡ true
here-below k = grind (arith, nat_tests)

here-seen : (k : ℕ) → nat_le k k ≡ true
here-seen k = grind (arith, nat_tests)

new-below : (k n count : ℕ) → Below (suc k) (new_elements n (Local k) [] None [] (replicate count GridUnit))
new-below k n zero = tt
new-below k n (suc count) = (ap (λ b. b && true) (here-below k), new-below k (n + 1) count)

new-seen : (k n count : ℕ) → len (seen k) (new_elements n (Local k) [] None [] (replicate count GridUnit)) ≡ count
new-seen k n zero = refl
new-seen k n (suc count) =
    ap (λ b. one_more_if (b && true) (len (seen k) (new_elements (n + 1) (Local k) [] None [] (replicate count GridUnit)))) (here-seen k) ∙ ap suc (new-seen k (n + 1) count)

pub turned : (m n : ℕ) → m + n ≡ n + m
turned m n = omega arith

inserted-length : (last p count : ℕ) (xs : List ListElement) → Below (suc last) xs
    → len (seen (suc last)) (put (seen last) no_run p (new_elements 0 (Local (suc last)) [] None [] (replicate count GridUnit)) xs) ≡ len (seen last) xs + count
inserted-length last p count xs a =
    len-put-add (seen (suc last)) (seen last) no_run p (new_elements 0 (Local (suc last)) [] None [] (replicate count GridUnit)) xs
    ∙ ap (λ n. n + len (seen (suc last)) xs) (new-seen (suc last) 0 count)
    ∙ ap (λ n. count + n) (len-tests (seen (suc last)) (seen last) xs (views-same last xs a))
    ∙ turned count (len (seen last) xs)

inserted-below : (last p count : ℕ) (xs : List ListElement) → Below (suc last) xs
    → Below (suc (suc last)) (put (seen last) no_run p (new_elements 0 (Local (suc last)) [] None [] (replicate count GridUnit)) xs)
inserted-below last p count xs a = all-put (λ x. is_unit_below (suc (suc last)) (nameless x) ≡ true) no_run
    (new_elements 0 (Local (suc last)) [] None [] (replicate count GridUnit))
    (new-below (suc last) 0 count) (seen last) p xs (later-below (suc last) xs a)

-- ---- lengths after a removal

module _ {A : Type 0} (s t : A → Bool) (f : A → A) (gone : (x : A) → t (f x) ≡ false) where
  abbrev Same : List A → Type 0
  Same xs = AllByRecursion (λ x. t x ≡ s x) xs

  behind-range : (p q i : ℕ) (xs : List A) → Same xs → q ≤ i → len t (change_range_from i s p q f xs) ≡ len s xs
  behind-range p q i [] a l = refl
  behind-range p q i (x ∷ xs) a l = step (s x) refl (behind-range p q (one_more_if (s x) i) xs a.1 (higher (s x)))
    where
      higher : (b : Bool) → q ≤ one_more_if b i
      higher true = omega arith
      higher false = l

      out : within p q i ≡ false
      out = outside (nat_le p i)
        where
          not-below : nat_lt i q ≡ false
          not-below = grind (arith, nat_tests)

          outside : (b : Bool) → b && nat_lt i q ≡ false
          outside true = not-below
          outside false = refl

      kept : (b : Bool) → within p q i ≡ false → cond (b && within p q i) (f x) x ≡ x
      kept true e = ap (λ c. cond c (f x) x) e
      kept false e = refl

      step : (b : Bool) → s x ≡ b → len t (change_range_from (one_more_if (s x) i) s p q f xs) ≡ len s xs
          → one_more_if (t (cond (s x && within p q i) (f x) x)) (len t (change_range_from (one_more_if (s x) i) s p q f xs)) ≡ one_more_if (s x) (len s xs)
      step b e ih = ap (λ y. one_more_if (t y) (len t (change_range_from (one_more_if (s x) i) s p q f xs))) (kept (s x) out)
          ∙ ap (λ c. one_more_if c (len t (change_range_from (one_more_if (s x) i) s p q f xs))) a.0 ∙ ap (one_more_if (s x)) ih

  in-range : (p q i m : ℕ) (xs : List A) → Same xs → p ≤ i → i + m ≡ q → m ≤ len s xs → len t (change_range_from i s p q f xs) + m ≡ len s xs
  in-range p q i zero xs a l e n = plus (len t (change_range_from i s p q f xs)) ∙ behind-range p q i xs a (omega arith)
    where
      plus : (n : ℕ) → n + 0 ≡ n
      plus n = omega arith
  in-range p q i (suc m) [] a l e n = absurd (omega arith)
  in-range p q i (suc m) (x ∷ xs) a l e n = step (s x) refl n (λ k. in-range p q (suc i) m xs a.1 (omega arith) (omega arith) k) (λ k. in-range p q i (suc m) xs a.1 l e k)
    where
      inside : within p q i ≡ true
      inside = ap (λ b. b && nat_lt i q) low ∙ high
        where
          low : nat_le p i ≡ true
          low = grind (arith, nat_tests)

          high : nat_lt i q ≡ true
          high = grind (arith, nat_tests)

      more : (k : ℕ) → k + suc m ≡ suc (k + m)
      more k = omega arith

      less : suc m ≤ suc (len s xs) → m ≤ len s xs
      less k = omega arith

      step : (b : Bool) → s x ≡ b → suc m ≤ one_more_if b (len s xs) → (m ≤ len s xs → len t (change_range_from (suc i) s p q f xs) + m ≡ len s xs)
          → (suc m ≤ len s xs → len t (change_range_from i s p q f xs) + suc m ≡ len s xs)
          → one_more_if (t (cond (s x && within p q i) (f x) x)) (len t (change_range_from (one_more_if (s x) i) s p q f xs)) + suc m
          ≡ one_more_if (s x) (len s xs)
      step true h k ih jh =
          ap (λ b. one_more_if (t (cond (b && within p q i) (f x) x)) (len t (change_range_from (one_more_if b i) s p q f xs)) + suc m) h
          ∙ ap (λ b. one_more_if (t (cond b (f x) x)) (len t (change_range_from (suc i) s p q f xs)) + suc m) inside
          ∙ ap (λ b. one_more_if b (len t (change_range_from (suc i) s p q f xs)) + suc m) (gone x)
          ∙ more (len t (change_range_from (suc i) s p q f xs)) ∙ ap suc (ih (less k)) ∙ sym (ap (λ b. one_more_if b (len s xs)) h)
      step false h k ih jh =
          ap (λ b. one_more_if (t (cond (b && within p q i) (f x) x)) (len t (change_range_from (one_more_if b i) s p q f xs)) + suc m) h
          ∙ ap (λ b. one_more_if b (len t (change_range_from i s p q f xs)) + suc m) (a.0 ∙ h) ∙ jh k ∙ sym (ap (λ b. one_more_if b (len s xs)) h)

  before-range : (p q i d m : ℕ) (xs : List A) → Same xs → i + d ≡ p → p + m ≡ q → d + m ≤ len s xs → len t (change_range_from i s p q f xs) + m ≡ len s xs
  before-range p q i zero m xs a e g n = in-range p q i m xs a (omega arith) (omega arith) (omega arith)
  before-range p q i (suc d) m [] a e g n = absurd (omega arith)
  before-range p q i (suc d) m (x ∷ xs) a e g n =
      step (s x) refl n (λ k. before-range p q (suc i) d m xs a.1 (omega arith) g k) (λ k. before-range p q i (suc d) m xs a.1 e g k)
    where
      out : within p q i ≡ false
      out = ap (λ b. b && nat_lt i q) low
        where
          low : nat_le p i ≡ false
          low = grind (arith, nat_tests)

      kept : (b : Bool) → cond (b && within p q i) (f x) x ≡ x
      kept true = ap (λ c. cond c (f x) x) out
      kept false = refl

      less : suc d + m ≤ suc (len s xs) → d + m ≤ len s xs
      less k = omega arith

      step : (b : Bool) → s x ≡ b → suc d + m ≤ one_more_if b (len s xs) → (d + m ≤ len s xs → len t (change_range_from (suc i) s p q f xs) + m ≡ len s xs)
          → (suc d + m ≤ len s xs → len t (change_range_from i s p q f xs) + m ≡ len s xs)
          → one_more_if (t (cond (s x && within p q i) (f x) x)) (len t (change_range_from (one_more_if (s x) i) s p q f xs)) + m ≡ one_more_if (s x) (len s xs)
      step b h k ih jh = ap (λ y. one_more_if (t y) (len t (change_range_from (one_more_if (s x) i) s p q f xs)) + m) (kept (s x)) ∙ at-element b h k ih jh
        where
          at-element : (b : Bool) → s x ≡ b → suc d + m ≤ one_more_if b (len s xs)
              → (d + m ≤ len s xs → len t (change_range_from (suc i) s p q f xs) + m ≡ len s xs)
              → (suc d + m ≤ len s xs → len t (change_range_from i s p q f xs) + m ≡ len s xs)
              → one_more_if (t x) (len t (change_range_from (one_more_if (s x) i) s p q f xs)) + m ≡ one_more_if (s x) (len s xs)
          at-element true h k ih jh =
              ap (λ b. one_more_if b (len t (change_range_from (one_more_if (s x) i) s p q f xs)) + m) (a.0 ∙ h)
              ∙ ap (λ b. suc (len t (change_range_from (one_more_if b i) s p q f xs)) + m) h
              ∙ next-one (len t (change_range_from (suc i) s p q f xs)) ∙ ap suc (ih (less k)) ∙ sym (ap (λ b. one_more_if b (len s xs)) h)
            where
              next-one : (n : ℕ) → suc n + m ≡ suc (n + m)
              next-one n = omega arith
          at-element false h k ih jh =
              ap (λ b. one_more_if b (len t (change_range_from (one_more_if (s x) i) s p q f xs)) + m) (a.0 ∙ h)
              ∙ ap (λ b. len t (change_range_from (one_more_if b i) s p q f xs) + m) h ∙ jh k ∙ sym (ap (λ b. one_more_if b (len s xs)) h)

  -- the elements of a range are seen no more
  pub range-length : (p q : ℕ) (xs : List A) → AllByRecursion (λ x. t x ≡ s x) xs → p ≤ q → q ≤ len s xs
      → len t (change_range_from 0 s p q f xs) ≡ len s xs - (q - p)
  range-length p q xs a l h = let e = before-range p q 0 p (q - p) xs a (omega arith) (omega arith) (omega arith) in omega (arith, e)

pub hidden : (b c : Bool) → c ≡ true → b && not c ≡ false
hidden true c e = ap not e
hidden false c e = refl

mark-gone : (k : ℕ) (x : ListElement) → seen k (with_pending_removal k x) ≡ false
mark-gone k x = hidden (has_occurred_at_stage k x.ins) (list_any (has_occurred_at_stage k) (x.dels ++ (Local k ∷ [])))
    (any-last (has_occurred_at_stage k) x.dels (Local k ∷ []) (ap (λ b. b || false) (here-seen k)))

removed-length : (last p q : ℕ) (xs : List ListElement) → Below (suc last) xs → p ≤ q → q ≤ len (seen last) xs
    → len (seen (suc last)) (change_range_from 0 (seen last) p q (with_pending_removal (suc last)) xs) ≡ len (seen last) xs - (q - p)
removed-length last p q xs a l h =
    range-length (seen last) (seen (suc last)) (with_pending_removal (suc last)) (λ x. mark-gone (suc last) x) p q xs (views-same last xs a) l h

first-all : (test : Stamp → Bool) (ts us : List Stamp) → list_all test (ts ++ us) ≡ true → list_all test ts ≡ true
first-all test [] us a = refl
first-all test (t ∷ ts) us a = let p = both (test t) (list_all test (ts ++ us)) a in ap (λ b. b && list_all test ts) p.0 ∙ first-all test ts us p.1

both-all : (test : Stamp → Bool) (ts us : List Stamp) → list_all test ts ≡ true → list_all test us ≡ true → list_all test (ts ++ us) ≡ true
both-all test [] us a b = b
both-all test (t ∷ ts) us a b = let p = both (test t) (list_all test ts) a in ap (λ c. c && list_all test (ts ++ us)) p.0 ∙ both-all test ts us p.1 b

marked-below : (k : ℕ) (x : ListElement) → is_unit_below (suc k) (nameless x) ≡ true → is_unit_below (suc k) (nameless (with_pending_removal k x)) ≡ true
marked-below k x h =
    let p = both (is_stamp_below (suc k) x.ins) (list_all (is_stamp_below (suc k)) (x.dels ++ removal_stamp x.removal_stage)) h in
    ap (λ b. b && list_all (is_stamp_below (suc k)) (x.dels ++ (Local k ∷ []))) p.0
    ∙ both-all (is_stamp_below (suc k)) x.dels (Local k ∷ []) (first-all (is_stamp_below (suc k)) x.dels (removal_stamp x.removal_stage) p.1) (ap (λ b. b && true) (here-below k))

removed-below : (last p q : ℕ) (xs : List ListElement) → Below (suc last) xs
    → Below (suc (suc last)) (change_range_from 0 (seen last) p q (with_pending_removal (suc last)) xs)
removed-below last p q xs a = all-range (λ x. is_unit_below (suc (suc last)) (nameless x) ≡ true) (seen last) (with_pending_removal (suc last))
    (λ x h. marked-below (suc last) x h) 0 p q xs (later-below (suc last) xs a)

-- ---- what stands at a place

at-none : {A : Type 0} (s : A → Bool) (i : ℕ) (xs : List A) → len s xs ≤ i → at s i xs ≡ None
at-none s i [] l = refl
at-none {A} s zero (x ∷ xs) l = step (s x) refl l (λ k. at-none s zero xs k)
  where
    step : (b : Bool) → s x ≡ b → one_more_if b (len s xs) ≤ 0 → (len s xs ≤ 0 → at s zero xs ≡ None) → cond b (Some x) (at s zero xs) ≡ None
    step true e k ih = absurd (omega arith)
    step false e k ih = ih k
at-none {A} s (suc i) (x ∷ xs) l = step (s x) l (λ k. at-none s i xs k) (λ k. at-none s (suc i) xs k)
  where
    step : (b : Bool) → one_more_if b (len s xs) ≤ suc i → (len s xs ≤ i → at s i xs ≡ None) → (len s xs ≤ suc i → at s (suc i) xs ≡ None)
        → at s (cond b i (suc i)) xs ≡ None
    step true k ih jh = ih (omega arith)
    step false k ih jh = jh k

at-some : {A : Type 0} (s : A → Bool) (i : ℕ) (xs : List A) → i < len s xs → (x : A) × (at s i xs ≡ Some x)
at-some s i [] l = absurd (omega arith)
at-some {A} s zero (x ∷ xs) l = step (s x) l (λ k. at-some s zero xs k)
  where
    step : (b : Bool) → zero < one_more_if b (len s xs) → (zero < len s xs → (y : A) × (at s zero xs ≡ Some y))
        → (y : A) × (cond b (Some x) (at s zero xs) ≡ Some y)
    step true k ih = (x, refl)
    step false k ih = ih k
at-some {A} s (suc i) (x ∷ xs) l = step (s x) l (λ k. at-some s i xs k) (λ k. at-some s (suc i) xs k)
  where
    step : (b : Bool) → suc i < one_more_if b (len s xs) → (i < len s xs → (y : A) × (at s i xs ≡ Some y))
        → (suc i < len s xs → (y : A) × (at s (suc i) xs ≡ Some y))
        → (y : A) × (at s (cond b i (suc i)) xs ≡ Some y)
    step true k ih jh = ih (omega arith)
    step false k ih jh = jh k

-- ---- tests of places

in-order : (p q : ℕ) → IsTrue (is_range p q) → p ≤ q
in-order p q t = let b = both (nat_le p q) (is_count q) t in let c = b.0 in grind (arith, nat_tests)

inside-test : (q n : ℕ) → nat_le q n ≡ true → q ≤ n
inside-test q n h = grind (arith, nat_tests)

pub inside-strict : (q n : ℕ) → nat_lt q n ≡ true → q < n
inside-strict q n h = grind (arith, nat_tests)

outside-strict : (q n : ℕ) → nat_lt q n ≡ false → n ≤ q
outside-strict q n h = grind (arith, nat_tests)

-- ---- one operation

-- the operation is taken, and then so many rows and columns are seen
record Goes (last k : ℕ) (doc : Document) (op : CellOp) (lengths : ℕ × ℕ) : Type 0 where
  later : Document
  names : NamedElements
  is : local_grid doc k op ≡ Ok (later, names)
  rows : Below (suc (suc last)) later.rows.items
  cols : Below (suc (suc last)) later.cols.items
  rows_count : lengths.0 ≡ len (seen (suc last)) later.rows.items
  cols_count : lengths.1 ≡ len (seen (suc last)) later.cols.items

-- it goes, or is refused
abbrev After : ℕ → ℕ → Document → CellOp → Result (ℕ × ℕ) ℕ → Type 0
After last k doc op (Ok lengths) = Goes last k doc op lengths
After last k doc op (Err n) = local_grid doc k op ≡ Err (OutOfRange n)

module _ (last k : ℕ) (e : k ≡ last + 1) (doc : Document) (rows : Below (suc last) doc.rows.items) (cols : Below (suc last) doc.cols.items) where
  same-rows : len (seen last) doc.rows.items ≡ len (seen (suc last)) doc.rows.items
  same-rows = sym (len-tests (seen (suc last)) (seen last) doc.rows.items (views-same last doc.rows.items rows))

  same-cols : len (seen last) doc.cols.items ≡ len (seen (suc last)) doc.cols.items
  same-cols = sym (len-tests (seen (suc last)) (seen last) doc.cols.items (views-same last doc.cols.items cols))

  insert-rows : (p count : ℕ) → After last k doc (SpliceIn Rows p count) (lengths_after (len (seen last) doc.rows.items) (len (seen last) doc.cols.items) (SpliceIn Rows p count))
  insert-rows p count = step (nat_le p (len (seen last) doc.rows.items)) refl
    where
      list : Sequence
      list = record doc.rows { items = put (seen last) no_run p (new_elements 0 (Local (suc last)) [] None [] (replicate count GridUnit)) doc.rows.items }

      tested : (b : Bool) → nat_le p (len (seen last) doc.rows.items) ≡ b
          → local_grid doc k (SpliceIn Rows p count) ≡ cond b (Ok (record doc { rows = list }, no_elements)) (Err (OutOfRange (len (seen last) doc.rows.items)))
      tested b h = local-own doc last k (SpliceIn Rows p count) e
          ∙ ap (λ b. cond b (Ok (record doc { rows = list }, no_elements)) (Err (OutOfRange (len (seen last) doc.rows.items)))) h

      step : (b : Bool) → nat_le p (len (seen last) doc.rows.items) ≡ b
          → After last k doc (SpliceIn Rows p count) (cond b (Ok (len (seen last) doc.rows.items + count, len (seen last) doc.cols.items)) (Err (len (seen last) doc.rows.items)))
      step true h = record {
        later = record doc { rows = list };
        names = no_elements;
        is = tested true h;
        rows = inserted-below last p count doc.rows.items rows;
        cols = later-below (suc last) doc.cols.items cols;
        rows_count = sym (inserted-length last p count doc.rows.items rows);
        cols_count = same-cols;
      }
      step false h = tested false h

  insert-cols : (p count : ℕ) → After last k doc (SpliceIn Cols p count) (lengths_after (len (seen last) doc.rows.items) (len (seen last) doc.cols.items) (SpliceIn Cols p count))
  insert-cols p count = step (nat_le p (len (seen last) doc.cols.items)) refl
    where
      list : Sequence
      list = record doc.cols { items = put (seen last) no_run p (new_elements 0 (Local (suc last)) [] None [] (replicate count GridUnit)) doc.cols.items }

      tested : (b : Bool) → nat_le p (len (seen last) doc.cols.items) ≡ b
          → local_grid doc k (SpliceIn Cols p count) ≡ cond b (Ok (record doc { cols = list }, no_elements)) (Err (OutOfRange (len (seen last) doc.cols.items)))
      tested b h = local-own doc last k (SpliceIn Cols p count) e
          ∙ ap (λ b. cond b (Ok (record doc { cols = list }, no_elements)) (Err (OutOfRange (len (seen last) doc.cols.items)))) h

      step : (b : Bool) → nat_le p (len (seen last) doc.cols.items) ≡ b
          → After last k doc (SpliceIn Cols p count) (cond b (Ok (len (seen last) doc.rows.items, len (seen last) doc.cols.items + count)) (Err (len (seen last) doc.cols.items)))
      step true h = record {
        later = record doc { cols = list };
        names = no_elements;
        is = tested true h;
        rows = later-below (suc last) doc.rows.items rows;
        cols = inserted-below last p count doc.cols.items cols;
        rows_count = same-rows;
        cols_count = sym (inserted-length last p count doc.cols.items cols);
      }
      step false h = tested false h

  remove-rows : (p q : ℕ) → p ≤ q → After last k doc (SpliceOut Rows p q) (lengths_after (len (seen last) doc.rows.items) (len (seen last) doc.cols.items) (SpliceOut Rows p q))
  remove-rows p q l = step (nat_le q (len (seen last) doc.rows.items)) refl
    where
      list : Sequence
      list = record doc.rows { items = change_range_from 0 (seen last) p q (with_pending_removal (suc last)) doc.rows.items }

      tested : (b : Bool) → nat_le q (len (seen last) doc.rows.items) ≡ b
          → local_grid doc k (SpliceOut Rows p q) ≡ cond b (Ok (record doc { rows = list }, no_elements)) (Err (OutOfRange (len (seen last) doc.rows.items)))
      tested b h = local-own doc last k (SpliceOut Rows p q) e
          ∙ ap (λ b. cond b (Ok (record doc { rows = list }, no_elements)) (Err (OutOfRange (len (seen last) doc.rows.items)))) h

      step : (b : Bool) → nat_le q (len (seen last) doc.rows.items) ≡ b
          → After last k doc (SpliceOut Rows p q) (cond b (Ok (len (seen last) doc.rows.items - (q - p), len (seen last) doc.cols.items)) (Err (len (seen last) doc.rows.items)))
      step true h = record {
        later = record doc { rows = list };
        names = no_elements;
        is = tested true h;
        rows = removed-below last p q doc.rows.items rows;
        cols = later-below (suc last) doc.cols.items cols;
        rows_count = sym (removed-length last p q doc.rows.items rows l (inside-test q (len (seen last) doc.rows.items) h));
        cols_count = same-cols;
      }
      step false h = tested false h

  remove-cols : (p q : ℕ) → p ≤ q → After last k doc (SpliceOut Cols p q) (lengths_after (len (seen last) doc.rows.items) (len (seen last) doc.cols.items) (SpliceOut Cols p q))
  remove-cols p q l = step (nat_le q (len (seen last) doc.cols.items)) refl
    where
      list : Sequence
      list = record doc.cols { items = change_range_from 0 (seen last) p q (with_pending_removal (suc last)) doc.cols.items }

      tested : (b : Bool) → nat_le q (len (seen last) doc.cols.items) ≡ b
          → local_grid doc k (SpliceOut Cols p q) ≡ cond b (Ok (record doc { cols = list }, no_elements)) (Err (OutOfRange (len (seen last) doc.cols.items)))
      tested b h = local-own doc last k (SpliceOut Cols p q) e
          ∙ ap (λ b. cond b (Ok (record doc { cols = list }, no_elements)) (Err (OutOfRange (len (seen last) doc.cols.items)))) h

      step : (b : Bool) → nat_le q (len (seen last) doc.cols.items) ≡ b
          → After last k doc (SpliceOut Cols p q) (cond b (Ok (len (seen last) doc.rows.items, len (seen last) doc.cols.items - (q - p))) (Err (len (seen last) doc.cols.items)))
      step true h = record {
        later = record doc { cols = list };
        names = no_elements;
        is = tested true h;
        rows = later-below (suc last) doc.rows.items rows;
        cols = removed-below last p q doc.cols.items cols;
        rows_count = same-rows;
        cols_count = sym (removed-length last p q doc.cols.items cols l (inside-test q (len (seen last) doc.cols.items) h));
      }
      step false h = tested false h

  write : (i j : ℕ) (value : ValueBytes) → After last k doc (Set i j value) (lengths_after (len (seen last) doc.rows.items) (len (seen last) doc.cols.items) (Set i j value))
  write i j value = step (nat_lt i (len (seen last) doc.rows.items)) (nat_lt j (len (seen last) doc.cols.items)) refl refl
    where
      step : (a b : Bool) → nat_lt i (len (seen last) doc.rows.items) ≡ a → nat_lt j (len (seen last) doc.cols.items) ≡ b
          → After last k doc (Set i j value) (cond a (cond b (Ok (len (seen last) doc.rows.items, len (seen last) doc.cols.items)) (Err (len (seen last) doc.cols.items)))
          (Err (len (seen last) doc.rows.items)))
      step true true h m =
          let row = at-some (seen last) i doc.rows.items (inside-strict i (len (seen last) doc.rows.items) h) in
          let col = at-some (seen last) j doc.cols.items (inside-strict j (len (seen last) doc.cols.items) m) in
          record {
            later = doc;
            names = record { first = Some (id row.0); second = Some (id col.0) };
            is = local-own doc last k (Set i j value) e ∙ ap (λ o. own_set doc last o (at (seen last) j doc.cols.items)) row.1 ∙ ap (own_set doc last (Some row.0)) col.1;
            rows = later-below (suc last) doc.rows.items rows;
            cols = later-below (suc last) doc.cols.items cols;
            rows_count = same-rows;
            cols_count = same-cols;
          }
      step true false h m =
          let row = at-some (seen last) i doc.rows.items (inside-strict i (len (seen last) doc.rows.items) h) in
          local-own doc last k (Set i j value) e ∙ ap (λ o. own_set doc last o (at (seen last) j doc.cols.items)) row.1
          ∙ ap (own_set doc last (Some row.0)) (at-none (seen last) j doc.cols.items (outside-strict j (len (seen last) doc.cols.items) m))
      step false b h m =
          local-own doc last k (Set i j value) e
          ∙ ap (λ o. own_set doc last o (at (seen last) j doc.cols.items)) (at-none (seen last) i doc.rows.items (outside-strict i (len (seen last) doc.rows.items) h))

  one-after : (op : CellOp) → IsWellFormedCell op → After last k doc op (lengths_after (len (seen last) doc.rows.items) (len (seen last) doc.cols.items) op)
  one-after (SpliceIn Rows p count) w = insert-rows p count
  one-after (SpliceIn Cols p count) w = insert-cols p count
  one-after (SpliceOut Rows p q) w = remove-rows p q (in-order p q w)
  one-after (SpliceOut Cols p q) w = remove-cols p q (in-order p q w)
  one-after (Set i j value) w = write i j value

-- ---- a group

first-refused : (doc : Document) (stages : List Stage) (k n : ℕ) (op : CellOp) (ops : List CellOp) → local_grid doc k op ≡ Err (OutOfRange n)
    → local_sub_operations doc stages k (map (λ o. OnGrid o) (op ∷ ops)) ≡ Err (OutOfRange n)
first-refused doc stages k n op ops e = ap after e
  where
    after : EditResult → Result (Document × List Stage) EditFault
    after r = elim r [
      | Err fault ↦ Err fault
      | Ok t ↦
          let s : Stage = record { stage = k; sub_operation = OnGrid op; names = t.1 } in
          elim (local_sub_operations t.0 (stages ++ (s ∷ [])) (k + 1) (map (λ o. OnGrid o) ops)) [ Err fault ↦ Err fault | Ok rest ↦ Ok (rest.0, s ∷ rest.1) ]
    ]

some-same : {x y : ℕ} → Some x ≡ Some y → x ≡ y
some-same e = cc e

group : (last k n : ℕ) (doc : Document) (stages : List Stage) (ops : List CellOp) → k ≡ last + 1 → Below (suc last) doc.rows.items
    → Below (suc last) doc.cols.items
    → AllByRecursion IsWellFormedCell ops → refusal (len (seen last) doc.rows.items) (len (seen last) doc.cols.items) ops ≡ Some n
    → local_sub_operations doc stages k (map (λ o. OnGrid o) ops) ≡ Err (OutOfRange n)
group last k n doc stages [] e rows cols w r = cc r
group last k n doc stages (op ∷ ops) e rows cols w r =
    step (lengths_after (len (seen last) doc.rows.items) (len (seen last) doc.cols.items) op) (one-after last k e doc rows cols op w.0) r
    (λ d ts m a b s. group (suc last) (k + 1) n d ts ops m a b w.1 s)
  where
    next-stage : k + 1 ≡ suc last + 1
    next-stage = omega arith

    step : (lengths : Result (ℕ × ℕ) ℕ) → After last k doc op lengths → elim lengths [ Err m ↦ Some m | Ok l ↦ refusal l.0 l.1 ops ] ≡ Some n
        → ((d : Document) (ts : List Stage) → k + 1 ≡ suc last + 1 → Below (suc (suc last)) d.rows.items → Below (suc (suc last)) d.cols.items
        → refusal (len (seen (suc last)) d.rows.items) (len (seen (suc last)) d.cols.items) ops ≡ Some n
        → local_sub_operations d ts (k + 1) (map (λ o. OnGrid o) ops) ≡ Err (OutOfRange n))
        → local_sub_operations doc stages k (map (λ o. OnGrid o) (op ∷ ops)) ≡ Err (OutOfRange n)
    step (Err m) a s ih = first-refused doc stages k m op ops a ∙ ap (λ i. Err (OutOfRange i)) (some-same s)
    step (Ok l) a s ih =
        taken-first doc a.later stages k op a.names ops a.is
        ∙ ap (behind (stage_of k op a.names ∷ []))
        (ih a.later (stages ++ (stage_of k op a.names ∷ [])) next-stage a.rows a.cols
        (ap (λ i. refusal i (len (seen (suc last)) a.later.cols.items) ops) (sym a.rows_count) ∙ ap (λ i. refusal l.0 i ops) (sym a.cols_count) ∙ s))

pub group-refused : (last k n : ℕ) (g : Grid) (doc : Document) (stages : List Stage) (ops : List CellOp) → k ≡ last + 1
    → last ≤ 18446744073709551615 → IsSound g
    → Holds last g doc stages → IsAboveAll k (grid_state g 0 true) → AllByRecursion IsWellFormedCell ops
    → refusal (len (seen_in last_stage) (units_of g.rows)) (len (seen_in last_stage) (units_of g.cols)) ops ≡ Some n
    → local_sub_operations doc stages k (map (λ op. OnGrid op) ops) ≡ Err (OutOfRange n)
group-refused last k n g doc stages ops e few sound h above w r =
    group last k n doc stages ops e
    (below-units (suc last) (rows-beside (units last g doc stages sound h)) (rows-below last k e few g doc stages sound h above))
    (below-units (suc last) (units last g doc stages sound h).cols (cols-below last k e few g doc stages sound h above)) w
    (ap (λ i. refusal i (len (seen last) doc.cols.items) ops) (rows-count last k e few g doc stages sound h above)
    ∙ ap (λ i. refusal (len (seen_in last_stage) (units_of g.rows)) i ops) (cols-count last k e few g doc stages sound h above) ∙ r)
