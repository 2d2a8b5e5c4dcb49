-- A vector of which compaction takes units out: it stays sound, and the runs taken are of handles of which no unit is left.
use Rattle.std.proofs.Common.{◌≡◌, ℕ, zero, suc, ◌+◌, ◌≤◌, Bool, true, false, cond, not, ◌&&◌, nat_eq, List, [], ◌∷◌, ◌++◌, Option, Some, None, refl, sym, ◌∙◌, ap, subst, map, arith, filter, option_and_then, drop, take}
use Rattle.std.specs.List.{AllByRecursion, list_any}
use Rattle.std.proofs.lemmas.Bool.Decides.{nat_tests}
use Rattle.std.proofs.lemmas.List.Elements.{All-from_recursion, recursion_from_All}
use Rattle.ft_base.specs.declared.elements.Element.{Element as ElementStamps}
use Rattle.ft_base.specs.Scan.{len, one_more_if, rank}
use Rattle.ft_tree_leaves.specs.declared.leaves.TreeLeaf.{TreeLeaf}
use Rattle.ft_tree_leaves.specs.declared.references.Reference.{Reference}
use Rattle.ft_tree_leaves.specs.Elements.{TreeElement, elements_with, universal_stamps, with_stamps}
use Rattle.ft_tree_leaves.specs.LeafLists.{elements}
use Rattle.ft_tree_leaves.specs.References.{ChangesReferences, reference_place}
use Rattle.ft_tree_leaves.proofs.Runs.{len-append}
use Rattle.ft_props.specs.Overlay.{OverlayState}
use Rattle.ft_laws_names.specs.GridFacts.{AreFreeFrom, is_place}
use Rattle.ft_perm.specs.Handles.{HandleRun, handles_of, in_run, numbers_from}
use Rattle.ft_perm.specs.Vectors.{IsProper, VectorState, in_use, times_held}
use Rattle.ft_zamboni.specs.Scours.{AreClear, Writes, ahead, around, collected, is_collectable, left_over, looked_at, marked, marks, staying, swept, unmarked}
use Rattle.ft_zamboni.specs.Scours.{none as writes_none, same as writes_same, universal as writes_universal}
use Rattle.ft_zamboni.proofs.SweptElements.{swept-go, swept-list}
use Rattle.ft_zamboni.proofs.SweptLeaves.{collected-append}
use Rattle.ft_named.proofs.CompactedSteps.{marked-go, marked-list, staying-marked}
use Rattle.ft_matrix.specs.Compacted.{AreGone, ScoursUnits, is_in_runs}
use Rattle.ft_matrix.specs.Sound.{IsSoundVector, IsStaged, no_properties}
use Rattle.ft_matrix.specs.Units.{has_handle, shown_unit, units_of}
use Rattle.ft_matrix.proofs.Freed.{held-some}
use Rattle.ft_matrix.proofs.HeldGrids.{used-handle}
use Rattle.ft_matrix.proofs.SoundVectors.{all-weaker, no-references}
use Rattle.ft_matrix.proofs.Writes.{one-more, some-more}

-- ---- marked units

-- whether a marked unit goes that has the handle
abbrev pub goes_with : ℕ → Bool × TreeElement ℕ → Bool
goes_with h m = m.0 && nat_eq m.1.unit h

abbrev pub second : Bool × TreeElement ℕ → TreeElement ℕ
second m = m.1

module _ (h : ℕ) where
  -- the units with a handle stay or go
  pub parts-add : (ms : List (Bool × TreeElement ℕ)) → len (has_handle h) (map second ms) ≡ len (has_handle h) (staying ms) + len (goes_with h) ms
  parts-add [] = refl
  parts-add ((true, e) ∷ ms) = step (nat_eq e.unit h) (parts-add ms)
    where
      step : (b : Bool) → len (has_handle h) (map second ms) ≡ len (has_handle h) (staying ms) + len (goes_with h) ms
          → one_more_if b (len (has_handle h) (map second ms)) ≡ len (has_handle h) (staying ms) + one_more_if b (len (goes_with h) ms)
      step true g = omega (arith, g)
      step false g = g
  parts-add ((false, e) ∷ ms) = step (nat_eq e.unit h) (parts-add ms)
    where
      step : (b : Bool) → len (has_handle h) (map second ms) ≡ len (has_handle h) (staying ms) + len (goes_with h) ms
          → one_more_if b (len (has_handle h) (map second ms)) ≡ one_more_if b (len (has_handle h) (staying ms)) + len (goes_with h) ms
      step true g = omega (arith, g)
      step false g = g

  written-count : (floor : ℕ) {ys xs : List (TreeElement ℕ)} → Writes floor ys xs → len (has_handle h) ys ≡ len (has_handle h) xs
  written-count floor writes_none = refl
  written-count floor (writes_same {e = e} w) = ap (one_more_if (nat_eq e.unit h)) (written-count floor w)
  written-count floor (writes_universal {e = e} l w) = ap (one_more_if (nat_eq e.unit h)) (written-count floor w)

module _ (P : TreeElement ℕ → Type 0) (stays : (e : TreeElement ℕ) → P e → P (with_stamps universal_stamps e)) (floor : ℕ) where
  all-staying : (ms : List (Bool × TreeElement ℕ)) → AllByRecursion P (map second ms) → AllByRecursion P (staying ms)
  all-staying [] a = tt
  all-staying ((true, e) ∷ ms) a = all-staying ms a.1
  all-staying ((false, e) ∷ ms) a = (a.0, all-staying ms a.1)

  all-written : {ys xs : List (TreeElement ℕ)} → Writes floor ys xs → AllByRecursion P xs → AllByRecursion P ys
  all-written writes_none a = a
  all-written (writes_same w) a = (a.0, all-written w a.1)
  all-written (writes_universal {e = e} l w) a = (stays e a.0, all-written w a.1)

  pub all-left : (ms : List (Bool × TreeElement ℕ)) (es ys : List (TreeElement ℕ)) → map second ms ≡ es → Writes floor ys (staying ms)
      → AllByRecursion P es → AllByRecursion P ys
  all-left ms es ys e w a = all-written w (all-staying ms (subst (AllByRecursion P) (sym e) a))

-- each unit of a list stands there
pub same-number : (n : ℕ) → nat_eq n n ≡ true
same-number n = grind (arith, nat_tests)

each-there : (es : List (TreeElement ℕ)) → AllByRecursion (λ e. 1 ≤ len (has_handle e.unit) es) es
each-there [] = tt
each-there (e ∷ es) = (
  one-more (nat_eq e.unit e.unit) (len (has_handle e.unit) es) (same-number e.unit),
  all-weaker (λ d. 1 ≤ len (has_handle d.unit) es) (λ d. 1 ≤ len (has_handle d.unit) (e ∷ es))
      (λ d l. some-more (nat_eq e.unit d.unit) (len (has_handle d.unit) es) l) es (each-there es),
)

none-in-runs : (h : ℕ) (runs : List HandleRun) → times_held h runs ≡ 0 → is_in_runs runs h ≡ false
none-in-runs h runs e = step (is_in_runs runs h) refl
  where
    step : (b : Bool) → is_in_runs runs h ≡ b → b ≡ false
    step false g = refl
    step true g = let l = held-some h runs g in absurd (omega (arith, l, e))

one-left : (a m n t : ℕ) → a ≤ 1 → a ≡ m + n → 1 ≤ m → t ≡ n → t ≡ 0
one-left a m n t l e s g = omega (arith, l, e, s, g)

at-most-one : (a m n t : ℕ) → a ≤ 1 → a ≡ m + n → t ≡ n → t ≤ 1
at-most-one a m n t l e g = omega (arith, l, e, g)

some-there : (a m n t : ℕ) → a ≡ m + n → t ≡ n → 1 ≤ t → 1 ≤ a
some-there a m n t e g l = omega (arith, e, g, l)

-- ---- the vector

module _ (floor : ℕ) (runs : List HandleRun) (old new : VectorState) (s : ScoursUnits floor runs old new) (p : IsProper old) where
  counts : (h : ℕ) → len (has_handle h) (units_of old) ≡ len (has_handle h) (units_of new) + len (goes_with h) s.marked
  counts h = ap (len (has_handle h)) (sym s.all) ∙ parts-add h s.marked ∙ ap (λ n. n + len (goes_with h) s.marked) (sym (written-count h floor s.written))

  -- a handle of a run taken stood in the vector
  pub taken-stood : (h : ℕ) → is_in_runs runs h ≡ true → 1 ≤ len (has_handle h) (units_of old)
  taken-stood h e = some-there (len (has_handle h) (units_of old)) (len (has_handle h) (units_of new)) (len (goes_with h) s.marked) (times_held h runs)
      (counts h) (s.taken h) (held-some h runs e)

  pub taken-goes : (h : ℕ) → is_in_runs runs h ≡ true → 1 ≤ len (goes_with h) s.marked
  taken-goes h e = subst (λ n. 1 ≤ n) (s.taken h) (held-some h runs e)

  pub left-proper : IsProper new
  left-proper = record {
    used = All-from_recursion (λ (e : TreeElement ℕ). in_use new e.unit ≡ true) (units_of new)
        (all-left (λ e. in_use new e.unit ≡ true) (λ e g. g) floor s.marked (units_of old) (units_of new) s.all s.written
        (all-weaker (λ (e : TreeElement ℕ). in_use old e.unit ≡ true) (λ (e : TreeElement ℕ). in_use new e.unit ≡ true) (λ e g. s.used e.unit ∙ g) (units_of old)
        (recursion_from_All (λ (e : TreeElement ℕ). in_use old e.unit ≡ true) (units_of old) p.used)));
    once = λ h. fewer (len (has_handle h) (units_of old)) (len (has_handle h) (units_of new)) (len (goes_with h) s.marked) (p.once h) (counts h);
  }
    where
      fewer : (a m n : ℕ) → a ≤ 1 → a ≡ m + n → m ≤ 1
      fewer a m n l e = omega (arith, l, e)

  pub are-gone : AreGone runs new
  are-gone = record {
    used = λ h e. s.used h ∙ used-handle (in_use old) h (units_of old) (recursion_from_All (λ (d : TreeElement ℕ). in_use old d.unit ≡ true) (units_of old) p.used) (taken-stood h e);
    once = λ h. at-most-one (len (has_handle h) (units_of old)) (len (has_handle h) (units_of new)) (len (goes_with h) s.marked)
        (times_held h runs) (p.once h) (counts h) (s.taken h);
    gone = All-from_recursion (λ (e : TreeElement ℕ). is_in_runs runs e.unit ≡ false) (units_of new)
        (all-weaker (λ (e : TreeElement ℕ). 1 ≤ len (has_handle e.unit) (units_of new)) (λ (e : TreeElement ℕ). is_in_runs runs e.unit ≡ false) (λ e l.
        none-in-runs e.unit runs (one-left (len (has_handle e.unit) (units_of old)) (len (has_handle e.unit) (units_of new)) (len (goes_with e.unit) s.marked)
        (times_held e.unit runs) (p.once e.unit) (counts e.unit) l (s.taken e.unit))) (units_of new) (each-there (units_of new)));
    proper = left-proper;
  }

pub left-sound : (floor : ℕ) (runs : List HandleRun) (old new : VectorState) (f : Reference → Reference) → ScoursUnits floor runs old new → IsSoundVector old
    → new ≡ record old { tree = new.tree } → new.tree.usable ≡ true → ChangesReferences f old.tree.refs new.tree.refs
    → new.tree.made ≡ old.tree.made → IsSoundVector new
left-sound floor runs old new f s sound same usable refs made = record {
  usable = usable;
  refs = no-references f old.tree.refs new.tree.refs sound.refs refs;
  proper = left-proper floor runs old new s sound.proper;
  fresh = fresh (ap (λ (v : VectorState). v.next) same);
  plain = All-from_recursion (λ (e : TreeElement ℕ). e.overlay ≡ no_properties) (units_of new)
      (all-left (λ (e : TreeElement ℕ). e.overlay ≡ no_properties) (λ e g. g) floor s.marked (units_of old) (units_of new) s.all s.written
      (recursion_from_All (λ (e : TreeElement ℕ). e.overlay ≡ no_properties) (units_of old) sound.plain));
  staged = All-from_recursion IsStaged (units_of new)
      (all-left IsStaged (λ e g. refl) floor s.marked (units_of old) (units_of new) s.all s.written (recursion_from_All IsStaged (units_of old) sound.staged));
}
  where
    fresh : new.next ≡ old.next → new.next ≤ new.tree.made
    fresh e = let g = sound.fresh in omega (arith, e, g, made)

-- no reference stands anywhere
pub none-clear : (floor : ℕ) (v : VectorState) → IsSoundVector v → AreClear floor (units_of v) v.tree.refs
none-clear floor v s r i e = absurd (none (reference_place v.tree.refs r) (ap (λ o. option_and_then (λ (x : Reference). x.place) o) (s.refs r)) e)
  where
    none : (o : Option ℕ) → o ≡ None → o ≡ Some i → ⊥
    none o g h = let never : None ≡ Some i = sym g ∙ h in cc never

-- ---- the runs of a sweep have the handles of the units that go

-- how often a handle stands in a run
run-count : (h : ℕ) (stamps : ElementStamps) (overlay : OverlayState) (first count : ℕ)
    → len (has_handle h) (elements_with stamps None overlay (numbers_from first count)) ≡ one_more_if (in_run h (record { first = first; count = count })) 0
run-count h stamps overlay first zero = ap (λ b. one_more_if b 0) (sym (no-run h first))
  where
    no-run : (h first : ℕ) → in_run h (record { first = first; count = 0 }) ≡ false
    no-run h first = grind (arith, nat_tests)
run-count h stamps overlay first (suc count) = step (nat_eq first h) refl (run-count h stamps overlay (first + 1) count)
  where
    here : nat_eq first h ≡ true → in_run h (record { first = first; count = suc count }) ≡ true
    here e = grind (arith, nat_tests)

    not-later : nat_eq first h ≡ true → in_run h (record { first = first + 1; count = count }) ≡ false
    not-later e = grind (arith, nat_tests)

    same-later : nat_eq first h ≡ false → in_run h (record { first = first + 1; count = count }) ≡ in_run h (record { first = first; count = suc count })
    same-later e = grind (arith, nat_tests)

    step : (b : Bool) → nat_eq first h ≡ b
        → len (has_handle h) (elements_with stamps None overlay (numbers_from (first + 1) count))
        ≡ one_more_if (in_run h (record { first = first + 1; count = count })) 0
        → one_more_if b (len (has_handle h) (elements_with stamps None overlay (numbers_from (first + 1) count)))
        ≡ one_more_if (in_run h (record { first = first; count = suc count })) 0
    step true e g = ap (one_more_if true) (g ∙ ap (λ c. one_more_if c 0) (not-later e)) ∙ ap (λ c. one_more_if c 0) (sym (here e))
    step false e g = g ∙ ap (λ c. one_more_if c 0) (same-later e)

-- the leaves of a list of units
abbrev pub leaf_units : List (ℕ × TreeLeaf HandleRun) → List (TreeElement ℕ)
leaf_units xs = elements handles_of (λ x. None) xs

none-marked : (h : ℕ) (es : List (TreeElement ℕ)) → len (goes_with h) (map unmarked es) ≡ 0
none-marked h [] = refl
none-marked h (e ∷ es) = none-marked h es

module _ (h floor : ℕ) where
  -- all units of a leaf go, or none
  leaf-count : (stamps : ElementStamps) (overlay : OverlayState) (us : List ℕ)
      → len (goes_with h) (map (marked floor) (elements_with stamps None overlay us))
      ≡ cond (is_collectable floor stamps) (len (has_handle h) (elements_with stamps None overlay us)) 0
  leaf-count stamps overlay us = step (is_collectable floor stamps) refl
    where
      all-go : is_collectable floor stamps ≡ true → (us : List ℕ)
          → len (goes_with h) (map (marked floor) (elements_with stamps None overlay us))
          ≡ len (has_handle h) (elements_with stamps None overlay us)
      all-go e [] = refl
      all-go e (u ∷ us) = ap (λ b. one_more_if (b && nat_eq u h) (len (goes_with h) (map (marked floor) (elements_with stamps None overlay us)))) e
          ∙ ap (one_more_if (nat_eq u h)) (all-go e us)

      none-go : is_collectable floor stamps ≡ false → (us : List ℕ) → len (goes_with h) (map (marked floor) (elements_with stamps None overlay us)) ≡ 0
      none-go e [] = refl
      none-go e (u ∷ us) = ap (λ b. one_more_if (b && nat_eq u h) (len (goes_with h) (map (marked floor) (elements_with stamps None overlay us)))) e ∙ none-go e us

      step : (b : Bool) → is_collectable floor stamps ≡ b
          → len (goes_with h) (map (marked floor) (elements_with stamps None overlay us)) ≡ cond b (len (has_handle h) (elements_with stamps None overlay us)) 0
      step true e = all-go e us
      step false e = none-go e us

  -- so the contents of leaves that go hold just the handles of units that go
  pub collected-count : (xs : List (ℕ × TreeLeaf HandleRun)) → times_held h (collected floor xs) ≡ len (goes_with h) (map (marked floor) (leaf_units xs))
  collected-count [] = refl
  collected-count (x ∷ xs) =
      head (is_collectable floor x.1.stamps) (collected-count xs)
      ∙ ap (λ n. n + len (goes_with h) (map (marked floor) (leaf_units xs))) (sym here)
      ∙ sym (len-append (goes_with h) (map (marked floor) leaf) (map (marked floor) (leaf_units xs)))
      ∙ ap (len (goes_with h)) (sym (map-parts (marked floor) leaf (leaf_units xs)))
    where
      leaf : List (TreeElement ℕ)
      leaf = elements_with x.1.stamps None x.1.overlay (handles_of x.1.content)

      here : len (goes_with h) (map (marked floor) leaf) ≡ cond (is_collectable floor x.1.stamps) (one_more_if (in_run h x.1.content) 0) 0
      here = leaf-count x.1.stamps x.1.overlay (handles_of x.1.content)
          ∙ ap (λ n. cond (is_collectable floor x.1.stamps) n 0) (run-count h x.1.stamps x.1.overlay x.1.content.first x.1.content.count)

      map-parts : {A B : Type 0} (f : A → B) (ys zs : List A) → map f (ys ++ zs) ≡ map f ys ++ map f zs
      map-parts f [] zs = refl
      map-parts f (y ∷ ys) zs = ap (λ us. f y ∷ us) (map-parts f ys zs)

      plus : (b : Bool) (m n : ℕ) → m ≡ n → one_more_if b m ≡ one_more_if b 0 + n
      plus true m n e = omega (arith, e)
      plus false m n e = omega (arith, e)

      head : (b : Bool) → times_held h (collected floor xs) ≡ len (goes_with h) (map (marked floor) (leaf_units xs))
          → times_held h (map (λ y. y.1.content) (cond b (x ∷ filter (λ y. is_collectable floor y.1.stamps) xs) (filter (λ y. is_collectable floor y.1.stamps) xs)))
          ≡ cond b (one_more_if (in_run h x.1.content) 0) 0 + len (goes_with h) (map (marked floor) (leaf_units xs))
      head true e = plus (in_run h x.1.content) (times_held h (collected floor xs)) (len (goes_with h) (map (marked floor) (leaf_units xs))) e
      head false e = plus false (times_held h (collected floor xs)) (len (goes_with h) (map (marked floor) (leaf_units xs))) e

  marks-count : (n : ℕ) (xs : List (ℕ × TreeLeaf HandleRun))
      → len (goes_with h) (marks handles_of (λ x. None) floor n xs) ≡ times_held h (collected floor (take n xs))
  marks-count n xs =
      let front = map (marked floor) (leaf_units (take n xs)) in
      let rear = map unmarked (leaf_units (drop n xs)) in
      len-append (goes_with h) front rear ∙ ap (λ m. len (goes_with h) front + m) (none-marked h (leaf_units (drop n xs)))
      ∙ plus-none (len (goes_with h) front) ∙ sym (collected-count (take n xs))
    where
      plus-none : (m : ℕ) → m + 0 ≡ m
      plus-none m = omega arith

  -- whatever order the leaves are looked at
  pub swept-count : (budget : ℕ) (xs : List (ℕ × TreeLeaf HandleRun)) (sweep : Option ℕ)
      → times_held h (collected floor (looked_at budget xs sweep)) ≡ len (goes_with h) (swept handles_of (λ x. None) floor budget xs sweep)
  swept-count budget xs sweep =
      let n = left_over budget xs sweep in
      let first = collected floor (take budget (ahead xs sweep)) in
      let then = collected floor (take n (around xs sweep)) in
      ap (times_held h) (collected-append floor (take budget (ahead xs sweep)) (take n (around xs sweep)))
      ∙ len-append (in_run h) first then
      ∙ turned (times_held h first) (times_held h then)
      ∙ ap (λ m. m + times_held h first) (sym (marks-count n (around xs sweep)))
      ∙ ap (λ m. len (goes_with h) (marks handles_of (λ x. None) floor n (around xs sweep)) + m) (sym (marks-count budget (ahead xs sweep)))
      ∙ sym (len-append (goes_with h) (marks handles_of (λ x. None) floor n (around xs sweep)) (marks handles_of (λ x. None) floor budget (ahead xs sweep)))
    where
      turned : (m n : ℕ) → m + n ≡ n + m
      turned m n = omega arith

-- ---- no stage names a handle that goes

module _ (h floor : ℕ) (named : List (Option ℕ)) where
  pub place-free : (i : ℕ) (ms : List (Bool × TreeElement ℕ)) → AllByRecursion (λ m. m.0 ≡ true → is_collectable floor m.1.stamps ≡ true) ms
      → len (has_handle h) (map second ms) ≤ 1 → 1 ≤ len (goes_with h) ms → AreFreeFrom floor named i (map shown_unit (map second ms))
      → list_any (is_place (i + rank (has_handle h) (λ _. true) (map second ms))) named ≡ false
  place-free i [] may once l free = absurd (omega (arith, l))
  place-free i ((b, e) ∷ ms) may once l free =
      step b (nat_eq e.unit h) once l may.0 (λ g. (free.0 g).name) (λ o m. place-free (i + 1) ms may.1 o m free.1)
    where
      -- the units behind it
      behind : ℕ
      behind = len (has_handle h) (map second ms)

      fewer : len (goes_with h) ms ≤ behind
      fewer = let p = parts-add h ms in omega (arith, p)

      at-first : i + 0 ≡ i
      at-first = omega arith

      at-next : (r : ℕ) → i + suc r ≡ i + 1 + r
      at-next r = omega arith

      step : (b c : Bool) → one_more_if c behind ≤ 1 → 1 ≤ one_more_if (b && c) (len (goes_with h) ms) → (b ≡ true → is_collectable floor e.stamps ≡ true)
          → (is_collectable floor e.stamps ≡ true → list_any (is_place i) named ≡ false)
          → (behind ≤ 1 → 1 ≤ len (goes_with h) ms → list_any (is_place (i + 1 + rank (has_handle h) (λ _. true) (map second ms))) named ≡ false)
          → list_any (is_place (i + cond c 0 (suc (rank (has_handle h) (λ _. true) (map second ms))))) named ≡ false
      step true true o m k f ih = ap (λ n. list_any (is_place n) named) at-first ∙ f (k refl)
      step false true o m k f ih = absurd (omega (arith, o, m, fewer))
      step true false o m k f ih = ap (λ n. list_any (is_place n) named) (at-next (rank (has_handle h) (λ _. true) (map second ms))) ∙ ih o m
      step false false o m k f ih = ap (λ n. list_any (is_place n) named) (at-next (rank (has_handle h) (λ _. true) (map second ms))) ∙ ih o m

-- ---- what the calls of compaction make of a vector

module _ (floor : ℕ) (given runs : List HandleRun) (none : given ≡ []) (old new : VectorState)
    (same : new ≡ record old { tree = new.tree }) (raised : new.tree.floor ≡ floor) where
  same-use : (h : ℕ) → in_use new h ≡ in_use old h
  same-use h = ap (λ v. in_use v h) same

  -- where all leaves were looked at
  pub scoured-all : Writes floor (units_of new) (filter (λ e. not (is_collectable floor e.stamps)) (units_of old))
      → runs ≡ given ++ collected floor old.tree.leaves
      → ScoursUnits floor runs old new
  scoured-all w t = record {
    marked = map (marked floor) (units_of old);
    all = marked-list floor (units_of old);
    may = marked-go floor (units_of old);
    written = subst (Writes floor (units_of new)) (sym (staying-marked floor (units_of old))) w;
    taken = λ h. ap (times_held h) (t ∙ ap (λ rs. rs ++ collected floor old.tree.leaves) none) ∙ collected-count h floor old.tree.leaves;
    used = same-use;
    floor = raised;
  }

  -- where some were
  pub scoured-part : (budget : ℕ) → Writes floor (units_of new) (staying (swept handles_of (λ x. None) floor budget old.tree.leaves old.tree.sweep))
      → runs ≡ given ++ collected floor (looked_at budget old.tree.leaves old.tree.sweep) → ScoursUnits floor runs old new
  scoured-part budget w t = record {
    marked = swept handles_of (λ x. None) floor budget old.tree.leaves old.tree.sweep;
    all = swept-list handles_of (λ x. None) floor budget old.tree.leaves old.tree.sweep;
    may = swept-go handles_of (λ x. None) floor budget old.tree.leaves old.tree.sweep;
    written = w;
    taken = λ h. ap (times_held h) (t ∙ ap (λ rs. rs ++ collected floor (looked_at budget old.tree.leaves old.tree.sweep)) none)
        ∙ swept-count h floor budget old.tree.leaves old.tree.sweep;
    used = same-use;
    floor = raised;
  }
