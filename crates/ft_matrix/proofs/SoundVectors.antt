-- A vector stays sound where units are put in and where they are changed.
use Rattle.std.proofs.Common.{◌≡◌, ℕ, zero, suc, ◌+◌, ◌≤◌, ◌<◌, All, IfOk, IsTrue, OnOk, Result, Ok, Err, Bool, true, false, cond, ◌&&◌, ◌||◌, nat_eq, List, [], ◌∷◌, ◌++◌, Option, Some, None, refl, sym, ◌∙◌, ap, subst, map, length, arith}
use Rattle.std.specs.List.{AllByRecursion}
use Rattle.std.specs.Option.{option_map}
use Rattle.std.proofs.lemmas.Bool.{or_left, or_right}
use Rattle.std.proofs.lemmas.Bool.Decides.{nat_tests}
use Rattle.std.proofs.lemmas.List.Elements.{All-from_recursion, recursion_from_All}
use Rattle.ft_base.specs.declared.stamps.Stamp.{Stamp}
use Rattle.ft_base.specs.declared.elements.Element.{Element as ElementStamps}
use Rattle.ft_base.specs.declared.stamps.Stamp.TheVariants.{Acked, Local}
use Rattle.ft_base.specs.Visibility.{is_of_stage}
use Rattle.ft_base.specs.Scan.{change_range_from, len, one_more_if, put, put_past, within}
use Rattle.ft_block.specs.declared.leaves.LenView.{LenView}
use Rattle.ft_props.specs.Properties.{PropertySet, apply, max_safe_integer}
use Rattle.ft_tree_leaves.specs.declared.references.Reference.{Reference}
use Rattle.ft_props.specs.Overlay.{after_ack}
use Rattle.ft_props.specs.Steps.{acked_stamp}
use Rattle.ft_tree_leaves.specs.Elements.{IsLowestChange, TreeElement, acked_element, new_elements, removed_stamps, seen_in, with_stamps}
use Rattle.ft_tree_leaves.specs.References.{ChangesReferences, KeepsReferences, reference_at}
use Rattle.ft_tree.specs.State.{KeepsRest, TreeState}
use Rattle.ft_perm.specs.Handles.{HandleRun, handles_of, in_run, numbers_from}
use Rattle.ft_perm.specs.HandleLaws.{length-numbers_from}
use Rattle.ft_perm.specs.Vectors.{VectorState, in_use, vector_elements}
use Rattle.ft_laws_agreement.proofs.AgreedStage.{len-put-add}
use Rattle.ft_laws_agreement.proofs.RangesOfLists.{len-range}
use Rattle.ft_laws_agreement.proofs.SlidEnds.{true-false}
use Rattle.ft_laws_names.proofs.AckedLists.{len-map}
use Rattle.ft_named.proofs.PutTwice.{put-nothing}
use Rattle.ft_matrix.specs.Sound.{IsSoundVector, IsStaged, no_properties}
use Rattle.ft_matrix.specs.Splices.{AcksUnits, MarksUnits, PutsUnits, TakesRun}
use Rattle.ft_matrix.specs.Units.{units_of}

-- ---- what holds of each element

module _ {A : Type 0} (P : A → Type 0) where
  pub all-append : (xs ys : List A) → AllByRecursion P xs → AllByRecursion P ys → AllByRecursion P (xs ++ ys)
  all-append [] ys a b = b
  all-append (x ∷ xs) ys a b = (a.0, all-append xs ys a.1 b)

  module _ (past : A → Bool) (new : List A) (all : AllByRecursion P new) where
    all-past : (xs : List A) → AllByRecursion P xs → AllByRecursion P (put_past past new xs)
    all-past [] a = all
    all-past (x ∷ xs) a = step (past x) (all-past xs a.1)
      where
        step : (b : Bool) → AllByRecursion P (put_past past new xs) → AllByRecursion P (cond b (x ∷ put_past past new xs) (new ++ (x ∷ xs)))
        step true rest = (a.0, rest)
        step false rest = all-append new (x ∷ xs) all a

    pub all-put : (seen : A → Bool) (p : ℕ) (xs : List A) → AllByRecursion P xs → AllByRecursion P (put seen past p new xs)
    all-put seen zero xs a = all-past xs a
    all-put seen (suc p) [] a = all
    all-put seen (suc p) (x ∷ xs) a = (a.0, all-put seen (cond (seen x) p (suc p)) xs a.1)

  pub all-range : (seen : A → Bool) (f : A → A) → ((x : A) → P x → P (f x)) → (i p q : ℕ) (xs : List A) → AllByRecursion P xs
      → AllByRecursion P (change_range_from i seen p q f xs)
  all-range seen f h i p q [] a = a
  all-range seen f h i p q (x ∷ xs) a = (step (seen x && within p q i), all-range seen f h (one_more_if (seen x) i) p q xs a.1)
    where
      step : (b : Bool) → P (cond b (f x) x)
      step true = h x a.0
      step false = a.0

pub all-weaker : {A : Type 0} (P Q : A → Type 0) → ((x : A) → P x → Q x) → (xs : List A) → AllByRecursion P xs → AllByRecursion Q xs
all-weaker P Q f [] a = a
all-weaker P Q f (x ∷ xs) a = (f x a.0, all-weaker P Q f xs a.1)

-- ---- new units

-- the handles of new units are those of the run
pub below-run : (first count : ℕ) → in_run first (record { first = first; count = suc count }) ≡ true
below-run first count = grind (arith, nat_tests)

pub later-run : (h first count : ℕ) → in_run h (record { first = first + 1; count = count }) ≡ true
    → in_run h (record { first = first; count = suc count }) ≡ true
later-run h first count g = grind (arith, nat_tests)

pub new-handles : (P : ℕ → Type 0) (ins : Stamp) (first count : ℕ) → ((h : ℕ) → in_run h (record { first = first; count = count }) ≡ true → P h)
    → AllByRecursion (λ e. P e.unit) (new_elements ins None [] (numbers_from first count))
new-handles P ins first zero f = tt
new-handles P ins first (suc count) f = (f first (below-run first count), new-handles P ins (first + 1) count (λ h g. f h (later-run h first count g)))

pub new-plain : (ins : Stamp) (first count : ℕ) → AllByRecursion (λ e. e.overlay ≡ no_properties) (new_elements ins None [] (numbers_from first count))
new-plain ins first zero = tt
new-plain ins first (suc count) = (refl, new-plain ins (first + 1) count)

pub new-staged : (ins : Stamp) → is_of_stage 0 ins ≡ false → (first count : ℕ) → AllByRecursion IsStaged (new_elements ins None [] (numbers_from first count))
new-staged ins h first zero = tt
new-staged ins h first (suc count) = (h, new-staged ins h (first + 1) count)

none-later : (h first m : ℕ) → h < first → nat_eq first h ≡ false
none-later h first m l = grind (arith, nat_tests)

-- each handle stands once among them
new-none : (h : ℕ) (ins : Stamp) (first count : ℕ) → h < first → len (λ e. nat_eq e.unit h) (new_elements ins None [] (numbers_from first count)) ≡ 0
new-none h ins first zero l = refl
new-none h ins first (suc count) l =
    ap (λ b. one_more_if b (len (λ (e : TreeElement ℕ). nat_eq e.unit h) (new_elements ins None [] (numbers_from (first + 1) count)))) (none-later h first 0 l)
    ∙ new-none h ins (first + 1) count (omega arith)

pub new-once : (h : ℕ) (ins : Stamp) (first count : ℕ) → len (λ e. nat_eq e.unit h) (new_elements ins None [] (numbers_from first count)) ≤ 1
new-once h ins first zero = omega arith
new-once h ins first (suc count) = step (nat_eq first h) refl (new-once h ins (first + 1) count)
  where
    rest : ℕ
    rest = len (λ (e : TreeElement ℕ). nat_eq e.unit h) (new_elements ins None [] (numbers_from (first + 1) count))

    above : nat_eq first h ≡ true → h < first + 1
    above e = grind (arith, nat_tests)

    step : (b : Bool) → nat_eq first h ≡ b → rest ≤ 1 → one_more_if b rest ≤ 1
    step true e l = subst (λ n. suc n ≤ 1) (sym (new-none h ins (first + 1) count (above e))) (omega arith)
    step false e l = l

pub none-stands : (used : ℕ → Bool) (h : ℕ) (es : List (TreeElement ℕ)) → AllByRecursion (λ e. used e.unit ≡ true) es → used h ≡ false
    → len (λ e. nat_eq e.unit h) es ≡ 0
none-stands used h [] a n = refl
none-stands used h (e ∷ es) a n = step (nat_eq e.unit h) refl (none-stands used h es a.1 n)
  where
    step : (b : Bool) → nat_eq e.unit h ≡ b → len (λ (d : TreeElement ℕ). nat_eq d.unit h) es ≡ 0
        → one_more_if b (len (λ (d : TreeElement ℕ). nat_eq d.unit h) es) ≡ 0
    step true g rest = let same : e.unit ≡ h = grind (arith, nat_tests) in absurd (true-false (sym a.0 ∙ ap used same ∙ n))
    step false g rest = rest

sum-first : (m n : ℕ) → m ≡ 0 → n ≤ 1 → m + n ≤ 1
sum-first m n e l = omega arith

sum-second : (m n : ℕ) → m ≤ 1 → n ≡ 0 → m + n ≤ 1
sum-second m n l e = omega arith

-- the references stay none
pub no-references : (f : Reference → Reference) (old new : List (ℕ × Reference)) → ((r : ℕ) → reference_at old r ≡ None) → ChangesReferences f old new
    → (r : ℕ) → reference_at new r ≡ None
no-references f old new n c r = c r ∙ ap (option_map f) (n r)

module _ (old between new : VectorState) (s : IsSoundVector old) (run : HandleRun) (tree : between.tree ≡ old.tree)
    (unused : (h : ℕ) → in_run h run ≡ true → in_use old h ≡ false) (used : (h : ℕ) → in_use between h ≡ (in_use old h || in_run h run))
    (rises : between.next ≤ old.next + run.count) (same : new ≡ record between { tree = new.tree }) where
  in-use-same : (h : ℕ) → in_use new h ≡ (in_use old h || in_run h run)
  in-use-same h = ap (λ v. in_use v h) same ∙ used h

  -- a vector in which units are put
  pub put-sound : (ins : Stamp) → is_of_stage 0 ins ≡ false → (seen past : TreeElement ℕ → Bool) (p : ℕ) → IsTrue new.tree.usable
      → ((r : ℕ) → reference_at new.tree.refs r ≡ None)
      → new.tree.made ≡ old.tree.made + run.count
      → units_of new ≡ put seen past p (new_elements ins None [] (handles_of run)) (units_of old) → IsSoundVector new
  put-sound ins later seen past p usable refs made units = record {
    usable = usable;
    refs = refs;
    proper = record { used = All-from_recursion (λ (e : TreeElement ℕ). in_use new e.unit ≡ true) (units_of new) proper; once = once };
    fresh = fresh (ap (λ (v : VectorState). v.next) same);
    plain = All-from_recursion (λ (e : TreeElement ℕ). e.overlay ≡ no_properties) (units_of new)
        (subst (AllByRecursion (λ (e : TreeElement ℕ). e.overlay ≡ no_properties)) (sym units)
        (all-put (λ (e : TreeElement ℕ). e.overlay ≡ no_properties) past (new_elements ins None [] (handles_of run)) (new-plain ins run.first run.count) seen p (units_of old)
        (recursion_from_All (λ (e : TreeElement ℕ). e.overlay ≡ no_properties) (units_of old) s.plain)));
    staged = All-from_recursion IsStaged (units_of new) (subst (AllByRecursion IsStaged) (sym units)
        (all-put IsStaged past (new_elements ins None [] (handles_of run)) (new-staged ins later run.first run.count) seen p (units_of old)
        (recursion_from_All IsStaged (units_of old) s.staged)));
  }
    where
      fresh : new.next ≡ between.next → new.next ≤ new.tree.made
      fresh e = let f = s.fresh in omega arith

      proper : AllByRecursion (λ (e : TreeElement ℕ). in_use new e.unit ≡ true) (units_of new)
      proper = subst (AllByRecursion (λ (e : TreeElement ℕ). in_use new e.unit ≡ true)) (sym units)
          (all-put (λ (e : TreeElement ℕ). in_use new e.unit ≡ true) past (new_elements ins None [] (handles_of run))
          (new-handles (λ h. in_use new h ≡ true) ins run.first run.count (λ h g. in-use-same h ∙ or_right (in_use old h) (in_run h run) g)) seen p (units_of old)
          (all-weaker (λ (e : TreeElement ℕ). in_use old e.unit ≡ true) (λ (e : TreeElement ℕ). in_use new e.unit ≡ true)
          (λ e g. in-use-same e.unit ∙ or_left (in_use old e.unit) (in_run e.unit run) g) (units_of old)
          (recursion_from_All (λ (e : TreeElement ℕ). in_use old e.unit ≡ true) (units_of old) s.proper.used)))

      count : (h : ℕ) → len (λ (e : TreeElement ℕ). nat_eq e.unit h) (new_elements ins None [] (handles_of run))
          + len (λ (e : TreeElement ℕ). nat_eq e.unit h) (units_of old) ≤ 1
      count h = step (in_use old h) refl
        where
          apart : (b : Bool) → in_run h run ≡ b → in_use old h ≡ true → b ≡ false
          apart false e g = refl
          apart true e g = absurd (true-false (sym g ∙ unused h e))

          none-new : in_run h run ≡ false → len (λ (e : TreeElement ℕ). nat_eq e.unit h) (new_elements ins None [] (handles_of run)) ≡ 0
          none-new e = none-stands (λ g. in_run g run) h (new_elements ins None [] (handles_of run)) (new-handles (λ g. in_run g run ≡ true) ins run.first run.count (λ g l. l)) e

          step : (b : Bool) → in_use old h ≡ b
              → len (λ (e : TreeElement ℕ). nat_eq e.unit h) (new_elements ins None [] (handles_of run))
              + len (λ (e : TreeElement ℕ). nat_eq e.unit h) (units_of old) ≤ 1
          step true e = sum-first _ _ (none-new (apart (in_run h run) refl e)) (s.proper.once h)
          step false e = sum-second _ _ (new-once h ins run.first run.count)
              (none-stands (in_use old) h (units_of old) (recursion_from_All (λ (d : TreeElement ℕ). in_use old d.unit ≡ true) (units_of old) s.proper.used) e)

      once : (h : ℕ) → len (λ (e : TreeElement ℕ). nat_eq e.unit h) (units_of new) ≤ 1
      once h = subst (λ es. len (λ (e : TreeElement ℕ). nat_eq e.unit h) es ≤ 1) (sym units)
          (subst (λ n. n ≤ 1) (sym (len-put-add (λ (e : TreeElement ℕ). nat_eq e.unit h) seen past p (new_elements ins None [] (handles_of run)) (units_of old))) (count h))

-- a vector of which some units get other stamps
pub range-sound : (old new : VectorState) → IsSoundVector old → new ≡ record old { tree = new.tree }
    → (seen : TreeElement ℕ → Bool) (f : ElementStamps → ElementStamps) (p q : ℕ)
    → IsTrue new.tree.usable → ((r : ℕ) → reference_at new.tree.refs r ≡ None) → new.tree.made ≡ old.tree.made
    → units_of new ≡ change_range_from 0 seen p q (with_stamps f) (units_of old)
    → ((e : TreeElement ℕ) → IsStaged e → IsStaged (with_stamps f e)) → IsSoundVector new
range-sound old new s same seen f p q usable refs made units later = record {
  usable = usable;
  refs = refs;
  proper = record {
    used = All-from_recursion (λ (e : TreeElement ℕ). in_use new e.unit ≡ true) (units_of new)
        (subst (AllByRecursion (λ (e : TreeElement ℕ). in_use new e.unit ≡ true)) (sym units)
        (all-range (λ (e : TreeElement ℕ). in_use new e.unit ≡ true) seen (with_stamps f) (λ e g. g) 0 p q (units_of old)
        (all-weaker (λ (e : TreeElement ℕ). in_use old e.unit ≡ true) (λ (e : TreeElement ℕ). in_use new e.unit ≡ true)
        (λ e g. ap (λ v. in_use v e.unit) same ∙ g) (units_of old)
        (recursion_from_All (λ (e : TreeElement ℕ). in_use old e.unit ≡ true) (units_of old) s.proper.used))));
    once = λ h. subst (λ es. len (λ (e : TreeElement ℕ). nat_eq e.unit h) es ≤ 1) (sym units)
        (subst (λ n. n ≤ 1) (sym (len-range (λ (e : TreeElement ℕ). nat_eq e.unit h) seen (with_stamps f) (λ e. refl) p q 0 (units_of old))) (s.proper.once h));
  };
  fresh = fresh (ap (λ (v : VectorState). v.next) same);
  plain = All-from_recursion (λ (e : TreeElement ℕ). e.overlay ≡ no_properties) (units_of new)
      (subst (AllByRecursion (λ (e : TreeElement ℕ). e.overlay ≡ no_properties)) (sym units)
      (all-range (λ (e : TreeElement ℕ). e.overlay ≡ no_properties) seen (with_stamps f) (λ e g. g) 0 p q (units_of old)
      (recursion_from_All (λ (e : TreeElement ℕ). e.overlay ≡ no_properties) (units_of old) s.plain)));
  staged = All-from_recursion IsStaged (units_of new) (subst (AllByRecursion IsStaged) (sym units)
      (all-range IsStaged seen (with_stamps f) later 0 p q (units_of old) (recursion_from_All IsStaged (units_of old) s.staged)));
}
  where
    fresh : new.next ≡ old.next → new.next ≤ new.tree.made
    fresh e = let f = s.fresh in omega arith

-- ---- nothing put in

no-run : (h : ℕ) → in_run h (record { first = 0; count = 0 }) ≡ false
no-run h = grind (arith, nat_tests)

or-none : (a b : Bool) → b ≡ false → a ≡ (a || b)
or-none true b e = refl
or-none false b e = sym e

pub puts-nothing : (view : LenView) (past : TreeElement ℕ → Bool) (ins : Stamp) (p count : ℕ) (v : VectorState) → count ≡ 0
    → PutsUnits view past ins p count v v
puts-nothing view past ins p count v e = record {
  run = record { first = 0; count = 0 };
  count_is = sym e;
  units = sym (put-nothing (seen_in view) past p (units_of v));
  unused = λ h g. absurd (true-false (sym g ∙ no-run h));
  used = λ h. or-none (in_use v h) (in_run h (record { first = 0; count = 0 })) (no-run h);
  floor = refl;
}

-- ---- what the calls of the tree make of a vector

module _ (old between new : VectorState) (s : IsSoundVector old) (run : HandleRun) (count : ℕ) (t : TakesRun count run old between) (view : LenView)
    (past : TreeElement ℕ → Bool) (ins : Stamp) (p : ℕ) (later : is_of_stage 0 ins ≡ false) (f : Reference → Reference) (props : PropertySet) (none : props ≡ [])
    (same : new ≡ record between { tree = new.tree })
    (elements : units_of new ≡ put (seen_in view) past p (new_elements ins None (apply [] props) (handles_of run)) (units_of between))
    (refs : ChangesReferences f between.tree.refs new.tree.refs) (rest : KeepsRest between.tree new.tree)
    (made : new.tree.made ≡ between.tree.made + length (handles_of run)) where
  put-units : units_of new ≡ put (seen_in view) past p (new_elements ins None [] (handles_of run)) (units_of old)
  put-units = elements ∙ ap (λ ps. put (seen_in view) past p (new_elements ins None (apply [] ps) (handles_of run)) (units_of between)) none
      ∙ ap (λ (x : TreeState HandleRun). put (seen_in view) past p (new_elements ins None [] (handles_of run)) (vector_elements x)) t.tree

  pub vector-sound : IsSoundVector new
  vector-sound = put-sound old between new s run t.tree t.unused t.used rises same ins later (seen_in view) past p
      (rest.usable ∙ ap (λ (x : TreeState HandleRun). x.usable) t.tree ∙ s.usable)
      (no-references f between.tree.refs new.tree.refs (λ r. ap (λ (x : TreeState HandleRun). reference_at x.refs r) t.tree ∙ s.refs r) refs)
      (made ∙ ap (λ n. between.tree.made + n) (length-numbers_from run.first run.count) ∙ ap (λ (x : TreeState HandleRun). x.made + run.count) t.tree) put-units
    where
      rises : between.next ≤ old.next + run.count
      rises = let r = t.rises in let c = t.count_is in omega arith

  pub vector-puts : PutsUnits view past ins p count old new
  vector-puts = record {
    run = run;
    count_is = t.count_is;
    units = put-units;
    unused = t.unused;
    used = λ h. ap (λ v. in_use v h) same ∙ t.used h;
    floor = rest.floor ∙ ap (λ (x : TreeState HandleRun). x.floor) t.tree;
  }

module _ (old new : VectorState) (s : IsSoundVector old) (view : LenView) (removal : Stamp) (p q : ℕ) (f : Reference → Reference)
    (same : new ≡ record old { tree = new.tree })
    (elements : units_of new ≡ change_range_from 0 (seen_in view) p q (with_stamps (removed_stamps removal)) (units_of old))
    (refs : ChangesReferences f old.tree.refs new.tree.refs) (rest : KeepsRest old.tree new.tree) (made : new.tree.made ≡ old.tree.made) where
  pub vector-marked : IsSoundVector new
  vector-marked = range-sound old new s same (seen_in view) (removed_stamps removal) p q (rest.usable ∙ s.usable)
      (no-references f old.tree.refs new.tree.refs s.refs refs) made elements (λ e h. h)

  pub vector-marks : MarksUnits view removal p q old new
  vector-marks = record { units = elements; used = λ h. ap (λ v. in_use v h) same; floor = rest.floor }

-- references that stay
pub keeps-changes : (old new : List (ℕ × Reference)) → KeepsReferences old new → ChangesReferences (λ x. x) old new
keeps-changes old new k r = k r ∙ same (reference_at old r)
  where
    same : (o : Option Reference) → o ≡ option_map (λ x. x) o
    same None = refl
    same (Some x) = refl

pub run-fits : (count : ℕ) (run : HandleRun) (old between : VectorState) → TakesRun count run old between
    → between.tree.made + length (handles_of run) ≤ max_safe_integer
run-fits count run old between t =
    let f = t.fits in
    let c = t.count_is in
    let n = length-numbers_from run.first run.count in
    let m : between.tree.made ≡ old.tree.made = ap (λ (x : TreeState HandleRun). x.made) t.tree in
    omega arith

-- a place among what is seen is among it where handles were taken
pub place-within : (view : LenView) (p count : ℕ) (run : HandleRun) (old between : VectorState) → TakesRun count run old between
    → p ≤ len (seen_in view) (units_of old)
    → len (seen_in view) (units_of between) < p → ⊥
place-within view p count run old between t l h =
    let e = ap (λ (x : TreeState HandleRun). len (seen_in view) (vector_elements x)) t.tree in
    absurd (omega (arith, e))

pub on-ok : {A E P : Type 0} (r : Result A E) → P → OnOk r P
on-ok (Ok x) p = p
on-ok (Err e) p = tt

-- ---- a stage is sequenced

map-all : {A B : Type 0} (P : A → Type 0) (Q : B → Type 0) (f : A → B) → ((x : A) → P x → Q (f x)) → (xs : List A) → AllByRecursion P xs
    → AllByRecursion Q (map f xs)
map-all P Q f h [] a = a
map-all P Q f h (x ∷ xs) a = (h x a.0, map-all P Q f h xs a.1)

module _ (k s c : ℕ) (old new : VectorState) (sound : IsSoundVector old) (f : Reference → Reference) (same : new ≡ record old { tree = new.tree })
    (elements : units_of new ≡ map (acked_element k s c None) (units_of old))
    (refs : ChangesReferences f old.tree.refs new.tree.refs) (rest : KeepsRest old.tree new.tree) (made : new.tree.made ≡ old.tree.made) where
  pub vector-acked : IsSoundVector new
  vector-acked = record {
    usable = rest.usable ∙ sound.usable;
    refs = no-references f old.tree.refs new.tree.refs sound.refs refs;
    proper = record {
      used = All-from_recursion (λ (e : TreeElement ℕ). in_use new e.unit ≡ true) (units_of new)
          (subst (AllByRecursion (λ (e : TreeElement ℕ). in_use new e.unit ≡ true)) (sym elements)
          (map-all (λ (e : TreeElement ℕ). in_use old e.unit ≡ true) (λ (e : TreeElement ℕ). in_use new e.unit ≡ true) (acked_element k s c None)
          (λ e g. ap (λ v. in_use v e.unit) same ∙ g) (units_of old)
          (recursion_from_All (λ (e : TreeElement ℕ). in_use old e.unit ≡ true) (units_of old) sound.proper.used)));
      once = λ h. subst (λ es. len (λ (e : TreeElement ℕ). nat_eq e.unit h) es ≤ 1) (sym elements)
          (subst (λ n. n ≤ 1) (sym (len-map (λ (e : TreeElement ℕ). nat_eq e.unit h) (acked_element k s c None) (units_of old))) (sound.proper.once h));
    };
    fresh = fresh (ap (λ (v : VectorState). v.next) same);
    plain = All-from_recursion (λ (e : TreeElement ℕ). e.overlay ≡ no_properties) (units_of new)
        (subst (AllByRecursion (λ (e : TreeElement ℕ). e.overlay ≡ no_properties)) (sym elements)
        (map-all (λ (e : TreeElement ℕ). e.overlay ≡ no_properties) (λ (e : TreeElement ℕ). e.overlay ≡ no_properties) (acked_element k s c None)
        (λ e g. ap (after_ack k) g) (units_of old)
        (recursion_from_All (λ (e : TreeElement ℕ). e.overlay ≡ no_properties) (units_of old) sound.plain)));
    staged = All-from_recursion IsStaged (units_of new) (subst (AllByRecursion IsStaged) (sym elements)
        (map-all IsStaged IsStaged (acked_element k s c None) (λ e h. acked-later e.stamps.ins h) (units_of old) (recursion_from_All IsStaged (units_of old) sound.staged)));
  }
    where
      acked-later : (t : Stamp) → is_of_stage 0 t ≡ false → is_of_stage 0 (acked_stamp k s c t) ≡ false
      acked-later (Acked r d) h = refl
      acked-later (Local j) h = step (nat_eq j k)
        where
          step : (b : Bool) → is_of_stage 0 (cond b (Acked s c) (Local j)) ≡ false
          step true = refl
          step false = h

      fresh : new.next ≡ old.next → new.next ≤ new.tree.made
      fresh e = let g = sound.fresh in omega arith

  pub vector-acks : AcksUnits k s c old new
  vector-acks = record { units = elements; used = λ h. ap (λ v. in_use v h) same; floor = rest.floor }

-- no unit has a pending change
pub lowest-units : (k : ℕ) (v : VectorState) → IsSoundVector v → All (λ (e : TreeElement ℕ). IsLowestChange k e.overlay) (units_of v)
lowest-units k v s = All-from_recursion (λ (e : TreeElement ℕ). IsLowestChange k e.overlay) (units_of v)
    (all-weaker (λ (e : TreeElement ℕ). e.overlay ≡ no_properties) (λ (e : TreeElement ℕ). IsLowestChange k e.overlay)
    (λ e g. subst (IsLowestChange k) (sym g) (All-from_recursion (λ change. k ≤ change.0) [] tt)) (units_of v)
    (recursion_from_All (λ (e : TreeElement ℕ). e.overlay ≡ no_properties) (units_of v) s.plain))

-- what holds where a call succeeds, by what held where it did
pub if-ok : {A E : Type 0} (P Q : A → Type 0) (r : Result A E) → IfOk r P → ((x : A) → P x → Q x) → IfOk r Q
if-ok P Q (Ok x) p f = f x p
if-ok P Q (Err e) p f = tt

pub ok-with : {A E P : Type 0} (Q : Type 0) (r : Result A E) → OnOk r P → (P → OnOk r Q) → OnOk r Q
ok-with Q (Ok x) p f = f p
ok-with Q (Err e) p f = tt
