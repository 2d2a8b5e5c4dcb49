-- The units of a summary's runs, put at the end of a vector run by run.
use Rattle.std.proofs.Common.{◌≡◌, ℕ, zero, suc, ◌+◌, ◌≤◌, ◌<◌, All, Bool, true, false, ◌||◌, nat_eq, nat_le, List, [], ◌∷◌, ◌++◌, None, refl, sym, ◌∙◌, ap, subst, map, length, replicate, get_or, arith, append_assoc, append-nil, length-append}
use Rattle.std.specs.List.{AllByRecursion, list_all}
use Rattle.std.proofs.lemmas.Bool.{or_left, or_right}
use Rattle.std.proofs.lemmas.Bool.Decides.{nat_tests}
use Rattle.std.proofs.lemmas.List.Elements.{All-from_recursion, recursion_from_All}
use Rattle.ft_base.specs.declared.elements.Element.{Element as ElementStamps}
use Rattle.ft_base.specs.Scan.{len, one_more_if}
use Rattle.ft_base.specs.Visibility.{is_of_stage}
use Rattle.ft_base.proofs.Booleans.{both}
use Rattle.ft_tree_leaves.specs.Elements.{TreeElement, element_with, elements_with}
use Rattle.ft_tree_leaves.specs.References.{KeepsReferences, reference_at}
use Rattle.ft_laws_agreement.proofs.SlidEnds.{true-false}
use Rattle.ft_marks.specs.Marks.{stamp_of}
use Rattle.ft_msg.specs.Summary.{run_items}
use Rattle.ft_named.proofs.Lists.{map-append}
use Rattle.ft_perm.specs.Handles.{HandleRun, handles_of, in_run, numbers_from}
use Rattle.ft_perm.specs.HandleLaws.{length-numbers_from}
use Rattle.ft_perm.specs.Vectors.{VectorState, in_use}
use Rattle.ft_props.specs.Element.{GridUnit, ListElement, nameless, new_elements}
use Rattle.ft_sumdoc.specs.declared.summary.RunRec.{RunRec}
use Rattle.ft_tree.specs.State.{KeepsRest, TreeState}
use Rattle.ft_matrix.specs.Loaded.{LoadsRun, LoadsUnits, run_stamps}
use Rattle.ft_matrix.specs.Sound.{IsSoundVector, IsStaged, no_properties}
use Rattle.ft_matrix.specs.Splices.{TakesRun}
use Rattle.ft_matrix.specs.Units.{shown_unit, shown_units, units_of}
use Rattle.ft_matrix.proofs.SoundVectors.{all-append, all-weaker, below-run, later-run, none-stands}
use Rattle.std.proofs.lemmas.List.{length-map}
use Rattle.ft_tree_leaves.proofs.Runs.{len-append}

-- ---- units with the same stamps

abbrev pub run_units : ElementStamps → List ℕ → List (TreeElement ℕ)
run_units stamps us = elements_with stamps None no_properties us

each-unit : (P : TreeElement ℕ → Type 0) (stamps : ElementStamps) (first count : ℕ)
    → ((h : ℕ) → in_run h (record { first = first; count = count }) ≡ true → P (element_with stamps None no_properties h))
    → AllByRecursion P (run_units stamps (numbers_from first count))
each-unit P stamps first zero f = tt
each-unit P stamps first (suc count) f = (f first (below-run first count), each-unit P stamps (first + 1) count (λ h g. f h (later-run h first count g)))

none-later : (h first : ℕ) → h < first → nat_eq first h ≡ false
none-later h first l = grind (arith, nat_tests)

unit-none : (h : ℕ) (stamps : ElementStamps) (first count : ℕ) → h < first → len (λ e. nat_eq e.unit h) (run_units stamps (numbers_from first count)) ≡ 0
unit-none h stamps first zero l = refl
unit-none h stamps first (suc count) l =
    ap (λ b. one_more_if b (len (λ (e : TreeElement ℕ). nat_eq e.unit h) (run_units stamps (numbers_from (first + 1) count)))) (none-later h first l)
    ∙ unit-none h stamps (first + 1) count (omega arith)

unit-once : (h : ℕ) (stamps : ElementStamps) (first count : ℕ) → len (λ e. nat_eq e.unit h) (run_units stamps (numbers_from first count)) ≤ 1
unit-once h stamps first zero = omega arith
unit-once h stamps first (suc count) = step (nat_eq first h) refl (unit-once h stamps (first + 1) count)
  where
    rest : ℕ
    rest = len (λ (e : TreeElement ℕ). nat_eq e.unit h) (run_units stamps (numbers_from (first + 1) count))

    above : nat_eq first h ≡ true → h < first + 1
    above e = grind (arith, nat_tests)

    step : (b : Bool) → nat_eq first h ≡ b → rest ≤ 1 → one_more_if b rest ≤ 1
    step true e l = subst (λ n. suc n ≤ 1) (sym (unit-none h stamps (first + 1) count (above e))) (omega arith)
    step false e l = l

-- ---- a vector to which units were added

module _ (old between new : VectorState) (s : IsSoundVector old) (run : HandleRun) (count : ℕ) (t : TakesRun count run old between) (stamps : ElementStamps)
    (later : is_of_stage 0 stamps.ins ≡ false) (same : new ≡ record between { tree = new.tree })
    (elements : units_of new ≡ units_of between ++ run_units stamps (handles_of run)) (refs : KeepsReferences between.tree.refs new.tree.refs)
    (rest : KeepsRest between.tree new.tree) (made : new.tree.made ≡ between.tree.made + length (handles_of run)) where
  units : units_of new ≡ units_of old ++ run_units stamps (handles_of run)
  units = elements ∙ ap (λ (x : TreeState HandleRun). units_of (record old { tree = x }) ++ run_units stamps (handles_of run)) t.tree

  in-use-same : (h : ℕ) → in_use new h ≡ (in_use old h || in_run h run)
  in-use-same h = ap (λ v. in_use v h) same ∙ t.used h

  grown : new.tree.made ≡ old.tree.made + run.count
  grown = made ∙ ap (λ n. between.tree.made + n) (length-numbers_from run.first run.count) ∙ ap (λ (x : TreeState HandleRun). x.made + run.count) t.tree

  all-units : (P : TreeElement ℕ → Type 0) → AllByRecursion P (units_of old) → ((h : ℕ) → in_run h run ≡ true → P (element_with stamps None no_properties h))
      → All P (units_of new)
  all-units P a f =
      All-from_recursion P (units_of new) (subst (AllByRecursion P) (sym units) (all-append P (units_of old) (run_units stamps (handles_of run)) a (each-unit P stamps run.first run.count f)))

  once : (h : ℕ) → len (λ e. nat_eq e.unit h) (units_of new) ≤ 1
  once h =
      subst (λ es. len (λ (e : TreeElement ℕ). nat_eq e.unit h) es ≤ 1) (sym units)
      (subst (λ n. n ≤ 1) (sym (len-append (λ (e : TreeElement ℕ). nat_eq e.unit h) (units_of old) (run_units stamps (handles_of run)))) (step (in_use old h) refl))
    where
      news : ℕ
      news = len (λ (e : TreeElement ℕ). nat_eq e.unit h) (run_units stamps (handles_of run))

      apart : (b : Bool) → in_run h run ≡ b → in_use old h ≡ true → b ≡ false
      apart false e g = refl
      apart true e g = absurd (true-false (sym g ∙ t.unused h e))

      none-new : in_run h run ≡ false → news ≡ 0
      none-new e = none-stands (λ g. in_run g run) h (run_units stamps (handles_of run))
          (each-unit (λ (d : TreeElement ℕ). in_run d.unit run ≡ true) stamps run.first run.count (λ g l. l)) e

      step : (b : Bool) → in_use old h ≡ b → len (λ (e : TreeElement ℕ). nat_eq e.unit h) (units_of old) + news ≤ 1
      step true e = let a = s.proper.once h in let b = none-new (apart (in_run h run) refl e) in omega arith
      step false e =
          let a = none-stands (in_use old) h (units_of old) (recursion_from_All (λ (d : TreeElement ℕ). in_use old d.unit ≡ true) (units_of old) s.proper.used) e in
          let b = unit-once h stamps run.first run.count in omega arith

  pub append-sound : IsSoundVector new
  append-sound = record {
    usable = rest.usable ∙ ap (λ (x : TreeState HandleRun). x.usable) t.tree ∙ s.usable;
    refs = λ r. refs r ∙ ap (λ (x : TreeState HandleRun). reference_at x.refs r) t.tree ∙ s.refs r;
    proper = record {
      used = all-units (λ e. in_use new e.unit ≡ true)
          (all-weaker (λ (e : TreeElement ℕ). in_use old e.unit ≡ true) (λ (e : TreeElement ℕ). in_use new e.unit ≡ true)
          (λ e g. in-use-same e.unit ∙ or_left (in_use old e.unit) (in_run e.unit run) g) (units_of old)
          (recursion_from_All (λ (e : TreeElement ℕ). in_use old e.unit ≡ true) (units_of old) s.proper.used))
          (λ h g. in-use-same h ∙ or_right (in_use old h) (in_run h run) g);
      once = once;
    };
    fresh = let n : new.next ≡ between.next = ap (λ (v : VectorState). v.next) same in
        let g = grown in let f = s.fresh in let r = t.rises in let c = t.count_is in omega arith;
    plain = all-units (λ e. e.overlay ≡ no_properties) (recursion_from_All (λ (e : TreeElement ℕ). e.overlay ≡ no_properties) (units_of old) s.plain) (λ h g. refl);
    staged = all-units IsStaged (recursion_from_All IsStaged (units_of old) s.staged) (λ h g. later);
  }

  pub append-loads : (r : RunRec) → stamps ≡ run_stamps r → r.count ≡ count → LoadsRun r old new
  append-loads r e f = record {
    handles = run;
    count = t.count_is ∙ sym f;
    units = units ∙ ap (λ z. units_of old ++ run_units z (handles_of run)) e;
    floor = rest.floor ∙ ap (λ (x : TreeState HandleRun). x.floor) t.tree;
  }

-- ---- all runs

abbrev named_units : ℕ → RunRec → List ListElement
named_units n run = new_elements n (stamp_of run.ins) (map stamp_of run.dels) None [] (replicate run.count GridUnit)

-- the units of a run as the document has them, whatever their numbers
run-named : (run : RunRec) (n first count : ℕ)
    → map nameless (new_elements n (stamp_of run.ins) (map stamp_of run.dels) None [] (replicate count GridUnit))
    ≡ map shown_unit (run_units (run_stamps run) (numbers_from first count))
run-named run n first zero = refl
run-named run n first (suc count) =
    ap (λ ds. record { content = GridUnit; stamps = record { ins = stamp_of run.ins; dels = ds }; by = None; props = []; pending = [] }
    ∷ map nameless (new_elements (n + 1) (stamp_of run.ins) (map stamp_of run.dels) None [] (replicate count GridUnit))) (append-nil (map stamp_of run.dels))
    ∙ ap (λ us. shown_unit (element_with (run_stamps run) None no_properties first) ∷ us) (run-named run (n + 1) (first + 1) count)

items-more : (n : ℕ) (runs : List RunRec) (run : RunRec) (first count : ℕ) → count ≡ run.count
    → map nameless (run_items n (runs ++ run ∷ [])) ≡ map nameless (run_items n runs) ++ map shown_unit (run_units (run_stamps run) (numbers_from first count))
items-more n [] run first count e =
    ap (map nameless) (append-nil (named_units n run)) ∙ run-named run n first run.count ∙ ap (λ c. map shown_unit (run_units (run_stamps run) (numbers_from first c))) (sym e)
items-more n (r ∷ runs) run first count e =
    map-append nameless (named_units n r) (run_items (n + r.count) (runs ++ run ∷ []))
    ∙ ap (λ us. map nameless (named_units n r) ++ us) (items-more (n + r.count) runs run first count e)
    ∙ sym (append_assoc (map nameless (named_units n r)) (map nameless (run_items (n + r.count) runs)) (map shown_unit (run_units (run_stamps run) (numbers_from first count))))
    ∙ ap (λ us. us ++ map shown_unit (run_units (run_stamps run) (numbers_from first count))) (sym (map-append nameless (named_units n r) (run_items (n + r.count) runs)))

pub record UnitsSoFar (runs : List RunRec) (made : ℕ) (first v : VectorState) : Type 0 where
  pub sound : IsSoundVector v
  pub units : shown_units v ≡ map nameless (run_items 0 runs)
  pub made_is : made ≡ length (run_items 0 runs)
  pub floor : v.tree.floor ≡ first.tree.floor

pub units-begin : (v : VectorState) → IsSoundVector v → units_of v ≡ [] → UnitsSoFar [] 0 v v
units-begin v s e = record { sound = s; units = ap (map shown_unit) e; made_is = refl; floor = refl }

pub units-next : (runs : List RunRec) (run : RunRec) (made more : ℕ) (first old new : VectorState) → UnitsSoFar runs made first old
    → IsSoundVector new → LoadsRun run old new
    → more ≡ made + run.count → UnitsSoFar (runs ++ run ∷ []) more first new
units-next runs run made more first old new u s l e =
    let all = items-more 0 runs run l.handles.first l.handles.count l.count in
    let shown : shown_units new ≡ map nameless (run_items 0 (runs ++ run ∷ [])) =
    ap (map shown_unit) l.units ∙ map-append shown_unit (units_of old) (run_units (run_stamps run) (handles_of l.handles))
    ∙ ap (λ us. us ++ map shown_unit (run_units (run_stamps run) (handles_of l.handles))) u.units ∙ sym all in
    record {
      sound = s;
      units = shown;
      made_is = e ∙ ap (λ n. n + run.count) u.made_is ∙ count (ap length all);
      floor = l.floor ∙ u.floor;
    }
  where
    count : length (map nameless (run_items 0 (runs ++ run ∷ [])))
        ≡ length (map nameless (run_items 0 runs) ++ map shown_unit (run_units (run_stamps run) (handles_of l.handles)))
        → length (run_items 0 runs) + run.count ≡ length (run_items 0 (runs ++ run ∷ []))
    count h =
        let a = length-map (run_items 0 (runs ++ run ∷ [])) nameless in
        let b = length-append (map nameless (run_items 0 runs)) (map shown_unit (run_units (run_stamps run) (handles_of l.handles))) in
        let c = length-map (run_items 0 runs) nameless in
        let d = length-map (run_units (run_stamps run) (handles_of l.handles)) shown_unit in
        let f = length-map (handles_of l.handles) (element_with (run_stamps run) None no_properties) in
        let g = length-numbers_from l.handles.first l.handles.count in
        let k = l.count in
        omega arith

pub units-all : (runs : List RunRec) (made : ℕ) (first v : VectorState) → UnitsSoFar runs made first v → LoadsUnits runs made first v
units-all runs made first v u = record { units = u.units; made = u.made_is; floor = u.floor }

-- a run of at least one unit
pub some-of : (runs : List RunRec) (i : ℕ) (d : RunRec) → list_all (λ run. nat_le 1 run.count) runs ≡ true → i < length runs → 1 ≤ (get_or runs i d).count
some-of [] i d h l = absurd (omega arith)
some-of (r ∷ runs) zero d h l = let p = both (nat_le 1 r.count) (list_all (λ (run : RunRec). nat_le 1 run.count) runs) h in at-least r.count p.0
  where
    at-least : (n : ℕ) → nat_le 1 n ≡ true → 1 ≤ n
    at-least n e = grind (arith, nat_tests)
some-of (r ∷ runs) (suc i) d h l = some-of runs i d (both (nat_le 1 r.count) (list_all (λ (run : RunRec). nat_le 1 run.count) runs) h).1 (omega arith)
