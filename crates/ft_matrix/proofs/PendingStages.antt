-- The pending units of a grid are those of its stages, and those of each stage stand together.
use Rattle.std.proofs.Common.{◌≡◌, ℕ, zero, suc, ◌+◌, ◌≤◌, Bool, true, false, cond, not, ◌&&◌, ◌||◌, nat_eq, List, [], ◌∷◌, ◌++◌, None, Some, refl, sym, ◌∙◌, ap, subst, map, arith, IfOk, OnOk, Result, Ok, Err}
use Rattle.std.specs.List.{AllByRecursion, list_any}
use Rattle.std.proofs.lemmas.Bool.Decides.{nat_tests}
use Rattle.ft_base.specs.declared.stamps.Stamp.{Stamp}
use Rattle.ft_base.specs.declared.stamps.Stamp.TheVariants.{Acked, Local}
use Rattle.ft_base.specs.Scan.{change_range_from, len, no_run, one_more_if, within}
use Rattle.ft_base.specs.Visibility.{is_of_stage}
use Rattle.ft_base.proofs.Booleans.{both}
use Rattle.ft_block.specs.declared.leaves.LenView.{LenView}
use Rattle.ft_op.specs.declared.operations.CellOp.{CellOp}
use Rattle.ft_op.specs.declared.operations.CellOp.TheVariants.{SpliceIn, SpliceOut, Set}
use Rattle.ft_op.specs.declared.operations.Target.{Target}
use Rattle.ft_op.specs.declared.operations.Target.TheVariants.{Rows, Cols}
use Rattle.ft_props.specs.Compaction.{is_insertion_at_or_below}
use Rattle.ft_props.specs.Element.{ListElement, NamelessElement, nameless}
use Rattle.ft_props.specs.Steps.{acked_stamp, is_inserted_by}
use Rattle.ft_laws_names.specs.GridFacts.{is_stamp_below, is_unit_below}
use Rattle.ft_perm.specs.Handles.{HandleRun, handles_of, numbers_from}
use Rattle.ft_perm.specs.Vectors.{VectorState}
use Rattle.ft_tree_leaves.specs.Elements.{TreeElement, acked_element, is_pending, new_elements, removed_stamps, seen_in, with_stamps}
use Rattle.ft_zamboni.specs.Scours.{Writes, staying}
use Rattle.ft_zamboni.specs.Scours.Writes.{none as writes_none, same as writes_same, universal as writes_universal}
use Rattle.ft_matrix.specs.declared.grid.Grid.{Grid}
use Rattle.ft_matrix.specs.declared.stages.GridStage.{GridStage}
use Rattle.ft_matrix.specs.Acked.{after_stage}
use Rattle.ft_matrix.specs.Compacted.{ScoursUnits}
use Rattle.ft_matrix.specs.Resubmitted.{is_due, kept_stage, put_position, stages_after}
use Rattle.ft_matrix.specs.Sound.{ArePending, IsOfStages, IsSound, IsSoundVector, StandTogether, puts_units}
use Rattle.ft_matrix.specs.Sides.{units_at, with_units_at}
use Rattle.ft_matrix.specs.Splices.{AcksUnits, Inserts, Removes}
use Rattle.ft_matrix.specs.Units.{shown_unit, units_of}
use Rattle.ft_matrix.proofs.OwnSteps.{AreBelow}
use Rattle.ft_matrix.proofs.PendingRuns.{acked-together, left-together, now-together, pass-together, pend, put-together, stage_in, together-alike}
use Rattle.ft_matrix.proofs.ScouredUnits.{all-left}
use Rattle.ft_matrix.proofs.SideLaws.{marks-used, pending-at, same-sound, side-sound}
use Rattle.ft_matrix.proofs.SoundVectors.{all-put, all-range, all-weaker}

-- ---- stages

abbrev is_at : ℕ → GridStage → Bool
is_at k t = nat_eq t.stage k && puts_units t

any-front : (k : ℕ) (ts us : List GridStage) → list_any (is_at k) ts ≡ true → list_any (is_at k) (ts ++ us) ≡ true
any-front k [] us h = (cc)
any-front k (t ∷ ts) us h = step (is_at k t) h (any-front k ts us)
  where
    step : (b : Bool) → b || list_any (is_at k) ts ≡ true → (list_any (is_at k) ts ≡ true → list_any (is_at k) (ts ++ us) ≡ true)
        → b || list_any (is_at k) (ts ++ us) ≡ true
    step true g ih = refl
    step false g ih = ih g

any-behind : (k : ℕ) (ts us : List GridStage) → list_any (is_at k) us ≡ true → list_any (is_at k) (ts ++ us) ≡ true
any-behind k [] us h = h
any-behind k (t ∷ ts) us h = step (is_at k t) (any-behind k ts us h)
  where
    step : (b : Bool) → list_any (is_at k) (ts ++ us) ≡ true → b || list_any (is_at k) (ts ++ us) ≡ true
    step true g = refl
    step false g = g

pub stays-of : (ts us : List GridStage) (t : Stamp) → IsOfStages ts t → IsOfStages (ts ++ us) t
stays-of ts us (Acked s c) h = tt
stays-of ts us (Local k) h = any-front k ts us h

pub more-stages : (ts us vs : List GridStage) (es : List (TreeElement ℕ)) → vs ≡ ts ++ us → ArePending ts es → ArePending vs es
more-stages ts us vs es e p = subst (λ ws. ArePending ws es) (sym e) (record {
  together = p.together;
  own = all-weaker (λ (x : TreeElement ℕ). IsOfStages ts x.stamps.ins) (λ (x : TreeElement ℕ). IsOfStages (ts ++ us) x.stamps.ins)
      (λ x h. stays-of ts us x.stamps.ins h) es p.own;
})

same-number : (k : ℕ) → nat_eq k k ≡ true
same-number k = grind (arith, nat_tests)

pub is-new : (ts : List GridStage) (u : GridStage) → puts_units u ≡ true → IsOfStages (ts ++ (u ∷ [])) (Local u.stage)
is-new ts u h = any-behind u.stage ts (u ∷ []) (rw (same-number u.stage, h) refl)

-- ---- nothing is pending

pub no-units : (ts : List GridStage) (es : List (TreeElement ℕ)) → es ≡ [] → ArePending ts es
no-units ts es e = subst (ArePending ts) (sym e) (record { together = tt; own = tt })

acked-own : (ts : List GridStage) (t : Stamp) → stage_in t ≡ None → IsOfStages ts t
acked-own ts (Acked s c) h = tt
acked-own ts (Local k) h = (cc)

pub acked-units : (ts : List GridStage) (es : List (TreeElement ℕ)) → AllByRecursion (λ (e : TreeElement ℕ). pend e ≡ None) es → ArePending ts es
acked-units ts es a = record {
  together = acked-together es a;
  own = all-weaker (λ (e : TreeElement ℕ). pend e ≡ None) (λ (e : TreeElement ℕ). IsOfStages ts e.stamps.ins) (λ e h. acked-own ts e.stamps.ins h) es a;
}

-- units of a list of which no stage inserted an element
pub bare-units : (xs : List ListElement) (es : List (TreeElement ℕ)) → map nameless xs ≡ map shown_unit es → ((k : ℕ) → len (is_inserted_by k) xs ≡ 0)
    → AllByRecursion (λ (e : TreeElement ℕ). pend e ≡ None) es
bare-units [] [] h n = tt
bare-units [] (e ∷ es) h n = (cc)
bare-units (x ∷ xs) [] h n = (cc)
bare-units (x ∷ xs) (e ∷ es) h n =
    let here : nameless x ≡ shown_unit e = (cc) in
    let rest : map nameless xs ≡ map shown_unit es = (cc) in
    let ins : x.ins ≡ e.stamps.ins = ap (λ (m : NamelessElement). m.stamps.ins) here in (
      subst (λ t. stage_in t ≡ None) ins (first x.ins (λ k. none (is_of_stage k x.ins) (len (is_inserted_by k) xs) (n k))),
      bare-units xs es rest (λ k. less (is_of_stage k x.ins) (len (is_inserted_by k) xs) (n k)),
    )
  where
    none : (b : Bool) (m : ℕ) → one_more_if b m ≡ 0 → b ≡ false
    none true m g = absurd (omega arith)
    none false m g = refl

    less : (b : Bool) (m : ℕ) → one_more_if b m ≡ 0 → m ≡ 0
    less true m g = absurd (omega arith)
    less false m g = g

    first : (t : Stamp) → ((k : ℕ) → is_of_stage k t ≡ false) → stage_in t ≡ None
    first (Acked s c) f = refl
    first (Local k) f = absurd (true-is-not (sym (same-number k) ∙ f k))
      where
        true-is-not : true ≡ false → ⊥
        true-is-not g = (cc g)

-- ---- units are put in, or get a removal

new-own : (k first count : ℕ) → AllByRecursion (λ (e : TreeElement ℕ). pend e ≡ Some k) (new_elements (Local k) None [] (numbers_from first count))
new-own k first zero = tt
new-own k first (suc count) = (refl, new-own k (first + 1) count)

new-acked : (s c first count : ℕ) → AllByRecursion (λ (e : TreeElement ℕ). pend e ≡ None) (new_elements (Acked s c) None [] (numbers_from first count))
new-acked s c first zero = tt
new-acked s c first (suc count) = (refl, new-acked s c (first + 1) count)

own-new : (ts : List GridStage) (k : ℕ) → IsOfStages ts (Local k) → (first count : ℕ)
    → AllByRecursion (λ (e : TreeElement ℕ). IsOfStages ts e.stamps.ins) (new_elements (Local k) None [] (numbers_from first count))
own-new ts k h first zero = tt
own-new ts k h first (suc count) = (h, own-new ts k h (first + 1) count)

pub put-pending : (ts : List GridStage) (view : LenView) (s c p count : ℕ) (old new : VectorState) → Inserts view is_pending (Acked s c) p count old new true
    → ArePending ts (units_of old) → ArePending ts (units_of new)
put-pending ts view s c p count old new i h =
    let r = i.1.run in
    let fresh = new-acked s c r.first r.count in
    let units = new_elements (Acked s c) None [] (handles_of r) in
    subst (ArePending ts) (sym i.1.units) (record {
      together = pass-together units fresh (seen_in view) p (units_of old) h.together;
      own = all-put (λ (e : TreeElement ℕ). IsOfStages ts e.stamps.ins) is_pending units
          (all-weaker (λ (e : TreeElement ℕ). pend e ≡ None) (λ (e : TreeElement ℕ). IsOfStages ts e.stamps.ins) (λ e g. acked-own ts e.stamps.ins g) units fresh)
          (seen_in view) p (units_of old) h.own;
    })

lower : (k : ℕ) (es : List (TreeElement ℕ)) → AreBelow k es → AllByRecursion (λ (e : TreeElement ℕ). is_stamp_below k e.stamps.ins ≡ true) es
lower k es b = all-weaker (λ (e : TreeElement ℕ). is_unit_below k (shown_unit e) ≡ true) (λ (e : TreeElement ℕ). is_stamp_below k e.stamps.ins ≡ true)
    (λ e h. (both (is_stamp_below k e.stamps.ins) _ h).0) es b

-- the stage above all others, with whatever it puts in
pub own-put-pending : (ts us : List GridStage) (k : ℕ) (op : CellOp) (view : LenView) (p count : ℕ) (old new : VectorState)
    → us ≡ ts ++ (record { stage = k; op = op; row = None; col = None } ∷ [])
    → (not (nat_eq count 0) ≡ true → puts_units (record { stage = k; op = op; row = None; col = None }) ≡ true)
    → Inserts view no_run (Local k) p count old new true → AreBelow k (units_of old) → ArePending ts (units_of old) → ArePending us (units_of new)
own-put-pending ts us k op view p count old new e puts i below h =
    let r = i.1.run in
    let units = new_elements (Local k) None [] (handles_of r) in
    let old_own = (more-stages ts (record { stage = k; op = op; row = None; col = None } ∷ []) us (units_of old) e h).own in
    subst (ArePending us) (sym i.1.units) (record {
      together = put-together k units (new-own k r.first r.count) (seen_in view) p (units_of old) (lower k (units_of old) below) h.together;
      own = all-put (λ (x : TreeElement ℕ). IsOfStages us x.stamps.ins) no_run units (fresh r.first r.count (i.1.count_is)) (seen_in view) p (units_of old) old_own;
    })
  where
    some : (n : ℕ) → not (nat_eq (suc n) 0) ≡ true
    some n = grind (arith, nat_tests)

    fresh : (first n : ℕ) → n ≡ count → AllByRecursion (λ (x : TreeElement ℕ). IsOfStages us x.stamps.ins) (new_elements (Local k) None [] (numbers_from first n))
    fresh first zero g = tt
    fresh first (suc n) g =
        let put_in = puts (ap (λ m. not (nat_eq m 0)) (sym g) ∙ some n) in
        own-new us k (subst (λ vs. IsOfStages vs (Local k)) (sym e) (is-new ts (record { stage = k; op = op; row = None; col = None }) put_in)) first (suc n)

range-pend : (i : ℕ) (seen : TreeElement ℕ → Bool) (p q : ℕ) (t : Stamp) (es : List (TreeElement ℕ))
    → map pend es ≡ map pend (change_range_from i seen p q (with_stamps (removed_stamps t)) es)
range-pend i seen p q t [] = refl
range-pend i seen p q t (e ∷ es) = step (seen e && within p q i) (range-pend (one_more_if (seen e) i) seen p q t es)
  where
    step : (b : Bool) → map pend es ≡ map pend (change_range_from (one_more_if (seen e) i) seen p q (with_stamps (removed_stamps t)) es)
        → map pend (e ∷ es) ≡ map pend (cond b (with_stamps (removed_stamps t) e) e ∷ change_range_from (one_more_if (seen e) i) seen p q (with_stamps (removed_stamps t)) es)
    step true h = ap (λ ns. pend e ∷ ns) h
    step false h = ap (λ ns. pend e ∷ ns) h

pub range-pending : (ts : List GridStage) (view : LenView) (t : Stamp) (p q : ℕ) (old new : VectorState) → Removes view t p q old new true
    → ArePending ts (units_of old) → ArePending ts (units_of new)
range-pending ts view t p q old new i h = subst (ArePending ts) (sym i.1.units) (record {
  together = together-alike (units_of old) _ (range-pend 0 (seen_in view) p q t (units_of old)) h.together;
  own = all-range (λ (e : TreeElement ℕ). IsOfStages ts e.stamps.ins) (seen_in view) (with_stamps (removed_stamps t)) (λ e g. g) 0 p q (units_of old) h.own;
})

-- a removal of another client, if it is within the length
pub removed-sound : (target : Target) (g : Grid) (view : LenView) (t : Stamp) (p q : ℕ) (v : VectorState) (taken : Bool) → IsSound g → Removes view t p q (units_at target g) v taken
    → IsSoundVector v → IsSound (with_units_at target g v)
removed-sound target g view t p q v true s i sv =
    side-sound target g v s sv (marks-used view t p q (units_at target g) v i) i.1.floor
    (range-pending g.stages.items view t p q (units_at target g) v i (pending-at target g s))
removed-sound target g view t p q v false s i sv = same-sound target g v i.1 s

pub ok-from : {A E : Type 0} (P : A → Type 0) (Q R : Type 0) (r : Result A E) → IfOk r P → OnOk r Q → ((x : A) → P x → Q → R) → OnOk r R
ok-from P Q R (Ok x) p q f = f x p q
ok-from P Q R (Err e) p q f = tt

-- ---- the lowest stage is sequenced

pub same-stage : (j k : ℕ) → nat_eq j k ≡ true → j ≡ k
same-stage j k h = grind (arith, nat_tests)

lowest-of : (low j : ℕ) (ts : List GridStage) → AllByRecursion (λ (t : GridStage). low ≤ t.stage) ts → list_any (is_at j) ts ≡ true → low ≤ j
lowest-of low j [] a h = (cc)
lowest-of low j (t ∷ ts) a h = by (nat_eq t.stage j) refl (puts_units t) h (lowest-of low j ts a.1)
  where
    by : (b : Bool) → nat_eq t.stage j ≡ b → (d : Bool) → (b && d) || list_any (is_at j) ts ≡ true → (list_any (is_at j) ts ≡ true → low ≤ j) → low ≤ j
    by true e d g ih = (let same = same-stage t.stage j e in let first = a.0 in omega (arith, same, first))
    by false e d g ih = ih g

low-units : (low : ℕ) (ts : List GridStage) → AllByRecursion (λ (t : GridStage). low ≤ t.stage) ts → (t : Stamp) → IsOfStages ts t → (j : ℕ) → stage_in t ≡ Some j → low ≤ j
low-units low ts a (Acked s c) h j e = (cc)
low-units low ts a (Local i) h j e = (let same : i ≡ j = (cc) in let least = lowest-of low i ts a h in omega (arith, same, least))

own-after : (low s c : ℕ) (ts : List GridStage) (t : Stamp) → IsOfStages ts t → IsOfStages (after_stage low ts) (acked_stamp low s c t)
own-after low s c ts (Acked r d) h = tt
own-after low s c ts (Local j) h = by (nat_eq j low) refl
  where
    first : (us : List GridStage) → nat_eq j low ≡ false → list_any (is_at j) us ≡ true → list_any (is_at j) (after_stage low us) ≡ true
    first [] e g = g
    first (u ∷ us) e g = step (nat_eq u.stage low) refl
      where
        other : u.stage ≡ low → nat_eq u.stage j ≡ false
        other same = grind (arith, nat_tests)

        drop : (b d : Bool) → b ≡ false → (b && d) || list_any (is_at j) us ≡ true → list_any (is_at j) us ≡ true
        drop true d n k = (cc)
        drop false d n k = k

        step : (b : Bool) → nat_eq u.stage low ≡ b → list_any (is_at j) (cond b us (u ∷ us)) ≡ true
        step true k = drop (nat_eq u.stage j) (puts_units u) (other (same-stage u.stage low k)) g
        step false k = g

    by : (b : Bool) → nat_eq j low ≡ b → IsOfStages (after_stage low ts) (cond b (Acked s c) (Local j))
    by true e = tt
    by false e = first ts e h

map-own : (low s c : ℕ) (ts : List GridStage) (es : List (TreeElement ℕ)) → AllByRecursion (λ (e : TreeElement ℕ). IsOfStages ts e.stamps.ins) es
    → AllByRecursion (λ (e : TreeElement ℕ). IsOfStages (after_stage low ts) e.stamps.ins) (map (acked_element low s c None) es)
map-own low s c ts [] a = tt
map-own low s c ts (e ∷ es) a = (own-after low s c ts e.stamps.ins a.0, map-own low s c ts es a.1)

pub acked-pending : (low s c : ℕ) (ts us : List GridStage) (old new : VectorState) → us ≡ after_stage low ts → AllByRecursion (λ (t : GridStage). low ≤ t.stage) ts
    → AcksUnits low s c old new → ArePending ts (units_of old) → ArePending us (units_of new)
acked-pending low s c ts us old new e a acks h =
    subst (λ vs. ArePending vs (units_of new)) (sym e) (subst (ArePending (after_stage low ts)) (sym acks.units) (record {
      together = now-together low s c (units_of old) (all-weaker (λ (x : TreeElement ℕ). IsOfStages ts x.stamps.ins)
          (λ (x : TreeElement ℕ). (j : ℕ) → pend x ≡ Some j → low ≤ j) (λ x g. low-units low ts a x.stamps.ins g) (units_of old) h.own) h.together;
      own = map-own low s c ts (units_of old) h.own;
    }))

-- ---- units are taken out

below-acked : (floor : ℕ) (t : Stamp) → is_insertion_at_or_below floor t ≡ true → stage_in t ≡ None
below-acked floor (Acked s c) h = refl
below-acked floor (Local k) h = (cc)

written-pend : (floor : ℕ) {ys xs : List (TreeElement ℕ)} → Writes floor ys xs → map pend xs ≡ map pend ys
written-pend floor writes_none = refl
written-pend floor (writes_same {e = e} w) = ap (λ ns. pend e ∷ ns) (written-pend floor w)
written-pend floor (writes_universal {e = e} {old = xs} l w) =
    ap (λ n. n ∷ map pend xs) (below-acked floor e.stamps.ins l) ∙ ap (λ ns. None ∷ ns) (written-pend floor w)

pub left-pending : (ts : List GridStage) (floor : ℕ) (runs : List HandleRun) (old new : VectorState) → ScoursUnits floor runs old new → ArePending ts (units_of old)
    → ArePending ts (units_of new)
left-pending ts floor runs old new s h = record {
  together = together-alike (staying s.marked) (units_of new) (written-pend floor s.written) (left-together s.marked (subst StandTogether (sym s.all) h.together));
  own = all-left (λ (e : TreeElement ℕ). IsOfStages ts e.stamps.ins) (λ e g. tt) floor s.marked (units_of old) (units_of new) s.all s.written h.own;
}

-- ---- stages go that have no piece

kept-putting : (rows cols : List (TreeElement ℕ)) (t : GridStage) → puts_units t ≡ true → kept_stage rows cols t ≡ t ∷ []
kept-putting rows cols t h = by t.op h
  where
    by : (op : CellOp) → puts_units (record t { op = op }) ≡ true → kept_stage rows cols (record t { op = op }) ≡ record t { op = op } ∷ []
    by (SpliceIn Rows p count) g = step (nat_eq count 0) g
      where
        step : (b : Bool) → not b ≡ true → elim (cond b [] (SpliceIn Rows (put_position t.stage rows) count ∷ [])) [ [] ↦ [] | _ ∷ _ ↦ record t { op = SpliceIn Rows p count } ∷ [] ]
            ≡ record t { op = SpliceIn Rows p count } ∷ []
        step true k = (cc)
        step false k = refl
    by (SpliceIn Cols p count) g = step (nat_eq count 0) g
      where
        step : (b : Bool) → not b ≡ true → elim (cond b [] (SpliceIn Cols (put_position t.stage cols) count ∷ [])) [ [] ↦ [] | _ ∷ _ ↦ record t { op = SpliceIn Cols p count } ∷ [] ]
            ≡ record t { op = SpliceIn Cols p count } ∷ []
        step true k = (cc)
        step false k = refl
    by (SpliceOut target p q) g = (cc)
    by (Set i j value) g = (cc)

any-after : (first count k : ℕ) (rows cols : List (TreeElement ℕ)) (ts : List GridStage) → list_any (is_at k) ts ≡ true
    → list_any (is_at k) (stages_after first count rows cols ts) ≡ true
any-after first count k rows cols [] h = h
any-after first count k rows cols (t ∷ ts) h = by (is_at k t) refl h (any-after first count k rows cols ts)
  where
    here : is_at k t ≡ true → list_any (is_at k) (cond (is_due first count t.stage) (kept_stage rows cols t) (t ∷ [])) ≡ true
    here e = due (is_due first count t.stage)
      where
        putting : puts_units t ≡ true
        putting = (both (nat_eq t.stage k) (puts_units t) e).1

        due : (b : Bool) → list_any (is_at k) (cond b (kept_stage rows cols t) (t ∷ [])) ≡ true
        due true = ap (list_any (is_at k)) (kept-putting rows cols t putting) ∙ ap (λ b. b || false) e
        due false = ap (λ b. b || false) e

    by : (b : Bool) → is_at k t ≡ b → b || list_any (is_at k) ts ≡ true
        → (list_any (is_at k) ts ≡ true → list_any (is_at k) (stages_after first count rows cols ts) ≡ true)
        → list_any (is_at k) (cond (is_due first count t.stage) (kept_stage rows cols t) (t ∷ []) ++ stages_after first count rows cols ts) ≡ true
    by true e g ih = any-front k (cond (is_due first count t.stage) (kept_stage rows cols t) (t ∷ [])) (stages_after first count rows cols ts) (here e)
    by false e g ih = any-behind k (cond (is_due first count t.stage) (kept_stage rows cols t) (t ∷ [])) (stages_after first count rows cols ts) (ih g)

own-left : (first count : ℕ) (rows cols : List (TreeElement ℕ)) (ts : List GridStage) (t : Stamp) → IsOfStages ts t → IsOfStages (stages_after first count rows cols ts) t
own-left first count rows cols ts (Acked s c) h = tt
own-left first count rows cols ts (Local k) h = any-after first count k rows cols ts h

pub fewer-stages : (first count : ℕ) (rows cols : List (TreeElement ℕ)) (ts us : List GridStage) (es : List (TreeElement ℕ))
    → us ≡ stages_after first count rows cols ts → ArePending ts es → ArePending us es
fewer-stages first count rows cols ts us es e p = subst (λ ws. ArePending ws es) (sym e) (record {
  together = p.together;
  own = all-weaker (λ (x : TreeElement ℕ). IsOfStages ts x.stamps.ins) (λ (x : TreeElement ℕ). IsOfStages (stages_after first count rows cols ts) x.stamps.ins)
      (λ x h. own-left first count rows cols ts x.stamps.ins h) es p.own;
})
