-- An edit of the client's own without an operation of intervals moves the shown ones as the changes of the lists do.
use Rattle.std.proofs.Common.{◌≡◌, ℕ, suc, ◌+◌, ◌-◌, ◌≤◌, ◌<◌, Bool, true, false, cond, ◌&&◌, nat_eq, nat_le, List, [], ◌∷◌, ◌++◌, Option, Some, None, Ok, Err, refl, sym, ◌∙◌, ap, subst, append_assoc, append-nil, arith, length, map, ℤ, pos}
use Rattle.std.proofs.lemmas.Bool.Decides.{nat_tests}
use Rattle.std.specs.List.{list_all, list_any}
use Rattle.ft_base.specs.declared.stamps.Stamp.TheVariants.{Local}
use Rattle.ft_base.specs.Scan.{at, change_range, len, no_run, one_more_if, put, rank}
use Rattle.ft_base.proofs.Booleans.{both}
use Rattle.ft_props.specs.declared.properties.Changes.{Changes}
use Rattle.ft_props.specs.Properties.{PropertyList, apply}
use Rattle.ft_props.specs.Element.{ElementContent, ElementId, ListElement, has_id, new_elements, seen, with_pending_annotation, with_pending_removal}
use Rattle.ft_props.specs.Slide.{end_number, settle}
use Rattle.ft_props.specs.Steps.{Sequence}
use Rattle.ft_op.specs.declared.operations.Seg.{Seg}
use Rattle.ft_op.specs.declared.operations.BaseOp.{BaseOp}
use Rattle.ft_op.specs.declared.operations.BaseOp.TheVariants.{Annotate, Insert, Remove}
use Rattle.ft_op.specs.declared.operations.CellOp.{CellOp}
use Rattle.ft_op.specs.declared.operations.CellOp.TheVariants.{Set, SpliceIn, SpliceOut}
use Rattle.ft_op.specs.declared.operations.Target.{Target}
use Rattle.ft_op.specs.declared.operations.Target.TheVariants.{Cols, Rows}
use Rattle.ft_op.specs.Document.{Document, rows_or_cols, with_rows_or_cols}
use Rattle.ft_op.specs.Intervals.{Interval, NamedElements, settle_elements, settle_ends}
use Rattle.ft_op.specs.Operation.{OnGrid, OnIntervals, OnText, SubOperation, segment_contents}
use Rattle.ft_op.specs.Stages.{Stage, intervals_after_stage, shown_intervals}
use Rattle.ft_sumdoc.specs.WellFormed.{same_props}
use Rattle.ft_msg.specs.Client.{EditResult, local_grid, local_set, local_sub_operation, local_sub_operations, local_text}
use Rattle.ft_msg.specs.Content.{interval_record}
use Rattle.ft_laws_agreement.specs.Reconnecting.{StagesRiseTo}
use Rattle.ft_laws_agreement.specs.Sequencing.{Each}
use Rattle.ft_laws_agreement.specs.Trimming.{are_distinct_elements}
use Rattle.ft_laws_agreement.proofs.CompactedScans.{is_held_end}
use Rattle.ft_laws_agreement.proofs.OwnNames.{has_named}
use Rattle.ft_laws_agreement.proofs.SettledEnds.{ends-at, has_ends_at, is_end_at, settle-at, settle-stays}
use Rattle.ft_laws_agreement.proofs.TrimmedDocument.{are_held, has_held_ends, operation-held}
use Rattle.ft_changes.specs.declared.changes.ViewChange.{ViewChange}
use Rattle.ft_changes.specs.declared.changes.ViewChange.TheVariants.{Put, PutUnits}
use Rattle.ft_changes.specs.Laws.{changes_intervals}
use Rattle.ft_changes.specs.Shown.{ShownContent, after_changes, end_after_put, shown_element, shown_elements, shown_properties, with_moved_ends}
use Rattle.ft_changes.specs.ShownRuns.{GoneRun, changed_runs, gone_runs}
use Rattle.ft_changes.specs.Told.{styled_run, taken_run, taken_units, told_local, told_local_grid, told_locals, unless_no_elements}
use Rattle.ft_changes.proofs.AckedLists.{neither}
use Rattle.ft_changes.proofs.ForeignSteps.{after-append}
use Rattle.ft_changes.proofs.IntervalsLead.{detached-stays, map-none, none-put, range-rank, styled-intervals, taken-intervals, units-intervals}
use Rattle.ft_changes.proofs.LocalEnds.{end-known, end-later, end-shown_one, fresh-other, fresh-unseen, is_known, named-later, number-later, put-any, put-distinct, range-distinct, range-known, removal-alike, settle-put, settle-range}
use Rattle.ft_changes.proofs.LocalLaw.{Made, ShowsUpTo, front-parts, in-range, step, with_front}
use Rattle.ft_changes.proofs.LocalSteps.{is_up_to, local-hidden, place-same, shown-later}
use Rattle.ft_changes.proofs.MovedEnds.{after_runs, ends-gone, rank-put}
use Rattle.ft_changes.proofs.SlidNumbers.{settle-number}

-- ---- stages before the edit

-- whether the elements that an interval operation names are known
abbrev pub AreNamesKnown : List ListElement → NamedElements → SubOperation → Type 0
AreNamesKnown xs names (OnIntervals op) = are_held (is_known xs) names ≡ true
AreNamesKnown xs names _ = Unit {0}

abbrev pub AreStagesKnown : List ListElement → List Stage → Type 0
AreStagesKnown xs stages = Each (λ (t : Stage). AreNamesKnown xs t.names t.sub_operation) stages

rise-up : (n j : ℕ) (stages : List Stage) → StagesRiseTo n stages j → n ≤ j
rise-up n j [] r = r
rise-up n j (t ∷ stages) r = let rest = rise-up t.stage j stages r.1 in let first = r.0 in omega (arith, rest, first)

rise-more : (n j k : ℕ) (stages : List Stage) (t : Stage) → t.stage ≡ k → j < k → StagesRiseTo n stages j → StagesRiseTo n (stages ++ (t ∷ [])) k
rise-more n j k [] t e l r = let first = r in (omega (arith, e, first, l), omega (arith, e))
rise-more n j k (u ∷ stages) t e l r = (r.0, rise-more u.stage j k stages t e l r.1)

each-more : {A : Type 0} (R S : A → Type 0) (xs : List A) (x : A) → ((y : A) → R y → S y) → Each R xs → S x → Each S (xs ++ (x ∷ []))
each-more R S [] x f h g = (g, tt)
each-more R S (y ∷ xs) x f h g = (f y h.0, each-more R S xs x f h.1 g)

held-weaker : (P Q : ElementId → Bool) → ((a : ElementId) → P a ≡ true → Q a ≡ true) → (o : Option ElementId) → is_held_end P o ≡ true
    → is_held_end Q o ≡ true
held-weaker P Q f None h = refl
held-weaker P Q f (Some a) h = f a h

joined : (a b : Bool) → a ≡ true → b ≡ true → a && b ≡ true
joined true b e d = d
joined false b e d = absurd (cc)

intervals-weaker : (P Q : ElementId → Bool) → ((a : ElementId) → P a ≡ true → Q a ≡ true) → (is : List Interval) → list_all (has_held_ends P) is
    ≡ true
    → list_all (has_held_ends Q) is ≡ true
intervals-weaker P Q f [] h = refl
intervals-weaker P Q f (i ∷ is) h =
    let p = both (has_held_ends P i) (list_all (has_held_ends P) is) h in
    let q = both (is_held_end P i.start) (is_held_end P i.end) p.0 in
    joined (has_held_ends Q i) (list_all (has_held_ends Q) is)
    (joined (is_held_end Q i.start) (is_held_end Q i.end) (held-weaker P Q f i.start q.0) (held-weaker P Q f i.end q.1))
    (intervals-weaker P Q f is p.1)

names-weaker : (xs ys : List ListElement) → ((a : ElementId) → is_known xs a ≡ true → is_known ys a ≡ true) → (names : NamedElements)
    (o : SubOperation)
    → AreNamesKnown xs names o → AreNamesKnown ys names o
names-weaker xs ys f names (OnText op) h = h
names-weaker xs ys f names (OnGrid op) h = h
names-weaker xs ys f names (OnIntervals op) h =
    let q = both (is_held_end (is_known xs) names.first) (is_held_end (is_known xs) names.second) h in
    joined (is_held_end (is_known ys) names.first) (is_held_end (is_known ys) names.second)
    (held-weaker (is_known xs) (is_known ys) f names.first q.0)
    (held-weaker (is_known xs) (is_known ys) f names.second q.1)

pub shown-append : (xs : List ListElement) (is : List Interval) (ts us : List Stage) → shown_intervals xs is (ts ++ us) ≡ shown_intervals xs
    (shown_intervals xs is ts) us
shown-append xs is [] us = refl
shown-append xs is (t ∷ ts) us = shown-append xs (intervals_after_stage t.sub_operation (settle_elements xs t.stage t.names)
    (settle_ends xs t.stage is)) ts us

-- two lists in which ends settle alike at the stages up to j
module _ (xs ys : List ListElement) (j : ℕ) (same : (m : ℕ) → m ≤ j → (o : Option ElementId) → is_held_end (is_known xs) o ≡ true → settle ys m o
    ≡ settle xs m o) where
  settle-known : (m : ℕ) (o : Option ElementId) → is_held_end (is_known xs) (settle xs m o) ≡ true
  settle-known m o = end-known m xs (settle xs m o) (settle-at m xs o)

  ends-same : (m : ℕ) → m ≤ j → (is : List Interval) → list_all (has_held_ends (is_known xs)) is ≡ true → settle_ends ys m is ≡ settle_ends xs m is
  ends-same m l [] h = refl
  ends-same m l (i ∷ is) h =
      let p = both (has_held_ends (is_known xs) i) (list_all (has_held_ends (is_known xs)) is) h in
      let q = both (is_held_end (is_known xs) i.start) (is_held_end (is_known xs) i.end) p.0 in
      rw (same m l i.start q.0, same m l i.end q.1, ends-same m l is p.1) refl

  ends-known : (m : ℕ) (is : List Interval) → list_all (has_held_ends (is_known xs)) (settle_ends xs m is) ≡ true
  ends-known m [] = refl
  ends-known m (i ∷ is) = rw (settle-known m i.start, settle-known m i.end, ends-known m is) refl

  stage-same : (o : SubOperation) (m : ℕ) → m ≤ j → (names : NamedElements) → AreNamesKnown xs names o → (is : List Interval)
      → list_all (has_held_ends (is_known xs)) is ≡ true
      → intervals_after_stage o (settle_elements ys m names) (settle_ends ys m is) ≡ intervals_after_stage o (settle_elements xs m names)
      (settle_ends xs m is)
  stage-same (OnText op) m l names k is h = ends-same m l is h
  stage-same (OnGrid op) m l names k is h = ends-same m l is h
  stage-same (OnIntervals op) m l names k is h =
      let q = both (is_held_end (is_known xs) names.first) (is_held_end (is_known xs) names.second) k in
      rw (same m l names.first q.0, same m l names.second q.1, ends-same m l is h) refl

  stage-known : (o : SubOperation) (m : ℕ) (names : NamedElements) (is : List Interval)
      → list_all (has_held_ends (is_known xs)) (intervals_after_stage o (settle_elements xs m names) (settle_ends xs m is)) ≡ true
  stage-known (OnText op) m names is = ends-known m is
  stage-known (OnGrid op) m names is = ends-known m is
  stage-known (OnIntervals op) m names is =
      operation-held (is_known xs) op (settle_elements xs m names) (settle_ends xs m is)
      (joined (is_held_end (is_known xs) (settle xs m names.first)) (is_held_end (is_known xs) (settle xs m names.second))
      (settle-known m names.first) (settle-known m names.second))
      (ends-known m is)

  -- the intervals after the stages are the same
  stages-same : (stages : List Stage) (n : ℕ) → StagesRiseTo n stages j → AreStagesKnown xs stages → (is : List Interval)
      → list_all (has_held_ends (is_known xs)) is ≡ true
      → shown_intervals ys is stages ≡ shown_intervals xs is stages
  stages-same [] n r k is h = refl
  stages-same (t ∷ stages) n r k is h =
      ap (λ js. shown_intervals ys js stages) (stage-same t.sub_operation t.stage (rise-up t.stage j stages r.1) t.names k.0 is h)
      ∙ stages-same stages t.stage r.1 k.1 (intervals_after_stage t.sub_operation (settle_elements xs t.stage t.names) (settle_ends xs t.stage is))
      (stage-known t.sub_operation t.stage t.names is)

-- ---- one more stage

-- what is shown at a stage of the intervals of a document
pub record ShowsIntervals (k : ℕ) (t : ShownContent) (doc : Document) (stages : List Stage) : Type 0 where
  pub intervals : t.intervals ≡ map (interval_record k doc.text.items) (shown_intervals doc.text.items doc.intervals stages)
  pub ends : list_all (has_ends_at k doc.text.items) (shown_intervals doc.text.items doc.intervals stages) ≡ true
  pub rise : StagesRiseTo 0 stages k
  pub names : AreStagesKnown doc.text.items stages
  pub known : list_all (has_held_ends (is_known doc.text.items)) doc.intervals ≡ true

-- what a stage makes of the text and of the ends on it, where g is what the changes of the lists make of the numbers of ends
pub record MovesEnds (k : ℕ) (xs ys : List ListElement) (g : ℤ → ℤ) : Type 0 where
  pub same : (m : ℕ) → m ≤ k - 1 → (o : Option ElementId) → is_held_end (is_known xs) o ≡ true → settle ys m o ≡ settle xs m o
  pub stay : (a : ElementId) → is_known xs a ≡ true → is_known ys a ≡ true
  pub number : (o : Option ElementId) → is_end_at (k - 1) xs o ≡ true → g (end_number (k - 1) xs o) ≡ end_number k ys (settle ys k o)

module _ (k : ℕ) (one : 1 ≤ k) (xs ys : List ListElement) (g : ℤ → ℤ) (moves : MovesEnds k xs ys g) where
  numbers-moved : (is : List Interval) → list_all (has_ends_at (k - 1) xs) is ≡ true
      → map (with_moved_ends g) (map (interval_record (k - 1) xs) is) ≡ map (interval_record k ys) (settle_ends ys k is)
  numbers-moved [] h = refl
  numbers-moved (i ∷ is) h =
      let p = both (has_ends_at (k - 1) xs i) (list_all (has_ends_at (k - 1) xs) is) h in
      let q = both (is_end_at (k - 1) xs i.start) (is_end_at (k - 1) xs i.end) p.0 in
      rw (moves.number i.start q.0, moves.number i.end q.1, numbers-moved is p.1) refl

  settled-then : (o : SubOperation) (names : NamedElements) → changes_intervals o ≡ false → (js : List Interval)
      → intervals_after_stage o (settle_elements ys k names) (settle_ends ys k js) ≡ settle_ends ys k js
  settled-then (OnText op) names e js = refl
  settled-then (OnGrid op) names e js = refl
  settled-then (OnIntervals op) names e js = absurd (cc)

  unnamed : (o : SubOperation) (names : NamedElements) → changes_intervals o ≡ false → AreNamesKnown ys names o
  unnamed (OnText op) names e = tt
  unnamed (OnGrid op) names e = tt
  unnamed (OnIntervals op) names e = absurd (cc)

  advance : (doc next : Document) (stages : List Stage) (o : SubOperation) (names : NamedElements) (t u : ShownContent) → changes_intervals o ≡ false
      → doc.text.items ≡ xs → next.text.items ≡ ys → next.intervals ≡ doc.intervals → u.intervals ≡ map (with_moved_ends g) t.intervals
      → ShowsIntervals (k - 1) t doc stages → ShowsIntervals k u next (stages ++ (record { stage = k; sub_operation = o; names = names } ∷ []))
  advance doc next stages o names t u none before after kept moved h =
      let here : Stage = record { stage = k; sub_operation = o; names = names } in
      let is = doc.intervals in
      let old : List ListElement → List Interval = λ zs. shown_intervals zs is stages in
      let less : k - 1 < k = omega arith in
      let known : list_all (has_held_ends (is_known xs)) is ≡ true = subst (λ zs. list_all (has_held_ends (is_known zs)) is ≡ true) before h.known in
      let names_known : AreStagesKnown xs stages = subst (λ zs. AreStagesKnown zs stages) before h.names in
      let ends : list_all (has_ends_at (k - 1) xs) (old xs) ≡ true = subst (λ zs. list_all (has_ends_at (k - 1) zs) (old zs) ≡ true) before h.ends in
      let all : shown_intervals ys is (stages ++ (here ∷ [])) ≡ settle_ends ys k (old xs) =
      shown-append ys is stages (here ∷ []) ∙ ap (λ js. shown_intervals ys js (here ∷ []))
      (stages-same xs ys (k - 1) moves.same stages 0 h.rise names_known is known)
      ∙ settled-then o names none (old xs) in
      let last : shown_intervals next.text.items next.intervals (stages ++ (here ∷ [])) ≡ settle_ends ys k (old xs) =
      ap (λ zs. shown_intervals zs next.intervals (stages ++ (here ∷ []))) after ∙ ap (λ js. shown_intervals ys js (stages ++ (here ∷ []))) kept
      ∙ all in
      record {
        intervals = moved ∙ ap (map (with_moved_ends g)) (h.intervals ∙ ap (λ zs. map (interval_record (k - 1) zs) (old zs)) before)
            ∙ numbers-moved (old xs) ends
            ∙ ap (λ zs. map (interval_record k zs) (settle_ends ys k (old xs))) (sym after) ∙ ap (map (interval_record k next.text.items))
            (sym last);
        ends = subst (λ zs. list_all (has_ends_at k zs) (shown_intervals next.text.items next.intervals (stages ++ (here ∷ []))) ≡ true) (sym after)
            (subst (λ js. list_all (has_ends_at k ys) js ≡ true) (sym last) (ends-at k ys (old xs)));
        rise = rise-more 0 (k - 1) k stages here refl less h.rise;
        names = subst (λ zs. AreStagesKnown zs (stages ++ (here ∷ []))) (sym after)
            (each-more (λ (t : Stage). AreNamesKnown xs t.names t.sub_operation)
            (λ (t : Stage). AreNamesKnown ys t.names t.sub_operation) stages here
            (λ t n. names-weaker xs ys moves.stay t.names t.sub_operation n) names_known (unnamed o names none));
        known = subst (λ zs. list_all (has_held_ends (is_known zs)) next.intervals ≡ true) (sym after)
            (subst (λ js. list_all (has_held_ends (is_known ys)) js ≡ true) (sym kept)
            (intervals-weaker (is_known xs) (is_known ys) moves.stay is known));
      }

-- ---- what each edit makes of ends

module _ (k : ℕ) (one : 1 ≤ k) (xs : List ListElement) (up : list_all (is_up_to (k - 1)) xs ≡ true) (d : are_distinct_elements xs ≡ true) where
  low : k - 1 ≤ k
  low = omega arith

  less : k - 1 < k
  less = omega arith

  -- an end that stays where it was
  stays-put : (o : Option ElementId) → is_end_at (k - 1) xs o ≡ true → settle xs k o ≡ o
  stays-put o e = settle-stays k xs d o (end-later (k - 1) k low xs up o e)

  pub idle-moves : MovesEnds k xs xs (λ e. e)
  idle-moves = record {
    same = λ m l o h. refl;
    stay = λ a h. h;
    number = λ o e. sym (number-later (k - 1) k low xs up o) ∙ ap (end_number k xs) (sym (stays-put o e));
  }

  pub annotation-moves : (p q : ℕ) (c : Changes) → MovesEnds k xs (change_range (seen (k - 1)) p q (with_pending_annotation k c) xs) (λ e. e)
  annotation-moves p q c =
      let f = with_pending_annotation k c in
      let see = seen (k - 1) in
      let same : (m : ℕ) (o : Option ElementId) → settle (change_range see p q f xs) m o ≡ settle xs m o =
      λ m o. settle-range m see (is_up_to (k - 1)) p q f (λ x s h. (refl, refl)) xs up o in
      let rank-same : (o : Option ElementId) → end_number k (change_range see p q f xs) o ≡ end_number k xs o = number-same p q c in
      record {
        same = λ m l o h. same m o;
        stay = λ a h. range-known f (λ x. refl) see p q a xs ∙ h;
        number = λ o e. sym (number-later (k - 1) k low xs up o) ∙ sym (rank-same o) ∙ ap (end_number k (change_range see p q f xs))
            (sym (same k o ∙ stays-put o e));
      }
    where
      number-same : (p q : ℕ) (c : Changes) (o : Option ElementId) → end_number k
          (change_range (seen (k - 1)) p q (with_pending_annotation k c) xs) o ≡ end_number k xs o
      number-same p q c None = refl
      number-same p q c (Some a) = ap pos (range-rank (with_pending_annotation k c) (λ x. refl) (seen (k - 1)) p q a k (λ x. refl) 0 xs)

  pub removal-moves : (p q : ℕ)
      → MovesEnds k xs (change_range (seen (k - 1)) p q (with_pending_removal k) xs)
      (after_runs (gone_runs (seen (k - 1)) (seen k) p q xs) (shown_elements (k - 1) xs))
  removal-moves p q = record {
    same = λ m l o h. settle-range m (seen (k - 1)) (is_up_to (k - 1)) p q (with_pending_removal k)
        (λ x s u. removal-alike (k - 1) k less m l x s u) xs up o;
    stay = λ a h. range-known (with_pending_removal k) (λ x. refl) (seen (k - 1)) p q a xs ∙ h;
    number = number;
  }
    where
      runs : List GoneRun
      runs = gone_runs (seen (k - 1)) (seen k) p q xs

      left : List ListElement
      left = change_range (seen (k - 1)) p q (with_pending_removal k) xs

      number : (o : Option ElementId) → is_end_at (k - 1) xs o ≡ true
          → after_runs runs (shown_elements (k - 1) xs) (end_number (k - 1) xs o) ≡ end_number k left (settle left k o)
      number None e = detached-stays runs (shown_elements (k - 1) xs) 0
      number (Some a) e =
          let here : has_named (seen k) xs a ≡ true = named-later (k - 1) k low a xs up ∙ e in
          let there : is_known left a ≡ true = range-known (with_pending_removal k) (λ x. refl) (seen (k - 1)) p q a xs ∙ end-known (k - 1) xs
          (Some a) e in
          let distinct : are_distinct_elements left ≡ true = range-distinct (with_pending_removal k) (λ x. refl) (seen (k - 1)) p q xs ∙ d in
          ap (after_runs runs (shown_elements (k - 1) xs)) (sym (number-later (k - 1) k low xs up (Some a)))
          ∙ ap (λ es. after_runs runs es (end_number k xs (Some a))) (sym (shown-later (k - 1) k low xs up))
          ∙ ends-gone (has_id a) (seen (k - 1)) (seen k) shown_element p q (with_pending_removal k) (local-hidden k) (λ x. refl) xs
          (end-shown_one k xs d a here)
          ∙ sym (settle-number k left a distinct there)

  pub insertion-moves : (p : ℕ) (props : PropertyList) (bs : List ElementContent) → p ≤ len (seen (k - 1)) xs
      → are_distinct_elements (put (seen (k - 1)) no_run p (new_elements 0 (Local k) [] None props bs) xs) ≡ true
      → MovesEnds k xs (put (seen (k - 1)) no_run p (new_elements 0 (Local k) [] None props bs) xs) (end_after_put p (length bs))
  insertion-moves p props bs fits distinct = record { same = same; stay = λ a h. put-any (has_id a) (seen (k - 1)) new p xs h; number = number }
    where
      new : List ListElement
      new = new_elements 0 (Local k) [] None props bs

      after : List ListElement
      after = put (seen (k - 1)) no_run p (new_elements 0 (Local k) [] None props bs) xs

      same : (m : ℕ) → m ≤ k - 1 → (o : Option ElementId) → is_held_end (is_known xs) o ≡ true → settle after m o ≡ settle xs m o
      same m l None h = refl
      same m l (Some a) h = settle-put m a new (fresh-other (k - 1) k less a xs up h 0 props bs) (fresh-unseen (k - 1) k less m l 0 props bs)
          (seen (k - 1)) p xs

      counted : (n : ℕ) (cs : List ElementContent) → len (seen k) (new_elements n (Local k) [] None props cs) ≡ length cs
      counted n [] = refl
      counted n (c ∷ cs) = let own : nat_le k k ≡ true = grind (arith, nat_tests) in
          ap (λ b. one_more_if (b && true) (len (seen k) (new_elements (n + 1) (Local k) [] None props cs))) own ∙ ap suc (counted (n + 1) cs)

      number : (o : Option ElementId) → is_end_at (k - 1) xs o ≡ true → end_after_put p (length bs) (end_number (k - 1) xs o)
          ≡ end_number k after (settle after k o)
      number None e = refl
      number (Some a) e =
          let here : has_named (seen k) xs a ≡ true = named-later (k - 1) k low a xs up ∙ e in
          let there : has_named (seen k) after a ≡ true = put-any (λ x. has_id a x && seen k x) (seen (k - 1)) new p xs here in
          let known = end-known (k - 1) xs (Some a) e in
          let moved : ℕ → ℕ → ℤ = λ n i. pos (cond (nat_le i (rank (has_id a) (seen k) xs)) (rank (has_id a) (seen k) xs + n)
          (rank (has_id a) (seen k) xs)) in
          ap (end_after_put p (length bs)) (sym (number-later (k - 1) k low xs up (Some a)))
          ∙ ap (λ n. moved n p) (sym (counted 0 bs))
          ∙ ap (moved (len (seen k) new)) (sym (place-same (k - 1) k low p xs up fits))
          ∙ ap pos (sym (rank-put (has_id a) (seen k) new (fresh-other (k - 1) k less a xs up known 0 props bs) (seen (k - 1)) no_run p xs
          (end-shown_one k xs d a here)))
          ∙ ap (end_number k after) (sym (settle-stays k after distinct (Some a) there))

-- ---- one sub-operation

put-moved : (t : ShownContent) (p : ℕ) (seg : Seg) (props : PropertyList) (bs : List ElementContent) → segment_contents seg ≡ bs
    → (after_changes t (unless_no_elements bs (Put p seg props))).intervals ≡ map (with_moved_ends (end_after_put p (length bs))) t.intervals
put-moved t p seg props [] e = none-put 0 0 0 0 p t.intervals
put-moved t p seg props (b ∷ bs) e = ap (λ cs. map (with_moved_ends (end_after_put p (length cs))) t.intervals) e

-- names are distinct before it and after it
record AreDistinct (doc next : Document) : Type 0 where
  pub before : are_distinct_elements doc.text.items ≡ true
  pub after : are_distinct_elements next.text.items ≡ true

module _ (k : ℕ) (one : 1 ≤ k) (t : ShownContent) (doc : Document) (stages : List Stage) (shows : ShowsUpTo (k - 1) t doc)
    (h : ShowsIntervals (k - 1) t doc stages) where
  abbrev Goes : SubOperation → Document × NamedElements → Type 0
  Goes o taken = ShowsIntervals k (after_changes t (told_local k doc o)) taken.0
      (stages ++ (record { stage = k; sub_operation = o; names = taken.1 } ∷ []))

  text-goes : (op : BaseOp) (taken : Document × NamedElements) → AreDistinct doc taken.0 → local_text doc k op ≡ Ok taken → Goes (OnText op) taken
  text-goes (Insert p seg props) taken d e =
      let xs = doc.text.items in
      let bs = segment_contents seg in
      let ps = apply [] props in
      let ys = put (seen (k - 1)) no_run p (new_elements 0 (Local k) [] None ps bs) xs in
      let next : Document = record doc { text = record doc.text { items = ys } } in
      let r = in-range p (len (seen (k - 1)) xs) next taken e in
      let u = after_changes t (unless_no_elements bs (Put p seg ps)) in
      let distinct : are_distinct_elements ys ≡ true = subst (λ (z : Document). are_distinct_elements z.text.items ≡ true) (sym r.1) d.after in
      subst (λ (z : Document). ShowsIntervals k u z (stages ++
      (record { stage = k; sub_operation = OnText (Insert p seg props); names = taken.1 } ∷ []))) r.1
      (advance k one xs ys (end_after_put p (length bs)) (insertion-moves k one xs shows.text d.before p ps bs r.0 distinct) doc next stages
      (OnText (Insert p seg props)) taken.1 t u
      refl refl refl refl (put-moved t p seg ps bs refl) h)
  text-goes (Remove p q) taken d e =
      let xs = doc.text.items in
      let ys = change_range (seen (k - 1)) p q (with_pending_removal k) xs in
      let next : Document = record doc { text = record doc.text { items = ys } } in
      let r = in-range q (len (seen (k - 1)) xs) next taken e in
      let runs = gone_runs (seen (k - 1)) (seen k) p q xs in
      let u = after_changes t (map taken_run runs) in
      subst (λ (z : Document). ShowsIntervals k u z (stages ++
      (record { stage = k; sub_operation = OnText (Remove p q); names = taken.1 } ∷ []))) r.1
      (advance k one xs ys (after_runs runs (shown_elements (k - 1) xs)) (removal-moves k one xs shows.text d.before p q) doc next stages
      (OnText (Remove p q)) taken.1 t u refl refl refl refl
      (taken-intervals t runs ∙ ap (λ es. map (with_moved_ends (after_runs runs es)) t.intervals) shows.lists.elements) h)
  text-goes (Annotate p q changes) taken d e =
      let xs = doc.text.items in
      let ys = change_range (seen (k - 1)) p q (with_pending_annotation k changes) xs in
      let next : Document = record doc { text = record doc.text { items = ys } } in
      let r = in-range q (len (seen (k - 1)) xs) next taken e in
      let runs = changed_runs same_props shown_properties (with_pending_annotation k changes) (seen (k - 1)) (seen k) p q xs in
      let u = after_changes t (map styled_run runs) in
      subst (λ (z : Document). ShowsIntervals k u z (stages ++
      (record { stage = k; sub_operation = OnText (Annotate p q changes); names = taken.1 } ∷ []))) r.1
      (advance k one xs ys (λ i. i) (annotation-moves k one xs shows.text d.before p q changes) doc next stages
      (OnText (Annotate p q changes)) taken.1 t u refl refl refl refl
      (styled-intervals t runs ∙ map-none t.intervals) h)

  -- where the text stays as it is
  idle-goes : (o : SubOperation) (names : NamedElements) (next : Document) (u : ShownContent) → are_distinct_elements doc.text.items ≡ true
      → changes_intervals o ≡ false
      → next.text.items ≡ doc.text.items → next.intervals ≡ doc.intervals → u.intervals ≡ t.intervals
      → ShowsIntervals k u next (stages ++ (record { stage = k; sub_operation = o; names = names } ∷ []))
  idle-goes o names next u d none text kept same =
      advance k one doc.text.items doc.text.items (λ i. i) (idle-moves k one doc.text.items shows.text d) doc next stages o names t u none refl
      text kept (same ∙ map-none t.intervals) h

  grid-goes : (op : CellOp) (taken : Document × NamedElements) → AreDistinct doc taken.0 → local_grid doc k op ≡ Ok taken → Goes (OnGrid op) taken
  grid-goes (SpliceIn target p count) taken d e =
      let r = in-range p (len (seen (k - 1)) (rows_or_cols target doc).items) _ taken e in
      let u = after_changes t (told_local_grid k doc (SpliceIn target p count)) in
      idle-goes (OnGrid (SpliceIn target p count)) taken.1 taken.0 u d.before refl (ap (λ (z : Document). z.text.items) (sym r.1) ∙ text target _)
      (ap (λ (z : Document). z.intervals) (sym r.1) ∙ kept target _) (shown (nat_eq count 0))
    where
      text : (target : Target) (list : Sequence) → (with_rows_or_cols target doc list).text.items ≡ doc.text.items
      text Rows list = refl
      text Cols list = refl

      kept : (target : Target) (list : Sequence) → (with_rows_or_cols target doc list).intervals ≡ doc.intervals
      kept Rows list = refl
      kept Cols list = refl

      shown : (b : Bool) → (after_changes t (cond b [] (PutUnits target p count ∷ []))).intervals ≡ t.intervals
      shown true = refl
      shown false = by target
        where
          by : (target : Target) → (after_changes t (PutUnits target p count ∷ [])).intervals ≡ t.intervals
          by Rows = refl
          by Cols = refl
  grid-goes (SpliceOut target p q) taken d e =
      let r = in-range q (len (seen (k - 1)) (rows_or_cols target doc).items) _ taken e in
      let runs = gone_runs (seen (k - 1)) (seen k) p q (rows_or_cols target doc).items in
      idle-goes (OnGrid (SpliceOut target p q)) taken.1 taken.0 (after_changes t (map (taken_units target) runs)) d.before refl
      (ap (λ (z : Document). z.text.items) (sym r.1) ∙ text target _) (ap (λ (z : Document). z.intervals) (sym r.1) ∙ kept target _)
      (units-intervals target t runs)
    where
      text : (target : Target) (list : Sequence) → (with_rows_or_cols target doc list).text.items ≡ doc.text.items
      text Rows list = refl
      text Cols list = refl

      kept : (target : Target) (list : Sequence) → (with_rows_or_cols target doc list).intervals ≡ doc.intervals
      kept Rows list = refl
      kept Cols list = refl
  grid-goes (Set i j value) taken d e = by (at (seen (k - 1)) i doc.rows.items) (at (seen (k - 1)) j doc.cols.items) e
    where
      by : (row col : Option ListElement) → local_set doc k row col ≡ Ok taken → Goes (OnGrid (Set i j value)) taken
      by (Some row) (Some col) f =
          let same : doc ≡ taken.0 = ap (λ (r : EditResult). elim r as (λ _. Document) [ Ok u ↦ u.0 | Err x ↦ doc ]) f in
          idle-goes (OnGrid (Set i j value)) taken.1 taken.0 t d.before refl (ap (λ (z : Document). z.text.items) (sym same))
          (ap (λ (z : Document). z.intervals) (sym same)) refl
      by (Some row) None f = absurd (cc)
      by None col f = absurd (cc)

  goes : (o : SubOperation) (taken : Document × NamedElements) → changes_intervals o ≡ false → AreDistinct doc taken.0
      → local_sub_operation doc stages k o ≡ Ok taken → Goes o taken
  goes (OnText op) taken none d e = text-goes op taken d e
  goes (OnIntervals op) taken none d e = absurd (cc)
  goes (OnGrid op) taken none d e = grid-goes op taken d e

-- ---- names are distinct before an edit where they are after it

distinct-before : (k : ℕ) (doc : Document) (stages : List Stage) (o : SubOperation) (taken : Document × NamedElements)
    → local_sub_operation doc stages k o ≡ Ok taken
    → changes_intervals o ≡ false → are_distinct_elements taken.0.text.items ≡ true → are_distinct_elements doc.text.items ≡ true
distinct-before k doc stages (OnText (Insert p seg props)) taken e none d =
    let xs = doc.text.items in
    let new = new_elements 0 (Local k) [] None (apply [] props) (segment_contents seg) in
    let r = in-range p (len (seen (k - 1)) xs) (record doc { text = record doc.text { items = put (seen (k - 1)) no_run p new xs } }) taken e in
    put-distinct (seen (k - 1)) new p xs (subst (λ (z : Document). are_distinct_elements z.text.items ≡ true) (sym r.1) d)
distinct-before k doc stages (OnText (Remove p q)) taken e none d =
    let xs = doc.text.items in
    let f = with_pending_removal k in
    let r = in-range q (len (seen (k - 1)) xs) (record doc { text = record doc.text { items = change_range (seen (k - 1)) p q f xs } }) taken e in
    sym (range-distinct f (λ x. refl) (seen (k - 1)) p q xs) ∙ subst (λ (z : Document). are_distinct_elements z.text.items ≡ true) (sym r.1) d
distinct-before k doc stages (OnText (Annotate p q changes)) taken e none d =
    let xs = doc.text.items in
    let f = with_pending_annotation k changes in
    let r = in-range q (len (seen (k - 1)) xs) (record doc { text = record doc.text { items = change_range (seen (k - 1)) p q f xs } }) taken e in
    sym (range-distinct f (λ x. refl) (seen (k - 1)) p q xs) ∙ subst (λ (z : Document). are_distinct_elements z.text.items ≡ true) (sym r.1) d
distinct-before k doc stages (OnIntervals op) taken e none d = absurd (cc)
distinct-before k doc stages (OnGrid (SpliceIn target p count)) taken e none d =
    let r = in-range p (len (seen (k - 1)) (rows_or_cols target doc).items) _ taken e in
    subst (λ xs. are_distinct_elements xs ≡ true) (ap (λ (z : Document). z.text.items) (sym r.1) ∙ text target _) d
  where
    text : (target : Target) (list : Sequence) → (with_rows_or_cols target doc list).text.items ≡ doc.text.items
    text Rows list = refl
    text Cols list = refl
distinct-before k doc stages (OnGrid (SpliceOut target p q)) taken e none d =
    let r = in-range q (len (seen (k - 1)) (rows_or_cols target doc).items) _ taken e in
    subst (λ xs. are_distinct_elements xs ≡ true) (ap (λ (z : Document). z.text.items) (sym r.1) ∙ text target _) d
  where
    text : (target : Target) (list : Sequence) → (with_rows_or_cols target doc list).text.items ≡ doc.text.items
    text Rows list = refl
    text Cols list = refl
distinct-before k doc stages (OnGrid (Set i j value)) taken e none d = by (at (seen (k - 1)) i doc.rows.items) (at (seen (k - 1)) j doc.cols.items) e
  where
    by : (row col : Option ListElement) → local_set doc k row col ≡ Ok taken → are_distinct_elements doc.text.items ≡ true
    by (Some row) (Some col) f =
        let same : doc ≡ taken.0 = ap (λ (r : EditResult). elim r as (λ _. Document) [ Ok u ↦ u.0 | Err x ↦ doc ]) f in
        subst (λ (z : Document). are_distinct_elements z.text.items ≡ true) (sym same) d
    by (Some row) None f = absurd (cc)
    by None col f = absurd (cc)

-- ---- all sub-operations

-- what holds after the last of them, which made these stages
pub record Leads (k : ℕ) (t : ShownContent) (doc : Document) (stages : List Stage) : Type 0 where
  pub shows : ShowsUpTo k t doc
  pub intervals : ShowsIntervals k t doc stages

abbrev Distinct : Document → Type 0
Distinct doc = are_distinct_elements doc.text.items ≡ true

-- names were distinct before all of them
all-before : (k : ℕ) (os : List SubOperation) (doc : Document) (stages : List Stage) (done : Document × List Stage)
    → list_any changes_intervals os ≡ false
    → local_sub_operations doc stages k os ≡ Ok done → Distinct done.0 → Distinct doc
all-before k [] doc stages done none e d =
    let same : doc ≡ done.0 = ap (λ (r : Made). elim r as (λ _. Document) [ Ok u ↦ u.0 | Err f ↦ doc ]) e in subst Distinct (sym same) d
all-before k (o ∷ os) doc stages done none e d =
    by (local_sub_operation doc stages k o) refl e (λ taken rest made. all-before (k + 1) os taken.0
    (stages ++ (record { stage = k; sub_operation = o; names = taken.1 } ∷ [])) rest
    (neither (changes_intervals o) (list_any changes_intervals os) none).1 made)
  where
    by : (r : EditResult) → local_sub_operation doc stages k o ≡ r
        → elim r as (λ _. Made) [
          | Err fault ↦ Err fault
          | Ok taken ↦ with_front (record { stage = k; sub_operation = o; names = taken.1 })
              (local_sub_operations taken.0 (stages ++ (record { stage = k; sub_operation = o; names = taken.1 } ∷ [])) (k + 1) os)
        ]
        ≡ Ok done
        → ((taken : Document × NamedElements) (rest : Document × List Stage)
        → local_sub_operations taken.0 (stages ++ (record { stage = k; sub_operation = o; names = taken.1 } ∷ [])) (k + 1) os ≡ Ok rest
        → Distinct rest.0 → Distinct taken.0)
        → Distinct doc
    by (Err fault) s f next = absurd (cc)
    by (Ok taken) s f next =
        let here : Stage = record { stage = k; sub_operation = o; names = taken.1 } in
        let parts = front-parts here (local_sub_operations taken.0 (stages ++ (here ∷ [])) (k + 1) os) done f in
        let last : Distinct parts.0.0 = subst (λ (z : Document × List Stage). Distinct z.0) parts.2 d in
        distinct-before k doc stages o taken s (neither (changes_intervals o) (list_any changes_intervals os) none).0
        (next taken parts.0 parts.1 last)

pub all-lead : (k : ℕ) (os : List SubOperation) (t : ShownContent) (doc : Document) (stages : List Stage) (done : Document × List Stage) → 1 ≤ k
    → list_any changes_intervals os ≡ false → Leads (k - 1) t doc stages → Distinct done.0
    → local_sub_operations doc stages k os ≡ Ok done → Leads (k - 1 + length done.1) (after_changes t (told_locals doc stages k os)) done.0
    (stages ++ done.1)
all-lead k [] t doc stages done one none h d e =
    let parts : (doc, []) ≡ done = ap (λ (r : Made). elim r as (λ _. Document × List Stage) [ Ok u ↦ u | Err f ↦ (doc, []) ]) e in
    let same : k - 1 ≡ k - 1 + 0 = omega arith in
    subst (λ (u : Document × List Stage). Leads (k - 1 + length u.1) t u.0 (stages ++ u.1)) parts
    (subst (λ i. Leads i t doc (stages ++ [])) same (subst (Leads (k - 1) t doc) (sym (append-nil stages)) h))
all-lead k (o ∷ os) t doc stages done one none h d e =
    by (local_sub_operation doc stages k o) refl e
    (λ taken now made rest distinct. all-lead (k + 1) os (after_changes t (told_local k doc o)) taken.0 (stages ++ (here taken ∷ [])) made
    (omega arith) kinds.1 now distinct rest)
  where
    here : Document × NamedElements → Stage
    here taken = record { stage = k; sub_operation = o; names = taken.1 }

    kinds : (changes_intervals o ≡ false) × (list_any changes_intervals os ≡ false)
    kinds = neither (changes_intervals o) (list_any changes_intervals os) none

    by : (r : EditResult) → local_sub_operation doc stages k o ≡ r
        → elim r as (λ _. Made) [
          | Err fault ↦ Err fault
          | Ok taken ↦ with_front (record { stage = k; sub_operation = o; names = taken.1 })
              (local_sub_operations taken.0 (stages ++ (record { stage = k; sub_operation = o; names = taken.1 } ∷ [])) (k + 1) os)
        ]
        ≡ Ok done
        → ((taken : Document × NamedElements) → Leads (k + 1 - 1) (after_changes t (told_local k doc o)) taken.0 (stages ++ (here taken ∷ [])) →
        (made : Document × List Stage)
        → local_sub_operations taken.0 (stages ++ (here taken ∷ [])) (k + 1) os ≡ Ok made → Distinct made.0
        → Leads (k + 1 - 1 + length made.1) (after_changes (after_changes t (told_local k doc o))
        (told_locals taken.0 (stages ++ (here taken ∷ [])) (k + 1) os)) made.0
        ((stages ++ (here taken ∷ [])) ++ made.1))
        → Leads (k - 1 + length done.1)
        (after_changes t (elim r as (λ _. List ViewChange) [
          | Err fault ↦ []
          | Ok taken ↦ told_local k doc o ++ told_locals taken.0
              (stages ++ (record { stage = k; sub_operation = o; names = taken.1 } ∷ [])) (k + 1) os
        ]))
        done.0 (stages ++ done.1)
    by (Err fault) s f next = absurd (cc)
    by (Ok taken) s f next =
        let parts = front-parts (here taken) (local_sub_operations taken.0 (stages ++ (here taken ∷ [])) (k + 1) os) done f in
        let rest = parts.0 in
        let last : Distinct rest.0 = subst (λ (z : Document × List Stage). Distinct z.0) parts.2 d in
        let middle : Distinct taken.0 = all-before (k + 1) os taken.0 (stages ++ (here taken ∷ [])) rest kinds.1 parts.1 last in
        let first : Distinct doc = distinct-before k doc stages o taken s kinds.0 middle in
        let u = after_changes t (told_local k doc o) in
        let now : Leads k u taken.0 (stages ++ (here taken ∷ [])) =
        record {
          shows = step k t doc stages o taken h.shows s;
          intervals = goes k one t doc stages h.shows h.intervals o taken kinds.0 (record { before = first; after = middle }) s;
        } in
        let same : k ≡ k + 1 - 1 = omega arith in
        let after = next taken (subst (λ i. Leads i u taken.0 (stages ++ (here taken ∷ []))) same now) rest parts.1 last in
        let stage : k + 1 - 1 + length rest.1 ≡ k - 1 + suc (length rest.1) = omega arith in
        let later = told_locals taken.0 (stages ++ (here taken ∷ [])) (k + 1) os in
        let all = stages ++ (here taken ∷ rest.1) in
        subst (λ (z : Document × List Stage). Leads (k - 1 + length z.1) (after_changes t (told_local k doc o ++ later)) z.0 (stages ++ z.1))
        (sym parts.2)
        (subst (λ z. Leads (k - 1 + suc (length rest.1)) z rest.0 all) (sym (after-append t (told_local k doc o) later))
        (subst (λ i. Leads i (after_changes u later) rest.0 all) stage
        (subst (Leads (k + 1 - 1 + length rest.1) (after_changes u later) rest.0) (append_assoc stages (here taken ∷ []) rest.1) after)))
