-- Of intervals an edit of the client's own tells only those that it adds, changes or deletes.
use Rattle.std.proofs.Common.{◌≡◌, ℕ, ◌+◌, ◌-◌, ◌≤◌, Bool, true, false, cond, not, ◌&&◌, ◌||◌, List, [], ◌∷◌, ◌++◌, Option, Some, None, Ok, Err, refl, sym, ◌∙◌, ap, subst, arith, filter, length, map}
use Rattle.std.specs.List.{list_all, list_any}
use Rattle.std.specs.Ordering.{is_eq, ordering_then}
use Rattle.std.specs.declared.cmp.Ordering.{Ordering}
use Rattle.std.specs.declared.cmp.Ordering.TheVariants.{Less, Equal, Greater}
use Rattle.ft_base.proofs.Booleans.{both}
use Rattle.ft_base.specs.Scan.{len}
use Rattle.ft_props.specs.Element.{ListElement, seen}
use Rattle.ft_props.specs.Keys.{Characters, put_rising, text_cmp}
use Rattle.ft_props.proofs.RisingKeys.{text_cmp-same}
use Rattle.ft_op.specs.declared.operations.BaseOp.{BaseOp}
use Rattle.ft_op.specs.declared.operations.CellOp.{CellOp}
use Rattle.ft_op.specs.declared.operations.ChannelOp.{ChannelOp}
use Rattle.ft_op.specs.declared.operations.ChannelOp.TheVariants.{Grid, Text}
use Rattle.ft_op.specs.declared.operations.Ends.{Ends}
use Rattle.ft_op.specs.declared.operations.GridOp.TheVariants as grid
use Rattle.ft_op.specs.declared.operations.TextOp.{TextOp}
use Rattle.ft_op.specs.declared.operations.TextOp.TheVariants.{Group, IntervalAdd, IntervalChange, IntervalDelete, One}
use Rattle.ft_op.specs.Document.{Document, elements_at_given_ends, ends_of, given_ends_fit}
use Rattle.ft_op.specs.Intervals.{Interval, NamedElements, after_interval_operation, has_interval, interval_cmp, is_interval, settle_elements, settle_ends, with_changed_interval, with_ends}
use Rattle.ft_op.specs.Operation.{OnGrid, OnIntervals, OnText, SubOperation, sub_operations}
use Rattle.ft_op.specs.Stages.{Stage, shown_intervals}
use Rattle.ft_props.specs.Properties.{apply}
use Rattle.ft_sumdoc.specs.declared.summary.IntervalRec.{IntervalRec}
use Rattle.ft_msg.specs.declared.faults.EditFault.{EditFault}
use Rattle.ft_msg.specs.declared.faults.EditFault.TheVariants.{OutOfRange}
use Rattle.ft_msg.specs.Client.{EditResult, NaiveClient, id_fault, local_edit, local_interval, local_sub_operations, stages_of, unless_fault}
use Rattle.ft_msg.specs.Content.{interval_record}
use Rattle.ft_laws_agreement.specs.Sequencing.{IsReady}
use Rattle.ft_laws_agreement.proofs.SettledEnds.{ends-stay, has_ends_at, is_end_at}
use Rattle.ft_laws_agreement.proofs.SideBySide.{ready-orderly}
use Rattle.ft_changes.specs.declared.changes.ViewChange.{ViewChange}
use Rattle.ft_changes.specs.Beside.{is_changed_by}
use Rattle.ft_changes.specs.Laws.{after_edit_lists, changes_intervals}
use Rattle.ft_changes.specs.Shown.{after_changes, shown_content}
use Rattle.ft_changes.specs.Told.{told_edit_lists, told_intervals, told_locals}
use Rattle.ft_changes.proofs.EditsQuiet.{before-edit, edit-moves, took}
use Rattle.ft_changes.proofs.FilteredIntervals.{intervals-filtered, same-place}
use Rattle.ft_changes.proofs.LocalEnds.{end-later, number-later}
use Rattle.ft_changes.proofs.LocalIntervals.{shown-append}
use Rattle.ft_changes.proofs.LocalLaw.{Made}
use Rattle.ft_changes.proofs.LocalSteps.{is_up_to}
use Rattle.ft_changes.proofs.NothingTold.{intervals-same-none}
use Rattle.ft_changes.proofs.OrderedIntervals.{content-rises}
use Rattle.ft_changes.proofs.Rising.{changes-rise}
use Rattle.ft_changes.proofs.ToldItems.{Rise}

-- ---- an operation of intervals stands alone

no-text : (ops : List BaseOp) → list_any changes_intervals (map (λ op. OnText op) ops) ≡ false
no-text [] = refl
no-text (op ∷ ops) = no-text ops

no-cell : (ops : List CellOp) → list_any changes_intervals (map (λ op. OnGrid op) ops) ≡ false
no-cell [] = refl
no-cell (op ∷ ops) = no-cell ops

abbrev IsAlone : List SubOperation → Type 0
IsAlone os = (op : TextOp) × (os ≡ OnIntervals op ∷ [])

alone : (op : ChannelOp) → list_any changes_intervals (sub_operations op) ≡ true → IsAlone (sub_operations op)
alone (Text (One op)) h = absurd (cc)
alone (Text (Group ops)) h = let none = no-text ops in absurd (cc)
alone (Text (IntervalAdd label id ends props)) h = (IntervalAdd label id ends props, refl)
alone (Text (IntervalChange label id ends props)) h = (IntervalChange label id ends props, refl)
alone (Text (IntervalDelete label id)) h = (IntervalDelete label id, refl)
alone (Grid (grid.One op)) h = absurd (cc)
alone (Grid (grid.Group ops)) h = let none = no-cell ops in absurd (cc)

-- ---- what it leaves as it is

-- a test that those of the name don't pass
abbrev PassesOver : (Interval → Bool) → Characters → Characters → Type 0
PassesOver keep label id = (i : Interval) → is_interval label id i ≡ true → keep i ≡ false

named-equal : (o p : Ordering) → ordering_then o p ≡ Equal → is_eq o && is_eq p ≡ true
named-equal Less p h = absurd (cc)
named-equal Equal Less h = absurd (cc)
named-equal Equal Equal h = refl
named-equal Equal Greater h = absurd (cc)
named-equal Greater p h = absurd (cc)

module _ (keep : Interval → Bool) where
  passed-over : (x : Interval) (xs ys : List Interval) → keep x ≡ false → filter keep xs ≡ ys → filter keep (x ∷ xs) ≡ ys
  passed-over x xs ys e h = ap (λ b. cond b (x ∷ filter keep xs) (filter keep xs)) e ∙ h

  put-over : (x : Interval) → PassesOver keep x.label x.id → keep x ≡ false → (is : List Interval) → filter keep (put_rising interval_cmp x is)
      ≡ filter keep is
  put-over x over none [] = passed-over x [] [] none refl
  put-over x over none (i ∷ is) = by (interval_cmp x i) refl (put-over x over none is)
    where
      by : (o : Ordering) → interval_cmp x i ≡ o → filter keep (put_rising interval_cmp x is) ≡ filter keep is
          → filter keep (elim o as (λ _. List Interval) [ Less ↦ x ∷ i ∷ is | Equal ↦ x ∷ is | Greater ↦ i ∷ put_rising interval_cmp x is ])
          ≡ filter keep (i ∷ is)
      by Less e ih = passed-over x (i ∷ is) (filter keep (i ∷ is)) none refl
      by Equal e ih =
          passed-over x is (filter keep is) none refl
          ∙ sym (passed-over i is (filter keep is) (over i (named-equal (text_cmp x.label i.label) (text_cmp x.id i.id) e)) refl)
      by Greater e ih = ap (λ js. cond (keep i) (i ∷ js) js) ih

  changed-over : (label id : Characters) (f : Interval → Interval) → PassesOver keep label id
      → ((i : Interval) → is_interval label id i ≡ true → keep (f i) ≡ false) → (is : List Interval)
      → filter keep (with_changed_interval label id f is) ≡ filter keep is
  changed-over label id f over changed [] = refl
  changed-over label id f over changed (i ∷ is) = by (is_interval label id i) refl (changed-over label id f over changed is)
    where
      by : (b : Bool) → is_interval label id i ≡ b → filter keep (with_changed_interval label id f is) ≡ filter keep is
          → filter keep (cond b (f i) i ∷ with_changed_interval label id f is) ≡ filter keep (i ∷ is)
      by true e ih =
          passed-over (f i) (with_changed_interval label id f is) (filter keep is) (changed i e) ih
          ∙ sym (passed-over i is (filter keep is) (over i e) refl)
      by false e ih = ap (λ js. cond (keep i) (i ∷ js) js) ih

  deleted-over : (label id : Characters) → PassesOver keep label id → (is : List Interval)
      → filter keep (filter (λ i. not (is_interval label id i)) is) ≡ filter keep is
  deleted-over label id over [] = refl
  deleted-over label id over (i ∷ is) = by (is_interval label id i) refl (deleted-over label id over is)
    where
      rest : List Interval
      rest = filter (λ i. not (is_interval label id i)) is

      by : (b : Bool) → is_interval label id i ≡ b → filter keep rest ≡ filter keep is → filter keep (cond (not b) (i ∷ rest) rest)
          ≡ filter keep (i ∷ is)
      by true e ih = ih ∙ sym (passed-over i is (filter keep is) (over i e) refl)
      by false e ih = ap (λ js. cond (keep i) (i ∷ js) js) ih

unnamed : (b : Bool) → b ≡ true → not (b || false) ≡ false
unnamed true e = refl
unnamed false e = absurd (cc)

module _ (k : ℕ) (xs : List ListElement) where
  -- whether the operation isn't on the interval
  abbrev is_left : TextOp → Interval → Bool
  is_left op i = not (is_changed_by (OnIntervals op ∷ []) (interval_record k xs i))

  own-name : (label id : Characters) → is_eq (text_cmp label label) && is_eq (text_cmp id id) ≡ true
  own-name label id = rw (text_cmp-same label, text_cmp-same id) refl

  kept-name : (label id : Characters) (ends : Option Ends) (at : NamedElements) (i : Interval) → is_interval label id (with_ends ends at i)
      ≡ is_interval label id i
  kept-name label id None at i = refl
  kept-name label id (Some e) at i = refl

  pub operation-leaves : (op : TextOp) (at : NamedElements) (is : List Interval) → filter (is_left op) (after_interval_operation op at is)
      ≡ filter (is_left op) is
  operation-leaves (One op) at is = refl
  operation-leaves (Group ops) at is = refl
  operation-leaves (IntervalAdd label id ends props) at is = by (has_interval label id is)
    where
      new : Interval
      new = record { label = label; id = id; start = at.first; end = at.second; props = apply [] props }

      by : (b : Bool) → filter (is_left (IntervalAdd label id ends props)) (cond b is (put_rising interval_cmp new is))
          ≡ filter (is_left (IntervalAdd label id ends props)) is
      by true = refl
      by false = put-over (is_left (IntervalAdd label id ends props)) new (λ i e. unnamed (is_interval label id i) e)
          (unnamed (is_eq (text_cmp label label) && is_eq (text_cmp id id)) (own-name label id)) is
  operation-leaves (IntervalChange label id ends props) at is =
      changed-over (is_left (IntervalChange label id ends props)) label id (λ i. let j = with_ends ends at i in record j { props = apply j.props props })
      (λ i e. unnamed (is_interval label id i) e)
      (λ i e. unnamed (is_interval label id (with_ends ends at i)) (kept-name label id ends at i ∙ e)) is
  operation-leaves (IntervalDelete label id) at is =
      deleted-over (is_left (IntervalDelete label id)) label id (λ i e. unnamed (is_interval label id i) e) is

-- ---- one stage later

module _ (j k : ℕ) (low : j ≤ k) (xs : List ListElement) (up : list_all (is_up_to j) xs ≡ true) where
  records-later : (is : List Interval) → map (interval_record k xs) is ≡ map (interval_record j xs) is
  records-later [] = refl
  records-later (i ∷ is) = rw (number-later j k low xs up i.start, number-later j k low xs up i.end, records-later is) refl

  ends-later : (is : List Interval) → list_all (has_ends_at j xs) is ≡ true → list_all (has_ends_at k xs) is ≡ true
  ends-later [] h = refl
  ends-later (i ∷ is) h =
      let p = both (has_ends_at j xs i) (list_all (has_ends_at j xs) is) h in
      let q = both (is_end_at j xs i.start) (is_end_at j xs i.end) p.0 in
      rw (end-later j k low xs up i.start q.0, end-later j k low xs up i.end q.1, ends-later is p.1) refl

records-filtered : (k : ℕ) (xs : List ListElement) (test : IntervalRec → Bool) (is : List Interval)
    → filter test (map (interval_record k xs) is) ≡ map (interval_record k xs) (filter (λ i. test (interval_record k xs i)) is)
records-filtered k xs test [] = refl
records-filtered k xs test (i ∷ is) = by (test (interval_record k xs i)) (records-filtered k xs test is)
  where
    by : (b : Bool) → filter test (map (interval_record k xs) is) ≡ map (interval_record k xs) (filter (λ i. test (interval_record k xs i)) is)
        → cond b (interval_record k xs i ∷ filter test (map (interval_record k xs) is)) (filter test (map (interval_record k xs) is))
        ≡ map (interval_record k xs) (cond b (i ∷ filter (λ i. test (interval_record k xs i)) is) (filter (λ i. test (interval_record k xs i)) is))
    by true e = ap (λ js. interval_record k xs i ∷ js) e
    by false e = e

-- ---- an edit of one operation on intervals

-- it leaves the document, and its stage comes behind the others
record Adds (doc next : Document) (made : List Stage) (k : ℕ) (op : TextOp) : Type 0 where
  pub doc_is : next ≡ doc
  pub names : NamedElements
  pub stages_are : made ≡ record { stage = k; sub_operation = OnIntervals op; names = names } ∷ []

kept-doc : (doc : Document) (fault : Option EditFault) (b : Bool) (names : NamedElements) (n : ℕ) (taken : Document × NamedElements)
    → unless_fault fault (cond b (Ok (doc, names)) (Err (OutOfRange n))) ≡ Ok taken → taken.0 ≡ doc
kept-doc doc (Some fault) b names n taken e = absurd (cc)
kept-doc doc None true names n taken e = sym (ap (λ (r : EditResult). elim r as (λ _. Document) [ Ok u ↦ u.0 | Err f ↦ doc ]) e)
kept-doc doc None false names n taken e = absurd (cc)

adds : (doc : Document) (stages : List Stage) (k : ℕ) (op : TextOp) (done : Document × List Stage)
    → local_sub_operations doc stages k (OnIntervals op ∷ []) ≡ Ok done → Adds doc done.0 done.1 k op
adds doc stages k op done e = by (local_interval doc stages k op) refl e
  where
    by : (r : EditResult) → local_interval doc stages k op ≡ r
        → elim r as (λ _. Made) [
          | Err fault ↦ Err fault
          | Ok taken ↦ Ok (taken.0, record { stage = k; sub_operation = OnIntervals op; names = taken.1 } ∷ [])
        ]
        ≡ Ok done
        → Adds doc done.0 done.1 k op
    by (Err fault) s f = absurd (cc)
    by (Ok taken) s f =
        let parts : (taken.0, record { stage = k; sub_operation = OnIntervals op; names = taken.1 } ∷ []) ≡ done =
        ap (λ (r : Made). elim r as (λ _. Document × List Stage) [ Ok u ↦ u | Err x ↦ done ]) f in
        let kept : taken.0 ≡ doc =
        kept-doc doc (id_fault (shown_intervals doc.text.items doc.intervals stages) op) (given_ends_fit (len (seen (k - 1)) doc.text.items) (ends_of op))
        (elements_at_given_ends (seen (k - 1)) doc.text.items (ends_of op)) (len (seen (k - 1)) doc.text.items) taken s in
        record {
          doc_is = ap (λ (d : Document × List Stage). d.0) (sym parts) ∙ kept;
          names = taken.1;
          stages_are = ap (λ (d : Document × List Stage). d.1) (sym parts);
        }

-- the lists don't change
no-lists : (doc : Document) (stages : List Stage) (k : ℕ) (op : TextOp) → told_locals doc stages k (OnIntervals op ∷ []) ≡ []
no-lists doc stages k op = by (local_interval doc stages k op)
  where
    by : (r : EditResult) → elim r as (λ _. List ViewChange) [ Err fault ↦ [] | Ok taken ↦ [] ] ≡ []
    by (Err fault) = refl
    by (Ok taken) = refl

module _ (x y : NaiveClient) (op : ChannelOp) (ready : IsReady x) (rise : Rise interval_cmp x.doc.intervals) (e : local_edit x op ≡ Ok y) where
  abbrev test : IntervalRec → Bool
  test = is_changed_by (sub_operations op)

  abbrev others : List IntervalRec → List IntervalRec
  others is = filter (λ i. not (test i)) is

  -- what an operation of intervals adds
  added : (own : TextOp) → sub_operations op ≡ OnIntervals own ∷ [] → Adds x.doc (took x y op e).doc (took x y op e).stages (x.last_stage + 1) own
  added own is =
      let t = took x y op e in
      adds x.doc (stages_of x) (x.last_stage + 1) own (t.doc, t.stages)
      (subst (λ os. local_sub_operations x.doc (stages_of x) (x.last_stage + 1) os ≡ Ok (t.doc, t.stages)) is t.made)

  rise-after : (own : TextOp) → sub_operations op ≡ OnIntervals own ∷ [] → Rise interval_cmp y.doc.intervals
  rise-after own is =
      subst (λ (doc : Document). Rise interval_cmp doc.intervals) (sym ((took x y op e).doc_is ∙ (added own is).doc_is)) rise

  -- the others are shown as before
  alone-leaves : (own : TextOp) → sub_operations op ≡ OnIntervals own ∷ [] → others (after_edit_lists x op).intervals
      ≡ others (shown_content y).intervals
  alone-leaves own is =
      let t = took x y op e in
      let j = x.last_stage in
      let k = j + 1 in
      let xs = x.doc.text.items in
      let stages = stages_of x in
      let a = added own is in
      let was = shown_intervals xs x.doc.intervals stages in
      let at = settle_elements xs k a.names in
      let low : j ≤ k = omega arith in
      let start = before-edit x ready rise in
      let stay : settle_ends xs k was ≡ was =
      ends-stay k xs (ready-orderly x ready).text.distinct was (ends-later j k low xs start.shows.text was start.intervals.ends) in
      let here : Stage = record { stage = k; sub_operation = OnIntervals own; names = a.names } in
      let all : shown_intervals xs x.doc.intervals (stages ++ here ∷ []) ≡ after_interval_operation own at was =
      shown-append xs x.doc.intervals stages (here ∷ []) ∙ ap (after_interval_operation own at) stay in
      let shown : ℕ → Document → List Stage → List IntervalRec =
      λ n doc ts. map (interval_record n doc.text.items) (shown_intervals doc.text.items doc.intervals ts) in
      let keep : IntervalRec → Bool = λ i. not (is_changed_by (OnIntervals own ∷ []) i) in
      let next : y.last_stage ≡ k = t.last ∙ ap (λ (ts : List Stage). j + length ts) a.stages_are in
      let last : (shown_content y).intervals ≡ map (interval_record k xs) (after_interval_operation own at was) =
      ap (λ n. shown n y.doc (stages_of y)) next
      ∙ ap (λ doc. shown k doc (stages_of y)) (t.doc_is ∙ a.doc_is)
      ∙ ap (shown k x.doc) (t.all ∙ ap (λ ts. stages ++ ts) a.stages_are)
      ∙ ap (map (interval_record k xs)) all in
      let lists : (after_edit_lists x op).intervals ≡ map (interval_record j xs) was =
      ap (λ cs. (after_changes (shown_content x) cs).intervals)
      (ap (told_locals x.doc stages k) is ∙ no-lists x.doc stages k own) in
      ap others lists
      ∙ ap (λ os. filter (λ i. not (is_changed_by os i)) (map (interval_record j xs) was)) is
      ∙ ap (filter keep) (sym (records-later j k low xs start.shows.text was))
      ∙ records-filtered k xs keep was
      ∙ ap (map (interval_record k xs)) (sym (operation-leaves k xs own at was))
      ∙ sym (records-filtered k xs keep (after_interval_operation own at was))
      ∙ ap (filter keep) (sym last)
      ∙ ap (λ os. filter (λ i. not (is_changed_by os i)) (shown_content y).intervals) (sym is)

  pub edit-tells-its-intervals : IsReady y → told_intervals (after_edit_lists x op).intervals (shown_content y).intervals
      ≡ told_intervals (filter test (after_edit_lists x op).intervals) (filter test (shown_content y).intervals)
  edit-tells-its-intervals after = by (list_any changes_intervals (sub_operations op)) refl
    where
      before : List IntervalRec
      before = (after_edit_lists x op).intervals

      by : (b : Bool) → list_any changes_intervals (sub_operations op) ≡ b → told_intervals before (shown_content y).intervals
          ≡ told_intervals (filter test before) (filter test (shown_content y).intervals)
      by true h =
          let own = alone op h in
          intervals-filtered test (same-place (sub_operations op)) before (shown_content y).intervals
          (changes-rise (shown_content x) (told_edit_lists x op) (content-rises x rise)).intervals (content-rises y (rise-after own.0 own.1)).intervals
          (alone-leaves own.0 own.1)
      by false h =
          let same : before ≡ (shown_content y).intervals = edit-moves x y op ready after rise e h in
          ap (λ is. told_intervals is (shown_content y).intervals) same ∙ intervals-same-none (shown_content y).intervals
          ∙ sym (ap (λ is. told_intervals (filter test is) (filter test (shown_content y).intervals)) same
          ∙ intervals-same-none (filter test (shown_content y).intervals))
