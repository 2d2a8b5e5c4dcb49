-- An edit of the client's own moves the intervals as it moves the lists where it has no operation of theirs, and tells no cell where none of its
-- operations is on the table.
use Rattle.std.proofs.Common.{◌≡◌, ℕ, ◌+◌, ◌-◌, ◌≤◌, Bool, true, false, cond, not, ◌&&◌, ◌||◌, List, [], ◌∷◌, ◌++◌, Option, Some, None, Result, Ok, Err, append_assoc, append-nil, refl, sym, ◌∙◌, ap, subst, arith, filter, flat_map, length, map}
use Rattle.std.specs.List.{list_all, list_any}
use Rattle.ft_base.proofs.Booleans.{both}
use Rattle.ft_base.specs.Scan.{len}
use Rattle.ft_props.specs.Element.{ElementId, ListElement, id, is_unremoved, seen, with_pending_annotation}
use Rattle.ft_props.specs.Properties.{ValueBytes, apply}
use Rattle.ft_props.specs.Steps.{Sequence}
use Rattle.ft_op.specs.declared.operations.BaseOp.TheVariants.{Annotate, Insert, Remove}
use Rattle.ft_op.specs.declared.operations.ChannelOp.{ChannelOp}
use Rattle.ft_op.specs.Cells.{Cell, cell_value}
use Rattle.ft_op.specs.Document.{Document, elements_at_given_ends, ends_of, given_ends_fit}
use Rattle.ft_op.specs.Intervals.{NamedElements, interval_cmp}
use Rattle.ft_op.specs.Operation.{OnGrid, OnIntervals, OnText, SubOperation, segment_contents, sub_operations}
use Rattle.ft_op.specs.Stages.{Stage, shown_intervals}
use Rattle.ft_sumdoc.specs.declared.summary.CellRec.{CellRec}
use Rattle.ft_sumdoc.specs.declared.summary.IntervalRec.{IntervalRec}
use Rattle.ft_sumdoc.specs.WellFormed.{same_props}
use Rattle.ft_msg.specs.declared.faults.EditFault.{EditFault}
use Rattle.ft_msg.specs.declared.faults.EditFault.TheVariants.{OutOfRange}
use Rattle.ft_msg.specs.Client.{EditResult, NaiveClient, PendingEdit, SentAs, after_edit, id_fault, local_edit, local_sub_operation, local_sub_operations, sent_as, stages_of, unless_fault, with_draft}
use Rattle.ft_msg.specs.Content.{all_cells, cell_after_stage, cell_record, interval_record, row_cells, shown_cell_value}
use Rattle.ft_laws_agreement.specs.Reconnecting.{has_marks_of, inserts_text, removes_text}
use Rattle.ft_laws_agreement.specs.Sequencing.{Each, IsReady, IsTyped, are_ends_in}
use Rattle.ft_laws_agreement.specs.Trimming.{are_distinct_elements, has_ends_on, is_end_on}
use Rattle.ft_laws_agreement.proofs.AfterOwnJoin.{unremoved-seen}
use Rattle.ft_laws_agreement.proofs.CompactedScans.{is_held_end}
use Rattle.ft_laws_agreement.proofs.OwnNames.{all-weaker}
use Rattle.ft_laws_agreement.proofs.SettledEnds.{SameViews, has_ends_at, is_end_at, is_left, left-first, named-weaker, shown-at}
use Rattle.ft_laws_agreement.proofs.SideBySide.{ready-orderly}
use Rattle.ft_laws_agreement.proofs.TrimmedDocument.{has_held_ends}
use Rattle.ft_changes.specs.declared.changes.ViewChange.{ViewChange}
use Rattle.ft_changes.specs.declared.changes.ViewChange.TheVariants.{Put}
use Rattle.ft_changes.specs.Laws.{after_edit_lists, changes_intervals, changes_table}
use Rattle.ft_changes.specs.Shown.{ShownContent, after_changes, shown_content, shown_properties}
use Rattle.ft_changes.specs.ShownRuns.{changed_runs, gone_runs}
use Rattle.ft_changes.specs.Told.{told_cells, told_local, told_locals}
use Rattle.ft_changes.proofs.AckedLists.{neither}
use Rattle.ft_changes.proofs.CellsLead.{styled-cells, taken-cells, text-cells}
use Rattle.ft_changes.proofs.ForeignSteps.{after-append}
use Rattle.ft_changes.proofs.LocalEnds.{is_known, named-known}
use Rattle.ft_changes.proofs.LocalIntervals.{AreNamesKnown, AreStagesKnown, Leads, all-lead}
use Rattle.ft_changes.proofs.LocalLaw.{IsEdited, Made, client-shows, drafted, front-parts, in-range, with_front}
use Rattle.ft_changes.proofs.LocalSteps.{is_up_to, seen-later}
use Rattle.ft_changes.proofs.NothingTold.{cells-same-none}
use Rattle.ft_changes.proofs.ToldItems.{Rise}

-- ---- the client before the edit

same-views : (m : ℕ) (xs : List ListElement) → SameViews m xs xs
same-views m xs = record { view = λ k l. refl; next = λ k l. refl; all = λ P h q. q }

first-end : (x : NaiveClient) → IsReady x → (o : Option ElementId) → is_end_on x.doc.text.items o ≡ true → is_end_at 0 x.doc.text.items o ≡ true
first-end x ready None e = refl
first-end x ready (Some a) e =
    named-weaker is_unremoved (seen 0) a x.doc.text.items
    (all-weaker (has_marks_of inserts_text removes_text (stages_of x)) (λ e. not (is_unremoved e) || seen 0 e)
    (unremoved-seen inserts_text removes_text (stages_of x) x.last_stage ready.stages x.doc.text ready.text.place) x.doc.text.items
    ready.text.place.marks) e

known-end : (x : NaiveClient) (o : Option ElementId) → is_end_on x.doc.text.items o ≡ true → is_held_end (is_known x.doc.text.items) o ≡ true
known-end x None e = refl
known-end x (Some a) e = named-known is_unremoved a x.doc.text.items e

known-names : (doc : Document) (k : ℕ) (names : NamedElements) (o : SubOperation) → IsTyped k doc names o → AreNamesKnown doc.text.items names o
known-names doc k names (OnText op) h = tt
known-names doc k names (OnGrid op) h = tt
known-names doc k names (OnIntervals op) h = by names.first names.second h
  where
    by : (a b : Option ElementId) → are_ends_in doc.text.items a b ≡ true → is_held_end (is_known doc.text.items) a && is_held_end
        (is_known doc.text.items) b ≡ true
    by None None e = refl
    by (Some a) (Some b) e = e
    by None (Some b) e = absurd (cc)
    by (Some a) None e = absurd (cc)

each-known : (doc : Document) (stages : List Stage) → Each (λ (t : Stage). IsTyped t.stage doc t.names t.sub_operation) stages
    → AreStagesKnown doc.text.items stages
each-known doc [] h = tt
each-known doc (t ∷ stages) h = (known-names doc t.stage t.names t.sub_operation h.0, each-known doc stages h.1)

pub before-edit : (x : NaiveClient) → IsReady x → Rise interval_cmp x.doc.intervals → Leads x.last_stage (shown_content x) x.doc (stages_of x)
before-edit x ready rise =
    let xs = x.doc.text.items in
    let marks = all-weaker (has_marks_of inserts_text removes_text (stages_of x)) (is_left inserts_text removes_text (stages_of x) 0)
    (left-first inserts_text removes_text (stages_of x)) xs ready.text.place.marks in
    let ends = all-weaker (has_ends_on xs) (has_ends_at 0 xs)
    (λ i h. let p = both (is_end_on xs i.start) (is_end_on xs i.end) h in rw (first-end x ready i.start p.0, first-end x ready i.end p.1) refl)
    x.doc.intervals ready.ends in
    record {
      shows = client-shows x ready rise;
      intervals = record {
        intervals = refl;
        ends = shown-at x.doc xs x.last_stage (same-views x.last_stage xs) ready.text.place.distinct
            (stages_of x) 0 x.doc.intervals ready.stages marks ends;
        rise = ready.stages;
        names = each-known x.doc (stages_of x) ready.typed;
        known = all-weaker (has_ends_on xs) (has_held_ends (is_known xs))
            (λ i h. let p = both (is_end_on xs i.start) (is_end_on xs i.end) h in rw (known-end x i.start p.0, known-end x i.end p.1) refl)
            x.doc.intervals ready.ends;
      };
    }

-- ---- the client after it

flat-more : {A B : Type 0} (f : A → List B) (xs : List A) (x : A) → flat_map f (xs ++ (x ∷ [])) ≡ flat_map f xs ++ f x
flat-more f [] x = append-nil (f x)
flat-more f (y ∷ xs) x = ap (λ ys. f y ++ ys) (flat-more f xs x) ∙ sym (append_assoc (f y) (flat_map f xs) (f x))

drafted-pending : (sent : Option SentAs) (n : ℕ) (z : NaiveClient) → (with_draft sent n z).pending ≡ z.pending
drafted-pending None n z = refl
drafted-pending (Some sent) n z = refl

-- what an edit that was taken made
pub record Took (x y : NaiveClient) (op : ChannelOp) : Type 0 where
  pub doc : Document
  pub stages : List Stage
  pub made : local_sub_operations x.doc (stages_of x) (x.last_stage + 1) (sub_operations op) ≡ Ok (doc, stages)
  pub doc_is : y.doc ≡ doc
  pub last : y.last_stage ≡ x.last_stage + length stages
  pub all : stages_of y ≡ stages_of x ++ stages

pub took : (x y : NaiveClient) (op : ChannelOp) → local_edit x op ≡ Ok y → Took x y op
took x y op e = by (local_sub_operations x.doc (stages_of x) (x.last_stage + 1) (sub_operations op)) refl e
  where
    by : (r : Made) → local_sub_operations x.doc (stages_of x) (x.last_stage + 1) (sub_operations op) ≡ r
        → elim r as (λ _. Result NaiveClient EditFault) [ Err fault ↦ Err fault | Ok taken ↦ Ok (after_edit op taken.0 taken.1 x) ] ≡ Ok y
        → Took x y op
    by (Err fault) s d = absurd (cc)
    by (Ok done) s d =
        let is : after_edit op done.0 done.1 x ≡ y = ap (λ (r : Result NaiveClient EditFault). elim r as
        (λ _. NaiveClient) [ Ok u ↦ u | Err f ↦ x ]) d in
        let sent = sent_as x.link x.next_client_seq op in
        let edit : PendingEdit = record { stages = done.1; ref_seq = x.doc.number; sent = sent } in
        let edited : IsEdited x y done.0 done.1 =
        subst (λ (u : NaiveClient). IsEdited x u done.0 done.1) is
        (drafted x _ x.doc.number done.0 done.1 sent (record { doc_is = refl; last = refl })) in
        record {
          doc = done.0;
          stages = done.1;
          made = s;
          doc_is = edited.doc_is;
          last = edited.last;
          all = ap stages_of (sym is) ∙ ap (flat_map (λ (p : PendingEdit). p.stages)) (drafted-pending sent x.doc.number _)
              ∙ flat-more (λ (p : PendingEdit). p.stages) x.pending edit;
        }

-- ---- intervals

pub edit-moves : (x y : NaiveClient) (op : ChannelOp) → IsReady x → IsReady y → Rise interval_cmp x.doc.intervals → local_edit x op ≡ Ok y
    → list_any changes_intervals (sub_operations op) ≡ false → (after_edit_lists x op).intervals ≡ (shown_content y).intervals
edit-moves x y op ready after rise e none =
    let t = took x y op e in
    let k = x.last_stage + 1 in
    let first : x.last_stage ≡ k - 1 = omega arith in
    let before = subst (λ i. Leads i (shown_content x) x.doc (stages_of x)) first (before-edit x ready rise) in
    let distinct = subst (λ (doc : Document). are_distinct_elements doc.text.items ≡ true) t.doc_is (ready-orderly y after).text.distinct in
    let lead = all-lead k (sub_operations op) (shown_content x) x.doc (stages_of x) (t.doc, t.stages) (omega arith) none before distinct t.made in
    let stage : k - 1 + length t.stages ≡ y.last_stage = (let same : k - 1 + length t.stages
    ≡ x.last_stage + length t.stages = omega arith in same ∙ sym t.last) in
    let shown : ℕ → Document → List Stage → List IntervalRec = λ i doc stages. map (interval_record i doc.text.items)
    (shown_intervals doc.text.items doc.intervals stages) in
    lead.intervals.intervals
    ∙ ap (λ i. shown i t.doc (stages_of x ++ t.stages)) stage ∙ ap (λ doc. shown y.last_stage doc (stages_of x ++ t.stages)) (sym t.doc_is)
    ∙ ap (shown y.last_stage y.doc) (sym t.all)

-- ---- cells

-- the table is as it was
record IsTable (before after : Document) : Type 0 where
  pub cells : after.cells ≡ before.cells
  pub rows : after.rows ≡ before.rows
  pub cols : after.cols ≡ before.cols

of-text : (doc next : Document) (taken : Document × NamedElements) → next ≡ taken.0 → next.cells ≡ doc.cells → next.rows ≡ doc.rows → next.cols
    ≡ doc.cols → IsTable doc taken.0
of-text doc next taken is cells rows cols = record {
  cells = ap (λ (d : Document). d.cells) (sym is) ∙ cells;
  rows = ap (λ (d : Document). d.rows) (sym is) ∙ rows;
  cols = ap (λ (d : Document). d.cols) (sym is) ∙ cols;
}

-- a sub-operation that isn't on the table
table-left : (doc : Document) (stages : List Stage) (k : ℕ) (o : SubOperation) (taken : Document × NamedElements) → changes_table o ≡ false
    → local_sub_operation doc stages k o ≡ Ok taken → IsTable doc taken.0
table-left doc stages k (OnText (Insert p seg props)) taken none e = of-text doc _ taken (in-range p _ _ taken e).1 refl refl refl
table-left doc stages k (OnText (Remove p q)) taken none e = of-text doc _ taken (in-range q _ _ taken e).1 refl refl refl
table-left doc stages k (OnText (Annotate p q changes)) taken none e = of-text doc _ taken (in-range q _ _ taken e).1 refl refl refl
table-left doc stages k (OnGrid op) taken none e = absurd (cc)
table-left doc stages k (OnIntervals op) taken none e =
    by (id_fault (shown_intervals doc.text.items doc.intervals stages) op) (given_ends_fit (len (seen (k - 1)) doc.text.items) (ends_of op)) e
  where
    by : (fault : Option EditFault) (b : Bool)
        → unless_fault fault (cond b (Ok (doc, elements_at_given_ends (seen (k - 1)) doc.text.items (ends_of op)))
        (Err (OutOfRange (len (seen (k - 1)) doc.text.items)))) ≡ Ok taken
        → IsTable doc taken.0
    by (Some f) b d = absurd (cc)
    by None true d = of-text doc doc taken (ap (λ (r : EditResult). elim r as (λ _. Document) [ Ok u ↦ u.0 | Err f ↦ doc ]) d) refl refl refl
    by None false d = absurd (cc)

cells-left : (t : ShownContent) (doc : Document) (k : ℕ) (o : SubOperation) → changes_table o ≡ false →
    (after_changes t (told_local k doc o)).cells ≡ t.cells
cells-left t doc k (OnText (Insert p seg props)) none = text-cells t (segment_contents seg) (Put p seg (apply [] props)) refl
cells-left t doc k (OnText (Remove p q)) none = taken-cells t (gone_runs (seen (k - 1)) (seen k) p q doc.text.items)
cells-left t doc k (OnText (Annotate p q changes)) none =
    styled-cells t (changed_runs same_props shown_properties (with_pending_annotation k changes) (seen (k - 1)) (seen k) p q doc.text.items)
cells-left t doc k (OnIntervals op) none = refl
cells-left t doc k (OnGrid op) none = absurd (cc)

-- the stages write no cell
abbrev WriteNoCell : List Stage → Type 0
WriteNoCell stages = Each (λ (t : Stage). changes_table t.sub_operation ≡ false) stages

unwritten : (row col : ElementId) (stages : List Stage) → WriteNoCell stages → (v : Option ValueBytes) → shown_cell_value row col v stages ≡ v
unwritten row col [] h v = refl
unwritten row col (t ∷ stages) h v = by t.sub_operation refl ∙ unwritten row col stages h.1 v
  where
    by : (o : SubOperation) → t.sub_operation ≡ o → shown_cell_value row col v (t ∷ stages) ≡ shown_cell_value row col v stages
    by (OnText op) e = ap (λ (o : SubOperation). shown_cell_value row col
        (cell_after_stage row col (record { stage = t.stage; sub_operation = o; names = t.names }) v) stages) e
    by (OnIntervals op) e = ap (λ (o : SubOperation). shown_cell_value row col
        (cell_after_stage row col (record { stage = t.stage; sub_operation = o; names = t.names }) v) stages) e
    by (OnGrid op) e = let none : true ≡ false = sym (ap changes_table e) ∙ h.0 in absurd (cc)

value-append : (row col : ElementId) (ts us : List Stage) (v : Option ValueBytes) → shown_cell_value row col v (ts ++ us)
    ≡ shown_cell_value row col (shown_cell_value row col v ts) us
value-append row col [] us v = refl
value-append row col (t ∷ ts) us v = value-append row col ts us (cell_after_stage row col t v)

module _ (cells : List Cell) (ts us : List Stage) (none : WriteNoCell us) where
  row-same : (i : ℕ) (row : ElementId) (j : ℕ) (cols : List ListElement) → row_cells cells (ts ++ us) i row j cols ≡ row_cells cells ts i row j cols
  row-same i row j [] = refl
  row-same i row j (col ∷ cols) =
      let v = cell_value row (id col) cells in
      ap (λ w. cell_record i j w ++ row_cells cells (ts ++ us) i row (j + 1) cols)
      (value-append row (id col) ts us v ∙ unwritten row (id col) us none (shown_cell_value row (id col) v ts))
      ∙ ap (λ cs. cell_record i j (shown_cell_value row (id col) v ts) ++ cs) (row-same i row (j + 1) cols)

  rows-same : (cols : List ListElement) (i : ℕ) (rows : List ListElement) → all_cells cells (ts ++ us) cols i rows ≡ all_cells cells ts cols i rows
  rows-same cols i [] = refl
  rows-same cols i (row ∷ rows) =
      ap (λ cs. cs ++ all_cells cells (ts ++ us) cols (i + 1) rows) (row-same i (id row) 0 cols)
      ∙ ap (λ cs. row_cells cells ts i (id row) 0 cols ++ cs) (rows-same cols (i + 1) rows)

view-later : (j k : ℕ) (low : j ≤ k) (xs : List ListElement) → list_all (is_up_to j) xs ≡ true → filter (seen k) xs ≡ filter (seen j) xs
view-later j k low [] h = refl
view-later j k low (x ∷ xs) h =
    let p = both (is_up_to j x) (list_all (is_up_to j) xs) h in
    ap (λ b. cond b (x ∷ filter (seen k) xs) (filter (seen k) xs)) (seen-later j k low x p.0) ∙ ap (λ ys. cond (seen j x) (x ∷ ys) ys)
    (view-later j k low xs p.1)

-- after all sub-operations
record IsLeft (t u : ShownContent) (doc : Document) (done : Document × List Stage) : Type 0 where
  pub table : IsTable doc done.0
  pub stages : WriteNoCell done.1
  pub cells : u.cells ≡ t.cells

all-left : (k : ℕ) (os : List SubOperation) (t : ShownContent) (doc : Document) (stages : List Stage) (done : Document × List Stage)
    → list_any changes_table os ≡ false
    → local_sub_operations doc stages k os ≡ Ok done → IsLeft t (after_changes t (told_locals doc stages k os)) doc done
all-left k [] t doc stages done none e =
    let parts : (doc, []) ≡ done = ap (λ (r : Made). elim r as (λ _. Document × List Stage) [ Ok u ↦ u | Err f ↦ (doc, []) ]) e in
    subst (IsLeft t t doc) parts (record { table = record { cells = refl; rows = refl; cols = refl }; stages = tt; cells = refl })
all-left k (o ∷ os) t doc stages done none e =
    by (local_sub_operation doc stages k o) refl e
    (λ taken rest made. all-left (k + 1) os (after_changes t (told_local k doc o)) taken.0 (stages ++ (here taken ∷ [])) rest kinds.1 made)
  where
    here : Document × NamedElements → Stage
    here taken = record { stage = k; sub_operation = o; names = taken.1 }

    kinds : (changes_table o ≡ false) × (list_any changes_table os ≡ false)
    kinds = neither (changes_table o) (list_any changes_table os) none

    by : (r : EditResult) → local_sub_operation doc stages k o ≡ r
        → elim r as (λ _. Made) [
          | Err fault ↦ Err fault
          | Ok taken ↦ with_front (record { stage = k; sub_operation = o; names = taken.1 })
              (local_sub_operations taken.0 (stages ++ (record { stage = k; sub_operation = o; names = taken.1 } ∷ [])) (k + 1) os)
        ]
        ≡ Ok done
        → ((taken : Document × NamedElements) (rest : Document × List Stage) → local_sub_operations taken.0 (stages ++ (here taken ∷ []))
        (k + 1) os ≡ Ok rest
        → IsLeft (after_changes t (told_local k doc o)) (after_changes (after_changes t (told_local k doc o))
        (told_locals taken.0 (stages ++ (here taken ∷ [])) (k + 1) os)) taken.0 rest)
        → IsLeft t (after_changes t (elim r as (λ _. List ViewChange) [
          | Err fault ↦ []
          | Ok taken ↦ told_local k doc o ++ told_locals taken.0 (stages ++ (record { stage = k; sub_operation = o; names = taken.1 } ∷ []))
              (k + 1) os
        ])) doc done
    by (Err fault) s f next = absurd (cc)
    by (Ok taken) s f next =
        let parts = front-parts (here taken) (local_sub_operations taken.0 (stages ++ (here taken ∷ [])) (k + 1) os) done f in
        let rest = parts.0 in
        let later = told_locals taken.0 (stages ++ (here taken ∷ [])) (k + 1) os in
        let first = table-left doc stages k o taken kinds.0 s in
        let left = next taken rest parts.1 in
        subst (IsLeft t (after_changes t (told_local k doc o ++ later)) doc) (sym parts.2) (record {
          table = record { cells = left.table.cells ∙ first.cells; rows = left.table.rows ∙ first.rows; cols = left.table.cols ∙ first.cols };
          stages = (kinds.0, left.stages);
          cells = ap (λ (z : ShownContent). z.cells) (after-append t (told_local k doc o) later) ∙ left.cells ∙ cells-left t doc k o kinds.0;
        })

pub edit-leaves-cells : (x y : NaiveClient) (op : ChannelOp) → IsReady x → Rise interval_cmp x.doc.intervals → local_edit x op ≡ Ok y
    → list_any changes_table (sub_operations op) ≡ false → (after_edit_lists x op).cells ≡ (shown_content y).cells
edit-leaves-cells x y op ready rise e none =
    let t = took x y op e in
    let k = x.last_stage in
    let left = all-left (k + 1) (sub_operations op) (shown_content x) x.doc (stages_of x) (t.doc, t.stages) none t.made in
    let shows = client-shows x ready rise in
    let more : k ≤ k + length t.stages = omega arith in
    let shown : ℕ → List Cell → List Stage → List ListElement → List ListElement → List CellRec =
    λ i cells stages cols rows. all_cells cells stages (filter (seen i) cols) 0 (filter (seen i) rows) in
    let old = stages_of x in
    let all = old ++ t.stages in
    let doc = x.doc in
    let rows : filter (seen (k + length t.stages)) doc.rows.items ≡ filter (seen k) doc.rows.items = view-later k
    (k + length t.stages) more doc.rows.items shows.rows in
    let cols : filter (seen (k + length t.stages)) doc.cols.items ≡ filter (seen k) doc.cols.items = view-later k
    (k + length t.stages) more doc.cols.items shows.cols in
    left.cells
    ∙ sym (rows-same doc.cells old t.stages left.stages (filter (seen k) doc.cols.items) 0 (filter (seen k) doc.rows.items))
    ∙ ap (λ cs. all_cells doc.cells all cs 0 (filter (seen k) doc.rows.items)) (sym cols)
    ∙ ap (all_cells doc.cells all (filter (seen (k + length t.stages)) doc.cols.items) 0) (sym rows)
    ∙ ap (λ i. shown i doc.cells all doc.cols.items doc.rows.items) (sym t.last)
    ∙ ap (λ cells. shown y.last_stage cells all doc.cols.items doc.rows.items) (sym (ap (λ (d : Document). d.cells) t.doc_is ∙ left.table.cells))
    ∙ ap (λ (list : Sequence). shown y.last_stage y.doc.cells all list.items doc.rows.items)
    (sym (ap (λ (d : Document). d.cols) t.doc_is ∙ left.table.cols))
    ∙ ap (λ (list : Sequence). shown y.last_stage y.doc.cells all y.doc.cols.items list.items)
    (sym (ap (λ (d : Document). d.rows) t.doc_is ∙ left.table.rows))
    ∙ ap (λ stages. shown y.last_stage y.doc.cells stages y.doc.cols.items y.doc.rows.items) (sym t.all)

-- ---- what is told

pub edit-tells-no-cell : (x y : NaiveClient) (op : ChannelOp) → IsReady x → Rise interval_cmp x.doc.intervals → local_edit x op ≡ Ok y
    → list_any changes_table (sub_operations op) ≡ false → told_cells (after_edit_lists x op).cells (shown_content y).cells ≡ []
edit-tells-no-cell x y op ready rise e none =
    ap (λ cells. told_cells cells (shown_content y).cells) (edit-leaves-cells x y op ready rise e none) ∙ cells-same-none (shown_content y).cells
