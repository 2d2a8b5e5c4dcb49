-- Every client that its steps make has pending edits that can be sequenced next.
use Rattle.std.proofs.Common.{◌≡◌, ℕ, suc, ◌≤◌, ◌<◌, Bool, true, false, cond, not, ◌&&◌, ◌||◌, List, [], ◌∷◌, ◌++◌, Option, Some, None, map, take, inl, inr, refl, sym, ◌∙◌, ap, subst, arith}
use Rattle.std.specs.List.{list_all, list_any}
use Rattle.ft_base.proofs.Booleans.{both}
use Rattle.ft_base.specs.Scan.{len, one_more_if}
use Rattle.ft_base.specs.Visibility.{is_acked}
use Rattle.ft_op.specs.declared.operations.TextOp.TheVariants.{Group, IntervalAdd, IntervalChange, IntervalDelete, One}
use Rattle.ft_op.specs.declared.operations.Target.TheVariants.{Rows, Cols}
use Rattle.ft_msg.specs.declared.messages.Entry.{Entry}
use Rattle.ft_props.specs.Element.{ElementId, ListElement, has_id, id, is_sequenced, is_unremoved, sequenced_elements, without_pending}
use Rattle.ft_props.specs.Steps.{Sequence}
use Rattle.ft_props.proofs.SequencedElements.{any-acked}
use Rattle.ft_op.specs.Operation.{OnGrid, OnIntervals, OnText, SubOperation}
use Rattle.ft_op.specs.Intervals.{Interval}
use Rattle.ft_op.specs.Document.{Document, empty, sequenced_part}
use Rattle.ft_msg.specs.Agreed.{agreed, take_entries}
use Rattle.ft_msg.specs.Applied.{applied}
use Rattle.ft_msg.specs.Client.{NaiveClient, PendingEdit, client_over, stages_of}
use Rattle.ft_msg.specs.Content.{content}
use Rattle.ft_msg.specs.Process.{come_online}
use Rattle.ft_msg.specs.ClientSteps.{ClientStep, after_steps, has_fitting_body, taken_entries}
use Rattle.ft_laws_agreement.specs.Reconnecting.{StagesRiseTo, inserts_text, removes_text, writes_known_units}
use Rattle.ft_laws_agreement.proofs.SentStages.{SentStage, StageStands, cols_edit, rows_edit, text_edit}
use Rattle.ft_laws_agreement.proofs.StageEdits.{IsStanding, StageEdit}
use Rattle.ft_laws_agreement.specs.Sequencing.{Each, IsReady, IsReadyList, IsTyped, annotates_text, inserts_in, is_grid_stage, is_interval_edit, is_interval_operation, is_known, is_marked_later, is_one_operation, is_text_stage, no_kind, removes_in}
use Rattle.ft_laws_agreement.specs.Trimming.{are_distinct_elements, has_ends_on, is_end_on}
use Rattle.ft_laws_agreement.proofs.AgreedStage.{EndsStand}
use Rattle.ft_laws_agreement.proofs.AfterOwnJoin.{join-changes_nothing}
use Rattle.ft_laws_agreement.specs.Starts.{IsRunFrom, shown_with_pending}
use Rattle.ft_laws_agreement.proofs.ClientsAgree.{all-stepped-from, clients-agree-from, run-from-empty}
use Rattle.ft_laws_agreement.proofs.ConsistentDocument.{take_entries-consistent}
use Rattle.ft_laws_agreement.proofs.CountedEntries.{entries-counted, first-taken}
use Rattle.ft_laws_agreement.proofs.PendingOnTop.{pending-on_top-over}
use Rattle.ft_laws_agreement.proofs.SideBySide.{ready-orderly}
use Rattle.ft_laws_agreement.proofs.CellsOfUnits.{AreCellsOfUnits, entries-units}
use Rattle.ft_laws_agreement.proofs.ClientHolds.{AreOfOneKind, ClientHolds, EditsTold, flat, is_on_grid, is_on_text, is_one_interval}
use Rattle.ft_laws_agreement.proofs.DistinctNames.{names-once}
use Rattle.ft_laws_agreement.proofs.MarksOfStages.{AreKindsOf, bare_stages, changes-of_kind, cols-kinds, marks-of_kind, ordered-later, ordered-rising, rows-kinds, text-kinds, within-known}
use Rattle.ft_laws_agreement.proofs.OrderedMarks.{is_ordered}
use Rattle.ft_laws_agreement.proofs.OwnNames.{all-weaker}
use Rattle.ft_laws_agreement.proofs.RebuiltDocument.{edits-stages}
use Rattle.ft_laws_agreement.proofs.SideBySideStages.{all-runs, none-counted, side_by_side}
use Rattle.ft_laws_agreement.proofs.SlidEnds.{Once, Stands, is_standing_at, once-tail, same_id-refl}
use Rattle.ft_laws_agreement.proofs.ToldStages.{AllStand, AreTold, Rise, ToldStage, stage_numbers}
use Rattle.ft_laws_agreement.proofs.TypedStages.{stages-known_units, typed-stages}
use Rattle.ft_laws_agreement.proofs.WithinStages.{is_within}
use Rattle.ft_props.proofs.RebuiltList.{or_right}

-- ---- stages

told-rise : (m j last : ℕ) (ts : List ToldStage) → AreTold m ts → Rise j last ts → StagesRiseTo j (bare_stages ts) last
told-rise m j last [] told h = h
told-rise m j last (t ∷ ts) told h =
    let first : j ≤ t.before = h.0 in
    let here : j < suc t.before = omega arith in
    (subst (λ i. j < i) (sym told.0) here, subst (λ i. StagesRiseTo i (bare_stages ts) last) (sym told.0) (told-rise m (suc t.before) last ts told.3 h.1))

-- ---- a list

none-left : (b : Bool) (n : ℕ) → b ≡ true → one_more_if b n ≤ 1 → n ≡ 0
none-left true n h l = omega arith
none-left false n h l = (cc)

once-distinct : (xs : List ListElement) → Once xs → are_distinct_elements xs ≡ true
once-distinct [] h = refl
once-distinct (e ∷ xs) h =
    let alone : len (has_id (id e)) xs ≡ 0 = none-left (has_id (id e) e) (len (has_id (id e)) xs) (same_id-refl (id e)) (h (id e)) in
    rw (none-counted (has_id (id e)) xs alone, once-distinct xs (once-tail e xs h)) refl

module _ (c m n : ℕ) (doc : Document) (list : Document → Sequence) (edit : SentStage → StageEdit)
    (stands : (t : ToldStage) → StageStands t.before t.ref c t.sent t.stage.names doc → IsStanding t.before t.ref c (edit t.sent) (list doc).items)
    (inserts removes annotates : SubOperation → Bool) (kinds : AreKindsOf inserts removes annotates edit) (ts : List ToldStage) where
  ready-list : AreTold m ts → AllStand c doc ts → list_all (is_within n (stage_numbers ts)) (list doc).items ≡ true → list_all is_ordered (list doc).items
      ≡ true → Once (sequenced_elements (list doc).items)
      → IsReadyList inserts removes annotates n (bare_stages ts) (list doc)
  ready-list told stand within ordered once =
      let items = λ (d : Document). (list d).items in
      record {
        place = record {
          marks = marks-of_kind c m n doc items edit stands inserts removes annotates kinds ts told stand within ordered;
          side_by_side = λ k h. side_by_side (list doc).items (all-runs c doc items edit stands n ts within stand) k;
          distinct = once-distinct (list doc).items (names-once c doc items edit stands n ts within stand once);
        };
        later = all-weaker is_ordered is_marked_later ordered-later (list doc).items ordered;
        changes = changes-of_kind c m n doc items edit stands inserts removes annotates kinds ts told stand within ordered;
        rising = ordered-rising (list doc).items ordered;
        known = all-weaker (is_within n (stage_numbers ts)) (is_known n) (within-known n (stage_numbers ts)) (list doc).items within;
      }

-- ---- the ends of acknowledged intervals

unremoved-bare : (e : ListElement) → is_unremoved (without_pending e) ≡ is_unremoved e
unremoved-bare e = ap (λ b. is_acked e.ins && not b) (any-acked e.dels None ∙ sym (any-acked e.dels e.removal_stage))

standing-end : (a : ElementId) (xs : List ListElement) → list_any (is_standing_at a) (sequenced_elements xs) ≡ true → list_any (λ e. has_id a e && is_unremoved e) xs ≡ true
standing-end a [] h = h
standing-end a (e ∷ xs) h = step (is_sequenced e) h (standing-end a xs)
  where
    swapped : (u i : Bool) → (u && i) || list_any (is_standing_at a) (sequenced_elements xs) ≡ true
        → (list_any (is_standing_at a) (sequenced_elements xs) ≡ true → list_any (λ e. has_id a e && is_unremoved e) xs ≡ true)
        → (i && u) || list_any (λ e. has_id a e && is_unremoved e) xs ≡ true
    swapped true true g ih = refl
    swapped true false g ih = ih g
    swapped false true g ih = ih g
    swapped false false g ih = ih g

    step : (b : Bool) → list_any (is_standing_at a) (cond b (without_pending e ∷ sequenced_elements xs) (sequenced_elements xs)) ≡ true
        → (list_any (is_standing_at a) (sequenced_elements xs) ≡ true → list_any (λ e. has_id a e && is_unremoved e) xs ≡ true)
        → (has_id a e && is_unremoved e) || list_any (λ e. has_id a e && is_unremoved e) xs ≡ true
    step true g ih = swapped (is_unremoved e) (has_id a e) (ap (λ u. (u && has_id a e) || list_any (is_standing_at a) (sequenced_elements xs)) (sym (unremoved-bare e)) ∙ g) ih
    step false g ih = or_right (has_id a e && is_unremoved e) (list_any (λ e. has_id a e && is_unremoved e) xs) (ih g)

end-on : (xs : List ListElement) (o : Option ElementId) → Stands (sequenced_elements xs) o → is_end_on xs o ≡ true
end-on xs None h = refl
end-on xs (Some a) h = standing-end a xs h

ends-on : (xs : List ListElement) (is : List Interval) → EndsStand (sequenced_elements xs) is → list_all (has_ends_on xs) is ≡ true
ends-on xs [] h = refl
ends-on xs (i ∷ is) h = rw (end-on xs i.start h.0, end-on xs i.end h.1, ends-on xs is h.2) refl

-- ---- the stages of an edit

text-stages : (gs : List ToldStage) → list_all is_on_text (map (λ g. g.stage.sub_operation) gs) ≡ true → list_all is_text_stage (bare_stages gs) ≡ true
text-stages [] h = refl
text-stages (g ∷ gs) h =
    let p = both (is_on_text g.stage.sub_operation) (list_all is_on_text (map (λ g. g.stage.sub_operation) gs)) h in
    rw (one g.stage.sub_operation p.0, text-stages gs p.1) refl
  where
    one : (o : SubOperation) → is_on_text o ≡ true → elim o [ OnText op ↦ true | _ ↦ false ] ≡ true
    one (OnText op) f = refl
    one (OnIntervals op) f = (cc)
    one (OnGrid op) f = (cc)

grid-stages : (gs : List ToldStage) → list_all is_on_grid (map (λ g. g.stage.sub_operation) gs) ≡ true → list_all is_grid_stage (bare_stages gs) ≡ true
grid-stages [] h = refl
grid-stages (g ∷ gs) h =
    let p = both (is_on_grid g.stage.sub_operation) (list_all is_on_grid (map (λ g. g.stage.sub_operation) gs)) h in
    rw (one g.stage.sub_operation p.0, grid-stages gs p.1) refl
  where
    one : (o : SubOperation) → is_on_grid o ≡ true → elim o [ OnGrid op ↦ true | _ ↦ false ] ≡ true
    one (OnText op) f = (cc)
    one (OnIntervals op) f = (cc)
    one (OnGrid op) f = refl

one-interval : (o : SubOperation) → is_one_interval (o ∷ []) ≡ true → elim o [ OnIntervals op ↦ is_interval_operation op | _ ↦ false ] ≡ true
one-interval (OnText op) h = (cc)
one-interval (OnGrid op) h = (cc)
one-interval (OnIntervals (IntervalAdd label id ends props)) h = refl
one-interval (OnIntervals (IntervalChange label id ends props)) h = refl
one-interval (OnIntervals (IntervalDelete label id)) h = refl
one-interval (OnIntervals (One op)) h = (cc)
one-interval (OnIntervals (Group ops)) h = (cc)

two-intervals : (o p : SubOperation) (os : List SubOperation) → is_one_interval (o ∷ p ∷ os) ≡ true → ⊥
two-intervals (OnText op) p os h = (cc)
two-intervals (OnGrid op) p os h = (cc)
two-intervals (OnIntervals (IntervalAdd label id ends props)) p os h = (cc)
two-intervals (OnIntervals (IntervalChange label id ends props)) p os h = (cc)
two-intervals (OnIntervals (IntervalDelete label id)) p os h = (cc)
two-intervals (OnIntervals (One op)) p os h = (cc)
two-intervals (OnIntervals (Group ops)) p os h = (cc)

interval-stage : (gs : List ToldStage) → is_one_interval (map (λ g. g.stage.sub_operation) gs) ≡ true → is_interval_edit (bare_stages gs) ≡ true
interval-stage [] h = (cc)
interval-stage (g ∷ []) h = one-interval g.stage.sub_operation h
interval-stage (g ∷ f ∷ gs) h = absurd (two-intervals g.stage.sub_operation f.stage.sub_operation (map (λ g. g.stage.sub_operation) gs) h)

one-operation : (gs : List ToldStage) → AreOfOneKind (map (λ g. g.stage.sub_operation) gs) → list_all is_text_stage (bare_stages gs)
    || list_all is_grid_stage (bare_stages gs) || is_interval_edit (bare_stages gs) ≡ true
one-operation gs (inl h) = rw (text-stages gs h) refl
one-operation gs (inr (inl h)) = rw (grid-stages gs h) (middle (list_all is_text_stage (bare_stages gs)) (is_interval_edit (bare_stages gs)))
  where
    middle : (a b : Bool) → a || true || b ≡ true
    middle true b = refl
    middle false b = refl
one-operation gs (inr (inr h)) = rw (interval-stage gs h) (or_right (list_all is_text_stage (bare_stages gs) || list_all is_grid_stage (bare_stages gs)) true refl)

edits-of-one : (c : ℕ) (gss : List (List ToldStage)) (edits : List PendingEdit) → EditsTold c gss edits → list_all is_one_operation edits ≡ true
edits-of-one c [] [] h = refl
edits-of-one c [] (edit ∷ edits) h = absurd h
edits-of-one c (gs ∷ gss) [] h = absurd h
edits-of-one c (gs ∷ gss) (edit ∷ edits) h =
    let here : is_one_operation edit ≡ true =
    ap (λ ss. list_all is_text_stage ss || list_all is_grid_stage ss || is_interval_edit ss) h.0.stages ∙ one-operation gs h.0.kind in
    rw (here, edits-of-one c gss edits h.1) refl

-- ---- the client

pub client-ready : (bound c : ℕ) (gss : List (List ToldStage)) (x : NaiveClient) (agreed_doc : Document) → ClientHolds bound c gss x → sequenced_part x.doc
    ≡ agreed_doc → AreCellsOfUnits agreed_doc → IsReady x
client-ready bound c gss x agreed_doc h agrees units =
    let ts = flat gss in
    let doc = x.doc in
    let n = doc.number in
    let d = h.doc in
    let same : stages_of x ≡ bare_stages ts = edits-stages c gss x.pending h.edits in
    let text : IsReadyList inserts_text removes_text annotates_text n (bare_stages ts) doc.text =
    ready-list c n n doc (λ d. d.text) text_edit (λ t s. s.text) inserts_text removes_text annotates_text text-kinds ts d.told d.stand d.text d.text_order d.sound.named.once in
    let rows : IsReadyList (inserts_in Rows) (removes_in Rows) no_kind n (bare_stages ts) doc.rows =
    ready-list c n n doc (λ d. d.rows) rows_edit (λ t s. s.rows) (inserts_in Rows) (removes_in Rows) no_kind rows-kinds ts d.told d.stand d.rows d.rows_order d.sound.rows.once in
    let cols : IsReadyList (inserts_in Cols) (removes_in Cols) no_kind n (bare_stages ts) doc.cols =
    ready-list c n n doc (λ d. d.cols) cols_edit (λ t s. s.cols) (inserts_in Cols) (removes_in Cols) no_kind cols-kinds ts d.told d.stand d.cols d.cols_order d.sound.cols.once in
    record {
      stages = subst (λ ss. StagesRiseTo 0 ss x.last_stage) (sym same) (told-rise n 0 x.last_stage ts d.told d.rising);
      text = subst (λ ss. IsReadyList inserts_text removes_text annotates_text n ss doc.text) (sym same) text;
      rows = subst (λ ss. IsReadyList (inserts_in Rows) (removes_in Rows) no_kind n ss doc.rows) (sym same) rows;
      cols = subst (λ ss. IsReadyList (inserts_in Cols) (removes_in Cols) no_kind n ss doc.cols) (sym same) cols;
      ends = ends-on doc.text.items doc.intervals d.sound.ends;
      typed = subst (λ ss. Each (λ t. IsTyped t.stage doc t.names t.sub_operation) ss) (sym same) (typed-stages c n doc ts d.text_order d.told d.stand);
      writes = ap (list_all (writes_known_units doc.rows.items doc.cols.items)) same ∙ stages-known_units c n doc ts d.text_order d.told d.stand;
      cells = subst AreCellsOfUnits (sym agrees) units;
      edits = edits-of-one c gss x.pending h.edits;
    }

-- ---- every client

pub client-ready-from : (start : Document) (steps : List ClientStep) (x : NaiveClient) → IsRunFrom start steps x → IsReady x
client-ready-from start steps x run =
    let entries = taken_entries steps in
    let s = all-stepped-from start steps x run in
    client-ready _ s.c s.gss x (take_entries start entries) s.client s.agrees (entries-units start entries run.sound.consistent run.sound.cells)

-- shows what the start and the entries that it took show once its pending operations are sequenced next
pub pending-stays-on_top-from : (start : Document) (steps : List ClientStep) (x : NaiveClient) (conn : ℕ) → IsRunFrom start steps x → content x
    ≡ shown_with_pending (take_entries start (taken_entries steps)) x conn
pending-stays-on_top-from start steps x conn run =
    let entries = taken_entries steps in
    pending-on_top-over x conn (client-ready-from start steps x run) (take_entries start entries) (take_entries-consistent start entries run.sound.consistent)
    (clients-agree-from start steps x run)

-- and shows the same after its own join
pub join-changes_nothing-from : (start : Document) (steps : List ClientStep) (x : NaiveClient) (entry : Entry) → IsRunFrom start steps x → content (come_online x entry) ≡ content x
join-changes_nothing-from start steps x entry run = join-changes_nothing x entry (ready-orderly x (client-ready-from start steps x run))

-- ---- from the empty document on

pub every-client-ready : (steps : List ClientStep) (x : NaiveClient) → after_steps (Some (client_over empty)) steps ≡ Some x
    → list_all has_fitting_body (taken_entries steps) ≡ true → IsReady x
every-client-ready steps x h fits = client-ready-from empty steps x (run-from-empty steps x h fits)

-- shows what the log will show once its pending operations are sequenced next
pub pending-stays-on_top : (steps : List ClientStep) (x : NaiveClient) (later : List Entry) (conn : ℕ) → after_steps (Some (client_over empty)) steps ≡ Some x
    → list_all has_fitting_body (taken_entries steps) ≡ true
    → content x ≡ applied x (taken_entries steps ++ later) conn
pending-stays-on_top steps x later conn h fits =
    let entries = taken_entries steps in
    let log = entries ++ later in
    let first : take x.doc.number log ≡ entries = ap (λ i. take i log) (entries-counted steps x h) ∙ first-taken entries later in
    pending-stays-on_top-from empty steps x conn (run-from-empty steps x h fits) ∙ ap (λ es. shown_with_pending (agreed es) x conn) (sym first)

-- and shows the same after its own join
pub every-join-changes_nothing : (steps : List ClientStep) (x : NaiveClient) (entry : Entry) → after_steps (Some (client_over empty)) steps ≡ Some x
    → list_all has_fitting_body (taken_entries steps) ≡ true
    → content (come_online x entry) ≡ content x
every-join-changes_nothing steps x entry h fits = join-changes_nothing-from empty steps x entry (run-from-empty steps x h fits)
