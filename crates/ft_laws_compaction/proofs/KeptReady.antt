-- The pending edits of a client that keeps another can be sequenced next, as those of that one can.
use Rattle.std.proofs.Common.{◌≡◌, ℕ, suc, Bool, true, false, cond, not, ◌&&◌, ◌||◌, nat_le, List, [], ◌∷◌, Option, Some, None, filter, find, map, option_map, replicate, refl, sym, ◌∙◌, ap, subst, arith}
use Rattle.std.specs.List.{list_all, list_any}
use Rattle.std.proofs.lemmas.Bool.Decides.{nat_tests}
use Rattle.ft_base.specs.Visibility.{has_occurred_at_stage, is_acked, is_of_stage, seen_at}
use Rattle.ft_base.proofs.Booleans.{both}
use Rattle.ft_op.specs.declared.operations.BaseOp.TheVariants.{Insert, Remove, Annotate}
use Rattle.ft_op.specs.declared.operations.CellOp.TheVariants.{SpliceIn, SpliceOut, Set}
use Rattle.ft_op.specs.declared.operations.Target.TheVariants.{Rows, Cols}
use Rattle.ft_props.specs.Properties.{apply}
use Rattle.ft_props.specs.Element.{ElementId, GridUnit, ListElement, NamelessElement, has_id, is_named_by, nameless, same_id}
use Rattle.ft_props.specs.Compaction.{Keeps, KeepsList, none, same, universal, collected, with_universal_insertion}
use Rattle.ft_props.specs.Steps.{Sequence, is_inserted_by}
use Rattle.ft_props.proofs.RebuiltList.{wide}
use Rattle.ft_op.specs.Operation.{OnGrid, OnIntervals, OnText, SubOperation, segment_contents}
use Rattle.ft_op.specs.Intervals.{NamedElements}
use Rattle.ft_op.specs.Cells.{Cell, cell_value, is_cell}
use Rattle.ft_op.specs.Document.{Document}
use Rattle.ft_op.specs.Stages.{Stage}
use Rattle.ft_msg.specs.Client.{NaiveClient, floor, stages_of}
use Rattle.ft_msg.specs.ClientSteps.{ClientStep}
use Rattle.ft_msg.specs.Compacted.{IsCompacted, holds_col, holds_row, holds_text, interval_holds, stage_holds_text}
use Rattle.ft_laws_agreement.specs.Reconnecting.{has_insertion_of, has_marks_of, has_removal_of, is_inserted_before, is_one_run, writes_known_units}
use Rattle.ft_laws_agreement.specs.Sequencing.{Each, IsBlockOf, IsReady, IsReadyList, IsTyped, are_ends_in, is_cell_below, is_known, is_known_stamp, is_marked_later, is_name_below}
use Rattle.ft_laws_agreement.specs.Starts.{IsRunFrom, IsSoundRun}
use Rattle.ft_laws_agreement.specs.Trimming.{has_ends_on}
use Rattle.ft_laws_agreement.proofs.Booleans.{or-true}
use Rattle.ft_laws_agreement.proofs.ClientHolds.{flat}
use Rattle.ft_laws_agreement.proofs.ClientsAgree.{all-stepped-from}
use Rattle.ft_laws_agreement.proofs.CompactedScans.{has_id-alike}
use Rattle.ft_laws_agreement.proofs.SentStages.{cols_edit, rows_edit, text_edit}
use Rattle.ft_laws_agreement.proofs.SideBySideStages.{AllRuns, all-runs, one_run-map, side_by_side, wide-run}
use Rattle.ft_laws_agreement.proofs.SlidEnds.{same_id-eq, same_id-refl}
use Rattle.ft_laws_compaction.specs.StageRuns.{HasStageRuns, StandInRuns}
use Rattle.ft_laws_compaction.proofs.Compacting.{kept-shape}
use Rattle.ft_laws_compaction.proofs.KeptRuns.{runs-kept}
use Rattle.ft_laws_compaction.proofs.Rejoined.{any-kept, inserted-kept}
use Rattle.ft_laws_compaction.proofs.Runs.{run-facts}
use Rattle.ft_laws_compaction.proofs.SoundlyKept.{distinct-kept, soundly-kept}

-- ---- one list

first-holds : (a b c : Bool) → a && b && c ≡ true → true && b && c ≡ true
first-holds true b c h = h
first-holds false b c h = (cc)

first-known : (n : ℕ) (a b : Bool) → a && b ≡ true → nat_le 0 n && b ≡ true
first-known n true b h = rw (least n) h
  where
    least : (n : ℕ) → nat_le 0 n ≡ true
    least n = grind (arith, nat_tests)
first-known n false b h = (cc)

module _ {low : ℕ} {held : ElementId → Bool} where
  pub all-kept : (test : ListElement → Bool) → ((e : ListElement) → test e ≡ true → test (with_universal_insertion e) ≡ true)
      → {ks xs : List ListElement} → Keeps low held ks xs → list_all test xs ≡ true → list_all test ks ≡ true
  all-kept test old none h = refl
  all-kept test old (same {e = e} {xs = xs} k) h = let p = both (test e) (list_all test xs) h in rw (p.0, all-kept test old k p.1) refl
  all-kept test old (universal {e = e} {xs = xs} f k) h = let p = both (test e) (list_all test xs) h in rw (old e p.0, all-kept test old k p.1) refl
  all-kept test old (collected {e = e} {xs = xs} g u n k) h = all-kept test old k (both (test e) (list_all test xs) h).1

  pub each-kept : (R : ListElement → Type 0) → ((e : ListElement) → R e → R (with_universal_insertion e)) → {ks xs : List ListElement} → Keeps low held ks xs → Each R xs → Each R ks
  each-kept R old none h = tt
  each-kept R old (same k) h = (h.0, each-kept R old k h.1)
  each-kept R old (universal {e = e} f k) h = (old e h.0, each-kept R old k h.1)
  each-kept R old (collected g u n k) h = each-kept R old k h.1

  ready-kept : (inserts removes annotates : SubOperation → Bool) (n : ℕ) (stages : List Stage) (kept list : Sequence) → KeepsList low held kept list → AllRuns list.items
      → IsReadyList inserts removes annotates n stages list → IsReadyList inserts removes annotates n stages kept
  ready-kept inserts removes annotates n stages kept list k runs h = record {
    place = record {
      marks = all-kept (has_marks_of inserts removes stages)
          (λ e g. first-holds (has_insertion_of inserts stages e.ins) (has_removal_of removes stages e.removal_stage) (list_all is_acked e.dels) g) k.items h.place.marks;
      side_by_side = λ j e. side_by_side kept.items (runs-kept k.items runs) j;
      distinct = distinct-kept k.items h.place.distinct;
    };
    later = all-kept is_marked_later (λ e g. refl) k.items h.later;
    changes = all-kept _ (λ e g. g) k.items h.changes;
    rising = each-kept _ (λ e r. r) k.items h.rising;
    known = all-kept (is_known n) (λ e g. first-known n (is_known_stamp n e.ins) (list_all (is_known_stamp n) e.dels) g) k.items h.known;
  }

  -- units that were there before a write still were
  before-kept : (j : ℕ) (o : Option ElementId) {ks xs : List ListElement} → Keeps low held ks xs → is_inserted_before j xs o ≡ true → is_inserted_before j ks o ≡ true
  before-kept j None k h = refl
  before-kept j (Some a) k h = all-kept _ (λ e g. or-true (not (has_id a (with_universal_insertion e)))) k h

  -- the ends that a stage names are still there
  ends-there : (first second : Option ElementId) → ((a : ElementId) → is_named_by a first || is_named_by a second ≡ true → held a ≡ true)
      → {ks xs : List ListElement} → Keeps low held ks xs → are_ends_in xs first second ≡ true → are_ends_in ks first second ≡ true
  ends-there None None f k h = refl
  ends-there None (Some b) f k h = h
  ends-there (Some a) None f k h = h
  ends-there (Some a) (Some b) f k h =
      let here : held a ≡ true = f a (rw (same_id-refl a) refl) in
      let there : held b ≡ true = f b (rw (same_id-refl b) (or-true (same_id b a))) in
      rw (any-kept (has_id a) (has_id-alike low held a here) k, any-kept (has_id b) (has_id-alike low held b there) k) h

-- ---- cells

-- no value where a name is that of no row or no column that was made
none-unmade : (rows cols : ℕ) (cells : List Cell) → list_all (is_cell_below rows cols) cells ≡ true → (row col : ElementId)
    → is_name_below rows row && is_name_below cols col ≡ false → cell_value row col cells ≡ None
none-unmade rows cols [] h row col g = refl
none-unmade rows cols (cell ∷ cells) h row col g =
    let p = both (is_cell_below rows cols cell) (list_all (is_cell_below rows cols) cells) h in
    step (is_cell row col cell) refl p.0 (none-unmade rows cols cells p.1 row col g)
  where
    step : (b : Bool) → is_cell row col cell ≡ b → is_cell_below rows cols cell ≡ true → cell_value row col cells ≡ None
        → option_map (λ (c : Cell). c.value) (cond b (Some cell) (find (is_cell row col) cells)) ≡ None
    step false e q n = n
    step true e q n =
        let p = both (same_id row cell.row) (same_id col cell.col) e in
        let a = same_id-eq row cell.row p.0 in
        let b = same_id-eq col cell.col p.1 in
        cc (sym g ∙ ap (λ i. is_name_below rows i && is_name_below cols col) a ∙ ap (λ i. is_name_below rows cell.row && is_name_below cols i) b ∙ q)

-- and so each cell is of such ones
cells-made : (rows cols : ℕ) (cells : List Cell) → ((row col : ElementId) → is_name_below rows row && is_name_below cols col ≡ false → cell_value row col cells ≡ None)
    → list_all (is_cell_below rows cols) cells ≡ true
cells-made rows cols [] f = refl
cells-made rows cols (cell ∷ cells) f =
    rw (here (is_cell_below rows cols cell) refl) (cells-made rows cols cells (λ row col g. later row col (is_cell row col cell) (f row col g)))
  where
    found : (b : Bool) → b ≡ true → option_map (λ (c : Cell). c.value) (cond b (Some cell) (find (is_cell cell.row cell.col) cells)) ≡ None → ⊥
    found true e h = (cc)
    found false e h = (cc)

    here : (b : Bool) → is_cell_below rows cols cell ≡ b → b ≡ true
    here true e = refl
    here false e = absurd (found (is_cell cell.row cell.col cell) (rw (same_id-refl cell.row, same_id-refl cell.col) refl) (f cell.row cell.col e))

    later : (row col : ElementId) (b : Bool) → option_map (λ (c : Cell). c.value) (cond b (Some cell) (find (is_cell row col) cells)) ≡ None → cell_value row col cells ≡ None
    later row col true h = (cc)
    later row col false h = h

-- ---- the stages

module _ (x : NaiveClient) (text rows cols : Sequence) (cells : List Cell) (kt : KeepsList (floor x) (holds_text x) text x.doc.text)
    (kr : KeepsList (floor x) (holds_row x) rows x.doc.rows) (kc : KeepsList (floor x) (holds_col x) cols x.doc.cols) where
  abbrev kept_doc : Document
  kept_doc = record x.doc { text = text; rows = rows; cols = cols; cells = cells }

  typed-kept : (j : ℕ) (names : NamedElements) (o : SubOperation)
      → ((a : ElementId) → stage_holds_text a (record { stage = j; sub_operation = o; names = names }) ≡ true → holds_text x a ≡ true)
      → IsTyped j x.doc names o → IsTyped j (record x.doc { text = text; rows = rows; cols = cols; cells = cells }) names o
  typed-kept j names (OnText (Insert p seg props)) f h = subst (λ es. IsBlockOf (apply [] props) (segment_contents seg) es) (sym (inserted-kept j kt.items)) h
  typed-kept j names (OnText (Remove p q)) f h = tt
  typed-kept j names (OnText (Annotate p q changes)) f h = each-kept _ (λ e r. r) kt.items h
  typed-kept j names (OnIntervals op) f h = ends-there names.first names.second f kt.items h
  typed-kept j names (OnGrid (SpliceIn Rows p count)) f h = subst (λ es. IsBlockOf [] (replicate count GridUnit) es) (sym (inserted-kept j kr.items)) h
  typed-kept j names (OnGrid (SpliceIn Cols p count)) f h = subst (λ es. IsBlockOf [] (replicate count GridUnit) es) (sym (inserted-kept j kc.items)) h
  typed-kept j names (OnGrid (SpliceOut target p q)) f h = tt
  typed-kept j names (OnGrid (Set p q value)) f h = tt

  or-left : (a b : Bool) → a ≡ true → a || b ≡ true
  or-left true b h = refl
  or-left false b h = (cc)

  or-right : (a b : Bool) → b ≡ true → a || b ≡ true
  or-right a b h = rw h (or-true a)

  stages-typed : (ts : List Stage) → ((a : ElementId) → list_any (stage_holds_text a) ts ≡ true → holds_text x a ≡ true)
      → Each (λ t. IsTyped t.stage x.doc t.names t.sub_operation) ts
      → Each (λ t. IsTyped t.stage (record x.doc { text = text; rows = rows; cols = cols; cells = cells }) t.names t.sub_operation) ts
  stages-typed [] f h = tt
  stages-typed (t ∷ ts) f h = (
    typed-kept t.stage t.names t.sub_operation (λ a e. f a (or-left (stage_holds_text a t) (list_any (stage_holds_text a) ts) e)) h.0,
    stages-typed ts (λ a e. f a (or-right (stage_holds_text a t) (list_any (stage_holds_text a) ts) e)) h.1,
  )

  write-kept : (j : ℕ) (names : NamedElements) (o : SubOperation) → writes_known_units x.doc.rows.items x.doc.cols.items (record { stage = j; sub_operation = o; names = names }) ≡ true
      → writes_known_units rows.items cols.items (record { stage = j; sub_operation = o; names = names }) ≡ true
  write-kept j names (OnText op) h = refl
  write-kept j names (OnIntervals op) h = refl
  write-kept j names (OnGrid (SpliceIn target p count)) h = refl
  write-kept j names (OnGrid (SpliceOut target p q)) h = refl
  write-kept j names (OnGrid (Set p q value)) h =
      let b = both (is_inserted_before j x.doc.rows.items names.first) (is_inserted_before j x.doc.cols.items names.second) h in
      rw (before-kept j names.first kr.items b.0, before-kept j names.second kc.items b.1) refl

  writes-kept : (ts : List Stage) → list_all (writes_known_units x.doc.rows.items x.doc.cols.items) ts ≡ true → list_all (writes_known_units rows.items cols.items) ts ≡ true
  writes-kept [] h = refl
  writes-kept (t ∷ ts) h =
      let p = both (writes_known_units x.doc.rows.items x.doc.cols.items t) (list_all (writes_known_units x.doc.rows.items x.doc.cols.items) ts) h in
      rw (write-kept t.stage t.names t.sub_operation p.0, writes-kept ts p.1) refl

  shape-ready : IsReady x → AllRuns x.doc.text.items → AllRuns x.doc.rows.items → AllRuns x.doc.cols.items → list_all (has_ends_on text.items) x.doc.intervals ≡ true
      → list_all (is_cell_below rows.made cols.made) cells ≡ true
      → IsReady (record x { doc = record x.doc { text = text; rows = rows; cols = cols; cells = cells } })
  shape-ready r rt rr rc ends below = record {
    stages = r.stages;
    text = ready-kept _ _ _ _ _ text x.doc.text kt rt r.text;
    rows = ready-kept _ _ _ _ _ rows x.doc.rows kr rr r.rows;
    cols = ready-kept _ _ _ _ _ cols x.doc.cols kc rc r.cols;
    ends = ends;
    typed = stages-typed (stages_of x) (λ a e. or-right (list_any (interval_holds a) x.doc.intervals) (list_any (stage_holds_text a) (stages_of x)) e) r.typed;
    writes = writes-kept (stages_of x) r.writes;
    cells = below;
    edits = r.edits;
  }

-- ---- the client

-- its lists have the elements of each stage side by side
pub record HasRuns (doc : Document) : Type 0 where
  pub text : AllRuns doc.text.items
  pub rows : AllRuns doc.rows.items
  pub cols : AllRuns doc.cols.items

runs-from : (start : Document) (steps : List ClientStep) (x : NaiveClient) → IsRunFrom start steps x → HasRuns x.doc
runs-from start steps x run =
    let s = all-stepped-from start steps x run in
    let h = s.client.doc in
    let n = x.doc.number in
    let ts = flat s.gss in
    record {
      text = all-runs s.c x.doc (λ d. d.text.items) text_edit (λ t i. i.text) n ts h.text h.stand;
      rows = all-runs s.c x.doc (λ d. d.rows.items) rows_edit (λ t i. i.rows) n ts h.rows h.stand;
      cols = all-runs s.c x.doc (λ d. d.cols.items) cols_edit (λ t i. i.cols) n ts h.cols h.stand;
    }

-- and so has a client that keeps it
kept-runs : (x kept : NaiveClient) → HasRuns x.doc → IsCompacted kept x → HasRuns kept.doc
kept-runs x kept r k = record { text = runs-kept k.doc.text.items r.text; rows = runs-kept k.doc.rows.items r.rows; cols = runs-kept k.doc.cols.items r.cols }

filter-map : {A B : Type 0} (is : A → Bool) (f : B → A) (xs : List B) → filter is (map f xs) ≡ map f (filter (λ x. is (f x)) xs)
filter-map is f [] = refl
filter-map is f (x ∷ xs) = grind (arith, filter-map is f xs)

-- without names
nameless-runs : (xs : List ListElement) → AllRuns xs → StandInRuns (map nameless xs)
nameless-runs xs r k =
    let of : NamelessElement → Bool = λ e. is_of_stage (suc k) e.stamps.ins in
    let near : NamelessElement → Bool = λ e. seen_at e.stamps k || is_of_stage (suc k) e.stamps.ins in
    ap (is_one_run of) (filter-map near nameless xs) ∙ one_run-map of (is_inserted_by (suc k)) nameless (λ e. refl) (filter (wide k) xs) ∙ wide-run k xs (r k)

pub kept-stage_runs : (steps : List ClientStep) (x kept : NaiveClient) → IsSoundRun steps x → IsCompacted kept x → HasStageRuns kept.doc
kept-stage_runs steps x kept run k =
    let r = kept-runs x kept (runs-from run.start steps x run.run) k in
    record { text = nameless-runs kept.doc.text.items r.text; rows = nameless-runs kept.doc.rows.items r.rows; cols = nameless-runs kept.doc.cols.items r.cols }

pub kept-ready : (steps : List ClientStep) (x kept : NaiveClient) → IsSoundRun steps x → IsCompacted kept x → IsReady kept
kept-ready steps x kept run k =
    let r = (run-facts steps x run).ready in
    let runs = runs-from run.start steps x run.run in
    let ends = (soundly-kept steps x kept run k).ends in
    let same : kept.doc.intervals ≡ x.doc.intervals = ap (λ (d : Document). d.intervals) k.doc.rest in
    let below : list_all (is_cell_below kept.doc.rows.made kept.doc.cols.made) kept.doc.cells ≡ true =
    cells-made kept.doc.rows.made kept.doc.cols.made kept.doc.cells
    (λ row col g. k.doc.cells.none row col (none-unmade x.doc.rows.made x.doc.cols.made x.doc.cells r.cells row col
    (ap (λ n. is_name_below n row && is_name_below x.doc.cols.made col) (sym k.doc.rows.made)
    ∙ ap (λ n. is_name_below kept.doc.rows.made row && is_name_below n col) (sym k.doc.cols.made) ∙ g))) in
    subst IsReady (sym (kept-shape x kept k))
    (shape-ready x kept.doc.text kept.doc.rows kept.doc.cols kept.doc.cells k.doc.text k.doc.rows k.doc.cols r runs.text runs.rows runs.cols
    (subst (λ is. list_all (has_ends_on kept.doc.text.items) is ≡ true) same ends) below)
