-- A document in which a client's pending stages were sequenced, beside the client's at the last of these stages.
use Rattle.std.proofs.Common.{◌≡◌, ℕ, zero, suc, ◌-◌, ◌<◌, ◌≤◌, Bool, true, false, cond, not, ◌&&◌, List, [], ◌∷◌, ◌++◌, Option, Some, None, refl, sym, ◌∙◌, ap, subst, arith, filter, map, nat_eq, nat_le, replicate, length}
use Rattle.std.specs.List.{list_all, list_any}
use Rattle.std.specs.Option.{option_map}
use Rattle.ft_base.specs.declared.stamps.Stamp.TheVariants.{Acked}
use Rattle.ft_base.specs.Scan.{at, len, rank, retain_map}
use Rattle.ft_base.specs.Visibility.{is_acked}
use Rattle.ft_base.proofs.Booleans.{both}
use Rattle.ft_op.specs.declared.operations.Seg.{Seg}
use Rattle.ft_op.specs.declared.operations.BaseOp.{BaseOp}
use Rattle.ft_op.specs.declared.operations.BaseOp.TheVariants.{Annotate, Insert, Remove}
use Rattle.ft_op.specs.declared.operations.CellOp.TheVariants.{Set, SpliceIn, SpliceOut}
use Rattle.ft_op.specs.declared.operations.Target.{Target}
use Rattle.ft_op.specs.declared.operations.Target.TheVariants.{Cols, Rows}
use Rattle.ft_op.specs.declared.operations.TextOp.{TextOp}
use Rattle.ft_op.specs.declared.operations.TextOp.TheVariants.{Group, IntervalAdd, IntervalChange, IntervalDelete, One}
use Rattle.ft_props.specs.declared.properties.Changes.{Changes}
use Rattle.ft_props.specs.Properties.{PropertySet, ValueBytes, apply}
use Rattle.ft_props.specs.Overlay.{StagesRise}
use Rattle.ft_props.specs.Element.{ElementContent, ElementId, GridUnit, ListElement, has_id, id, is_sequenced, is_unremoved, seen, seen_by, with_annotation, with_removal, without_pending}
use Rattle.ft_props.specs.Steps.{after_insertion, carried_element, is_annotated_by, is_inserted_by, is_removed_by, lowered_runs, marked_runs, stage_position}
use Rattle.ft_props.specs.Slide.{end_number, settle}
use Rattle.ft_op.specs.Operation.{OnGrid, OnIntervals, OnText, SubOperation, segment_contents}
use Rattle.ft_op.specs.Cells.{Cell, write_cell}
use Rattle.ft_op.specs.Document.{Document, cell_effect, rows_or_cols, effects, elements_at_given_ends, ends_of, given_ends_fit, grid_effect, interval_effect, text_effect, with_skip, with_slid_ends}
use Rattle.ft_op.specs.Intervals.{Interval, after_interval_operation, element_at_end, elements_at_ends, ends_fit, no_elements, settle_elements, settle_ends, slide_ends}
use Rattle.ft_op.specs.Pieces.{ends_in, grid_pieces, interval_piece, is_named_and_seen, position_of_named, pieces, text_pieces, unless_empty}
use Rattle.ft_op.specs.Stages.{Stage, intervals_after_stage}
use Rattle.ft_msg.specs.Client.{NaiveClient, stages_of}
use Rattle.ft_msg.specs.Content.{cell_after_stage}
use Rattle.ft_laws_agreement.specs.Reconnecting.{StagesRiseTo, has_some, inserts_text, removes_text, writes_known_units}
use Rattle.ft_laws_agreement.specs.Sequencing.{Each, IsBlockOf, are_ends_in, IsReady, IsTyped, IsTypedText, annotates_text, inserts_in, no_kind, removes_in}
use Rattle.ft_laws_agreement.specs.Trimming.{IsConsistent, are_distinct_elements}
use Rattle.ft_laws_agreement.proofs.AfterOwnJoin.{stage-views}
use Rattle.ft_laws_agreement.proofs.ConsistentDocument.{cell_effect-consistent, effect-consistent, effects-consistent}
use Rattle.ft_laws_agreement.proofs.DistinctStages.{stage_list-distinct}
use Rattle.ft_laws_agreement.proofs.ListStages.{left_change, left_changes, still-seen-kept}
use Rattle.ft_laws_agreement.proofs.ListSteps.{annotated, len-view, same-view, inserted, place-fits, removed, untouched}
use Rattle.ft_laws_agreement.proofs.OwnNames.{all-weaker, has_named}
use Rattle.ft_laws_agreement.proofs.PairedIntervals.{AreNamedPairs, IntervalPairs, operation-pairs, pairs-settled, pairs-stay}
use Rattle.ft_laws_agreement.proofs.PairedLists.{IsEndPair, Pair, at-pair, len-map, each-append, each-both, each-put, each-with, has_pair, lefts, rights}
use Rattle.ft_laws_agreement.proofs.PendingWrites.{set-gone}
use Rattle.ft_laws_agreement.proofs.PieceEffects.{annotations, removals, splices}
use Rattle.ft_laws_agreement.proofs.RunsOfMarks.{change_runs}
use Rattle.ft_laws_agreement.proofs.SequencedStages.{Beside, Image, Onward}
use Rattle.ft_laws_agreement.proofs.SettledEnds.{SameViews, ends-at, ends-fit, ends-other, ends-same, ends-stay, has_ends_at, is_end_at, named-filter, number-same, settle-at, is_left, left-next, next-left, still-ends, still-seen-before}
use Rattle.ft_laws_agreement.proofs.TrimmedDocument.{operation-held}
use Rattle.ft_laws_agreement.proofs.StageViews.{rise-below, stage_list}

-- ---- facts of the list up to a stage

each-kept : (R : ListElement → Type 0) (test : ListElement → Bool) (xs : List ListElement) → Each R xs → Each R (filter test xs)
each-kept R test [] h = tt
each-kept R test (e ∷ xs) h = step (test e) (each-kept R test xs h.1)
  where
    step : (b : Bool) → Each R (filter test xs) → Each R (cond b (e ∷ filter test xs) (filter test xs))
    step true g = (h.0, g)
    step false g = g

each-carried : (R : ListElement → Type 0) → ((e : ListElement) → R e → R (carried_element e)) → (xs : List ListElement) → Each R xs
    → Each R (retain_map is_sequenced carried_element xs)
each-carried R f [] h = tt
each-carried R f (e ∷ xs) h = step (is_sequenced e) (each-carried R f xs h.1)
  where
    step : (b : Bool) → Each R (retain_map is_sequenced carried_element xs)
        → Each R (cond b (carried_element e ∷ retain_map is_sequenced carried_element xs) (retain_map is_sequenced carried_element xs))
    step true g = (f e h.0, g)
    step false g = g

pub each-stage_list : (R : ListElement → Type 0) → ((e : ListElement) → R e → R (carried_element e)) → (xs : List ListElement) → Each R xs → (k : ℕ) → Each R (stage_list xs k)
each-stage_list R f xs h zero = each-carried R f xs h
each-stage_list R f xs h (suc k) = each-put R (seen (suc k - 1)) (stage_position (suc k) xs) (filter (is_inserted_by (suc k)) xs) (stage_list xs k)
    (each-kept R (is_inserted_by (suc k)) xs h) (each-stage_list R f xs h k)

-- the cells after a write, if there is one
abbrev pub written : Option Cell → List Cell → List Cell
written None cells = cells
written (Some w) cells = write_cell w cells

-- the stages so far, each with the write that it made
abbrev pub Log : Type 0
Log = List (Stage × Option Cell)

abbrev pub written_cells : Log → List Cell → List Cell
written_cells [] cells = cells
written_cells (l ∷ log) cells = written_cells log (written l.1 cells)

pub written-append : (log : Log) (l : Stage × Option Cell) (cells : List Cell) → written_cells (log ++ (l ∷ [])) cells ≡ written l.1 (written_cells log cells)
written-append [] l cells = refl
written-append (k ∷ log) l cells = written-append log l (written k.1 cells)

map-append : {A B : Type 0} (f : A → B) (xs ys : List A) → map f (xs ++ ys) ≡ map f xs ++ map f ys
map-append f [] ys = refl
map-append f (x ∷ xs) ys = ap (λ zs. f x ∷ zs) (map-append f xs ys)

-- a write of a stage to the units of a pair
pub record IsWritten (rows cols : List Pair) (t : Stage) (w : Cell) : Type 0 where
  pub i : ℕ
  pub j : ℕ
  pub row : ElementId
  pub col : ElementId
  pub op : t.sub_operation ≡ OnGrid (Set i j w.value)
  pub first : t.names.first ≡ Some row
  pub second : t.names.second ≡ Some col
  pub row_pair : has_pair rows row w.row ≡ true
  pub col_pair : has_pair cols col w.col ≡ true

pub rank-same : (is see other : ListElement → Bool) (xs : List ListElement) → Each (λ e. see e ≡ other e) xs → rank is see xs ≡ rank is other xs
rank-same is see other [] h = refl
rank-same is see other (e ∷ xs) h = rw (h.0, rank-same is see other xs h.1) refl

-- the unit at the number of one that is named
unit-pair : (n conn made k : ℕ) (xs ds : List ListElement) → SameViews k xs (stage_list xs k) → are_distinct_elements xs ≡ true
    → (b : Beside n conn made k (stage_list xs k) ds) → Each (λ e. seen (k - 1) e ≡ seen k e) xs
    → (y : ElementId) → has_named (seen k) xs y ≡ true → IsEndPair b.pairs (Some y) (option_map id (at (seen_by n conn) (rank (has_id y) (seen (k - 1)) xs) ds))
unit-pair n conn made k xs ds v d b same y h =
    let left : are_distinct_elements (lefts b.pairs) ≡ true = subst (λ us. are_distinct_elements us ≡ true) (sym b.left) (stage_list-distinct xs d k) in
    let there : list_any (λ e. has_id y e && seen k e) (lefts b.pairs) ≡ true =
    subst (λ us. has_named (seen k) us y ≡ true) (sym b.left) (named-filter (seen k) y (stage_list xs k) ∙ ap (list_any (has_id y)) (v.view k (omega arith))
    ∙ sym (named-filter (seen k) y xs) ∙ h) in
    let pair = at-pair k (seen_by n conn) b.pairs left (each-with (Image n conn made k) (λ p. seen_by n conn p.1 ≡ seen k p.0) (λ p i. i.perspective) b.pairs b.images) y there in
    let pair' = subst (λ us. IsEndPair b.pairs (Some y) (option_map id (at (seen_by n conn) (rank (has_id y) (seen k) us) (rights b.pairs)))) b.left pair in
    let pair'' = subst (λ us. IsEndPair b.pairs (Some y) (option_map id (at (seen_by n conn) (rank (has_id y) (seen k) (stage_list xs k)) us))) b.right pair' in
    subst (λ i. IsEndPair b.pairs (Some y) (option_map id (at (seen_by n conn) i ds))) (sym (rank-same (has_id y) (seen (k - 1)) (seen k) xs same))
    (subst (λ z. IsEndPair b.pairs (Some y) (element_at_end (seen_by n conn) ds z)) (number-same v d (Some y) h) pair'')

module _ (x : NaiveClient) (conn : ℕ) (ready : IsReady x) where
  abbrev n : ℕ
  n = x.doc.number

  -- a stage without a write changes no cell that is shown; one with a write is a cell write
  abbrev pub IsLogged : List Pair → List Pair → (Stage × Option Cell) → Type 0
  IsLogged rows cols (t, None) = (row col : ElementId) → has_named (seen x.last_stage) x.doc.rows.items row ≡ true
      → has_named (seen x.last_stage) x.doc.cols.items col ≡ true → (v : Option ValueBytes) → cell_after_stage row col t v ≡ v
  IsLogged rows cols (t, Some w) = IsWritten rows cols t w

  pub record Follows (k : ℕ) (is : List Interval) (done : List Stage) (d : Document) : Type 0 where
    pub text : Beside n conn x.doc.text.made k (stage_list x.doc.text.items k) d.text.items
    pub rows : Beside n conn x.doc.rows.made k (stage_list x.doc.rows.items k) d.rows.items
    pub cols : Beside n conn x.doc.cols.made k (stage_list x.doc.cols.items k) d.cols.items
    pub sound : IsConsistent d
    pub text_made : x.doc.text.made ≤ d.text.made
    pub rows_made : x.doc.rows.made ≤ d.rows.made
    pub cols_made : x.doc.cols.made ≤ d.cols.made
    pub ends : list_all (has_ends_at k x.doc.text.items) is ≡ true
    pub intervals : IntervalPairs text.pairs is d.intervals
    pub log : Log
    pub logged : map (λ l. l.0) log ≡ done
    pub cells : d.cells ≡ written_cells log x.doc.cells
    pub entries : Each (IsLogged rows.pairs cols.pairs) log

  -- what is pending is of stages up to j, or of these
  pub record Ahead (stages : List Stage) (j : ℕ) : Type 0 where
    pub rise : StagesRiseTo j stages x.last_stage
    pub text_left : list_all (is_left inserts_text removes_text stages j) x.doc.text.items ≡ true
    pub text_changes : list_all (left_changes annotates_text stages j) x.doc.text.items ≡ true
    pub rows_left : list_all (is_left (inserts_in Rows) (removes_in Rows) stages j) x.doc.rows.items ≡ true
    pub rows_changes : list_all (left_changes no_kind stages j) x.doc.rows.items ≡ true
    pub cols_left : list_all (is_left (inserts_in Cols) (removes_in Cols) stages j) x.doc.cols.items ≡ true
    pub cols_changes : list_all (left_changes no_kind stages j) x.doc.cols.items ≡ true

  changes-next : (annotates : SubOperation → Bool) (t : Stage) (stages : List Stage) (j : ℕ) → j < t.stage → (xs : List ListElement)
      → list_all (left_changes annotates (t ∷ stages) j) xs ≡ true → list_all (left_changes annotates stages t.stage) xs ≡ true
  changes-next annotates t stages j l xs h =
      all-weaker (left_changes annotates (t ∷ stages) j) (left_changes annotates stages t.stage)
      (λ e k. all-weaker (left_change annotates (t ∷ stages) j) (left_change annotates stages t.stage)
      (λ q g. next-left annotates annotates annotates q.0 j t.stage (annotates t.sub_operation) _ l g) e.pending k) xs h

  pub ahead-next : (t : Stage) (stages : List Stage) (j : ℕ) → Ahead (t ∷ stages) j → Ahead stages t.stage
  ahead-next t stages j a =
      let l : j < t.stage = a.rise.0 in
      record {
        rise = a.rise.1;
        text_left = all-weaker (is_left inserts_text removes_text (t ∷ stages) j) (is_left inserts_text removes_text stages t.stage)
            (λ e q. left-next inserts_text removes_text t stages j e l q) x.doc.text.items a.text_left;
        text_changes = changes-next annotates_text t stages j l x.doc.text.items a.text_changes;
        rows_left = all-weaker (is_left (inserts_in Rows) (removes_in Rows) (t ∷ stages) j) (is_left (inserts_in Rows) (removes_in Rows) stages t.stage)
            (λ e q. left-next (inserts_in Rows) (removes_in Rows) t stages j e l q) x.doc.rows.items a.rows_left;
        rows_changes = changes-next no_kind t stages j l x.doc.rows.items a.rows_changes;
        cols_left = all-weaker (is_left (inserts_in Cols) (removes_in Cols) (t ∷ stages) j) (is_left (inserts_in Cols) (removes_in Cols) stages t.stage)
            (λ e q. left-next (inserts_in Cols) (removes_in Cols) t stages j e l q) x.doc.cols.items a.cols_left;
        cols_changes = changes-next no_kind t stages j l x.doc.cols.items a.cols_changes;
      }

  -- ---- views

  pub text-views : (k : ℕ) → SameViews k x.doc.text.items (stage_list x.doc.text.items k)
  text-views k = stage-views inserts_text removes_text (stages_of x) x.last_stage ready.stages x.doc.text ready.text.place k

  pub row-views : (k : ℕ) → SameViews k x.doc.rows.items (stage_list x.doc.rows.items k)
  row-views k = stage-views (inserts_in Rows) (removes_in Rows) (stages_of x) x.last_stage ready.stages x.doc.rows ready.rows.place k

  pub col-views : (k : ℕ) → SameViews k x.doc.cols.items (stage_list x.doc.cols.items k)
  col-views k = stage-views (inserts_in Cols) (removes_in Cols) (stages_of x) x.last_stage ready.stages x.doc.cols ready.cols.place k

  module _ (t : Stage) (stages : List Stage) (j : ℕ) (a : Ahead (t ∷ stages) j) (is : List Interval) (done : List Stage) (d : Document) (f : Follows j is done d) where
    above : j < t.stage
    above = a.rise.0

    -- the document after the stage, of which all parts are known
    carry : (d' : Document) → IsConsistent d'
        → (text : Onward n conn x.doc.text.made j t.stage f.text (stage_list x.doc.text.items t.stage) d'.text.items) → x.doc.text.made ≤ d'.text.made
        → (rows : Onward n conn x.doc.rows.made j t.stage f.rows (stage_list x.doc.rows.items t.stage) d'.rows.items) → x.doc.rows.made ≤ d'.rows.made
        → (cols : Onward n conn x.doc.cols.made j t.stage f.cols (stage_list x.doc.cols.items t.stage) d'.cols.items) → x.doc.cols.made ≤ d'.cols.made
        → (is' : List Interval) → list_all (has_ends_at t.stage x.doc.text.items) is' ≡ true → IntervalPairs text.next.pairs is' d'.intervals
        → (o : Option Cell) → d'.cells ≡ written o d.cells → IsLogged rows.next.pairs cols.next.pairs (t, o)
        → Follows t.stage is' (done ++ (t ∷ [])) d'
    carry d' sound text tm rows rm cols cm is' ends intervals o cells entry = record {
      text = text.next;
      rows = rows.next;
      cols = cols.next;
      sound = sound;
      text_made = tm;
      rows_made = rm;
      cols_made = cm;
      ends = ends;
      intervals = intervals;
      log = f.log ++ ((t, o) ∷ []);
      logged = map-append (λ (l : Stage × Option Cell). l.0) f.log ((t, o) ∷ []) ∙ ap (λ ts. ts ++ (t ∷ [])) f.logged;
      cells = cells ∙ ap (written o) f.cells ∙ sym (written-append f.log (t, o) x.doc.cells);
      entries = each-append (IsLogged rows.next.pairs cols.next.pairs) f.log ((t, o) ∷ [])
          (each-with (IsLogged f.rows.pairs f.cols.pairs) (IsLogged rows.next.pairs cols.next.pairs) still f.log f.entries) (entry, tt);
    }
      where
        still : (l : Stage × Option Cell) → IsLogged f.rows.pairs f.cols.pairs l → IsLogged rows.next.pairs cols.next.pairs l
        still (u, None) h = h
        still (u, Some w) h = record {
          i = h.i;
          j = h.j;
          row = h.row;
          col = h.col;
          op = h.op;
          first = h.first;
          second = h.second;
          row_pair = rows.stays h.row
              w.row h.row_pair;
          col_pair = cols.stays h.col w.col h.col_pair;
        }

    text-untouched : inserts_text t.sub_operation ≡ false → removes_text t.sub_operation ≡ false → annotates_text t.sub_operation ≡ false
        → Onward n conn x.doc.text.made j t.stage f.text (stage_list x.doc.text.items t.stage) d.text.items
    text-untouched i r c =
        untouched inserts_text removes_text annotates_text t stages j x.last_stage above a.rise.1 x.doc.text.items a.text_left a.text_changes
        (λ i k l. (text-views i).view k l) n conn x.doc.text.made i r c d.text.items f.text

    rows-untouched : inserts_in Rows t.sub_operation ≡ false → removes_in Rows t.sub_operation ≡ false
        → Onward n conn x.doc.rows.made j t.stage f.rows (stage_list x.doc.rows.items t.stage) d.rows.items
    rows-untouched i r =
        untouched (inserts_in Rows) (removes_in Rows) no_kind t stages j x.last_stage above a.rise.1 x.doc.rows.items a.rows_left a.rows_changes
        (λ i k l. (row-views i).view k l) n conn x.doc.rows.made i r refl d.rows.items f.rows

    cols-untouched : inserts_in Cols t.sub_operation ≡ false → removes_in Cols t.sub_operation ≡ false
        → Onward n conn x.doc.cols.made j t.stage f.cols (stage_list x.doc.cols.items t.stage) d.cols.items
    cols-untouched i r =
        untouched (inserts_in Cols) (removes_in Cols) no_kind t stages j x.last_stage above a.rise.1 x.doc.cols.items a.cols_left a.cols_changes
        (λ i k l. (col-views i).view k l) n conn x.doc.cols.made i r refl d.cols.items f.cols

    -- ends stay where the stage removes nothing of the text
    kept-ends : removes_text t.sub_operation ≡ false → list_all (has_ends_at t.stage x.doc.text.items) is ≡ true
    kept-ends r = still-ends j t.stage x.doc.text.items (still-seen-kept inserts_text removes_text annotates_text t stages j x.last_stage above a.rise.1 r
        x.doc.text.items a.text_left) is f.ends

    kept-intervals : removes_text t.sub_operation ≡ false → settle_ends x.doc.text.items t.stage is ≡ is
    kept-intervals r = ends-stay t.stage x.doc.text.items ready.text.place.distinct is (kept-ends r)

    -- a stage that changes nothing
    idle : inserts_text t.sub_operation ≡ false → removes_text t.sub_operation ≡ false → annotates_text t.sub_operation ≡ false
        → inserts_in Rows t.sub_operation ≡ false → removes_in Rows t.sub_operation ≡ false → inserts_in Cols t.sub_operation ≡ false → removes_in Cols t.sub_operation ≡ false
        → ((row col : ElementId) → has_named (seen x.last_stage) x.doc.rows.items row ≡ true → has_named (seen x.last_stage) x.doc.cols.items col ≡ true
        → (v : Option ValueBytes) → cell_after_stage row col t v ≡ v)
        → Follows t.stage (settle_ends x.doc.text.items t.stage is) (done ++ (t ∷ [])) d
    idle ti tr ta ri rr ci cr neutral =
        let text = text-untouched ti tr ta in
        subst (λ js. Follows t.stage js (done ++ (t ∷ [])) d) (sym (kept-intervals tr))
        (carry d f.sound text f.text_made (rows-untouched ri rr) f.rows_made (cols-untouched ci cr) f.cols_made is (kept-ends tr)
        (pairs-stay f.text.pairs text.next.pairs text.stays is d.intervals f.intervals) None refl neutral)

    neutral-text : (op : BaseOp) → t.sub_operation ≡ OnText op → (row col : ElementId) → has_named (seen x.last_stage) x.doc.rows.items row ≡ true
        → has_named (seen x.last_stage) x.doc.cols.items col ≡ true → (v : Option ValueBytes) → cell_after_stage row col t v ≡ v
    neutral-text op e row col _ _ v = subst (λ o. cell_after_stage row col (record { stage = t.stage; sub_operation = o; names = t.names }) v ≡ v) (sym e) refl

    neutral-in : (target : Target) (p count : ℕ) → t.sub_operation ≡ OnGrid (SpliceIn target p count) → (row col : ElementId)
        → has_named (seen x.last_stage) x.doc.rows.items row ≡ true → has_named (seen x.last_stage) x.doc.cols.items col ≡ true → (v : Option ValueBytes)
        → cell_after_stage row col t v ≡ v
    neutral-in target p count e row col _ _ v = subst (λ o. cell_after_stage row col (record { stage = t.stage; sub_operation = o; names = t.names }) v ≡ v) (sym e) refl

    neutral-out : (target : Target) (p q : ℕ) → t.sub_operation ≡ OnGrid (SpliceOut target p q) → (row col : ElementId)
        → has_named (seen x.last_stage) x.doc.rows.items row ≡ true → has_named (seen x.last_stage) x.doc.cols.items col ≡ true → (v : Option ValueBytes)
        → cell_after_stage row col t v ≡ v
    neutral-out target p q e row col _ _ v = subst (λ o. cell_after_stage row col (record { stage = t.stage; sub_operation = o; names = t.names }) v ≡ v) (sym e) refl

    neutral-intervals : (op : TextOp) → t.sub_operation ≡ OnIntervals op → (row col : ElementId) → has_named (seen x.last_stage) x.doc.rows.items row ≡ true
        → has_named (seen x.last_stage) x.doc.cols.items col ≡ true → (v : Option ValueBytes) → cell_after_stage row col t v ≡ v
    neutral-intervals op e row col _ _ v = subst (λ o. cell_after_stage row col (record { stage = t.stage; sub_operation = o; names = t.names }) v ≡ v) (sym e) refl

    -- ---- the text

    module _ (s : ℕ) where
      insertion-follows : (p : ℕ) (seg : Seg) (props : PropertySet) (b : ElementContent) (bs : List ElementContent) → t.sub_operation
          ≡ OnText (Insert p seg props) → segment_contents seg ≡ b ∷ bs
          → IsTypedText t.stage x.doc.text.items (Insert p seg props)
          → Follows t.stage (settle_ends x.doc.text.items t.stage is) (done ++ (t ∷ [])) (text_effect d s conn n (Insert (stage_position t.stage x.doc.text.items) seg props))
      insertion-follows p seg props b bs o c typed =
          let k = t.stage in
          let pos = stage_position k x.doc.text.items in
          let by = Some (Acked s conn) in
          let d1 : Document = record d { text = after_insertion s conn n pos by (apply [] props) (segment_contents seg) d.text } in
          let fits : nat_le pos (len (seen_by n conn) d.text.items) ≡ true =
          place-fits inserts_text removes_text annotates_text t stages j x.last_stage above a.rise.1 x.doc.text.items a.text_left a.text_changes
          (λ i k l. (text-views i).view k l) n conn x.doc.text.made d.text.items f.text in
          let e : text_effect d s conn n (Insert pos seg props) ≡ d1 = ap (λ c. cond c d1 (with_skip d)) fits in
          let text : Onward n conn x.doc.text.made j k f.text (stage_list x.doc.text.items k) d1.text.items =
          inserted inserts_text removes_text annotates_text t stages j x.last_stage above a.rise.1 x.doc.text.items a.text_left a.text_changes
          (λ i k l. (text-views i).view k l) n conn x.doc.text.made
          (ap removes_text o) (ap annotates_text o) ready.text.later s by (apply [] props) (segment_contents seg) typed d.text f.text_made f.text in
          let more : x.doc.text.made ≤ d1.text.made = (let h = f.text_made in omega arith) in
          let tr : removes_text t.sub_operation ≡ false = ap removes_text o in
          subst (λ z. Follows k (settle_ends x.doc.text.items k is) (done ++ (t ∷ [])) z) (sym e)
          (subst (λ js. Follows k js (done ++ (t ∷ [])) d1) (sym (kept-intervals tr))
          (carry d1 (subst IsConsistent e (effect-consistent d s conn n (OnText (Insert pos seg props)) f.sound)) text more
          (rows-untouched (ap (inserts_in Rows) o) (ap (removes_in Rows) o)) f.rows_made (cols-untouched (ap (inserts_in Cols) o) (ap (removes_in Cols) o)) f.cols_made
          is (kept-ends tr) (pairs-stay f.text.pairs text.next.pairs text.stays is d.intervals f.intervals) None refl (neutral-text (Insert p seg props) o)))

      removal-follows : (p q : ℕ) → t.sub_operation ≡ OnText (Remove p q)
          → Follows t.stage (settle_ends x.doc.text.items t.stage is) (done ++ (t ∷ [])) (effects d s conn n (text_pieces t.stage x.doc.text.items (Remove p q)))
      removal-follows p q o =
          let k = t.stage in
          let rs = lowered_runs 0 (marked_runs k (is_removed_by k) x.doc.text.items) in
          let d1 : Document = effects d s conn n (text_pieces k x.doc.text.items (Remove p q)) in
          let r = removals s conn n rs d f.sound in
          let items = change_runs (seen_by n conn) (with_removal s conn) rs d.text.items in
          let e : d1.text.items ≡ items = ap (λ l. l.items) r.text in
          let sound : IsConsistent d1 = effects-consistent d s conn n (text_pieces k x.doc.text.items (Remove p q)) f.sound in
          let text : Onward n conn x.doc.text.made j k f.text (stage_list x.doc.text.items k) d1.text.items =
          subst (λ us. Onward n conn x.doc.text.made j k f.text (stage_list x.doc.text.items k) us) (sym e)
          (removed inserts_text removes_text annotates_text t stages j x.last_stage above a.rise.1 x.doc.text.items a.text_left a.text_changes
          (λ i k l. (text-views i).view k l) n conn x.doc.text.made
          (ap inserts_text o) (ap annotates_text o) s d.text.items f.text) in
          let ps = text.next.pairs in
          let before : list_all (has_ends_at (k - 1) x.doc.text.items) is ≡ true = still-ends j (k - 1) x.doc.text.items
          (still-seen-before inserts_text removes_text t stages j x.last_stage above a.rise.1 x.doc.text.items a.text_left) is f.ends in
          let settled : settle_ends (lefts ps) k is ≡ settle_ends x.doc.text.items k is =
          ap (λ us. settle_ends us k is) text.next.left ∙ ends-same (text-views k) ready.text.place.distinct k (let l = above in omega arith) (omega arith) is before in
          let slid : slide_ends (rights ps) d.intervals ≡ d1.intervals = ap (λ us. slide_ends us d.intervals) (text.next.right ∙ e) ∙ sym r.ends in
          let pairs : IntervalPairs ps (settle_ends (lefts ps) k is) (slide_ends (rights ps) d.intervals) =
          pairs-settled k ps (subst (λ us. are_distinct_elements us ≡ true) (sym text.next.left) (stage_list-distinct x.doc.text.items ready.text.place.distinct k))
          (subst (λ us. are_distinct_elements us ≡ true) (sym text.next.right) sound.text.distinct)
          (each-with (Image n conn x.doc.text.made k) (λ p. is_unremoved p.1 ≡ seen k p.0) (λ p i. i.unremoved) ps text.next.images)
          (each-with (Image n conn x.doc.text.made k) (λ p. is_sequenced p.1 ≡ true) (λ p i. i.sequenced) ps text.next.images)
          is d.intervals (pairs-stay f.text.pairs ps text.stays is d.intervals f.intervals) in
          carry d1 sound text (subst (λ z. x.doc.text.made ≤ z) (sym (ap (λ l. l.made) r.text)) f.text_made)
          (subst (λ l. Onward n conn x.doc.rows.made j k f.rows (stage_list x.doc.rows.items k) l.items) (sym r.rows)
          (rows-untouched (ap (inserts_in Rows) o) (ap (removes_in Rows) o))) (subst (λ l. x.doc.rows.made ≤ l.made) (sym r.rows) f.rows_made)
          (subst (λ l. Onward n conn x.doc.cols.made j k f.cols (stage_list x.doc.cols.items k) l.items) (sym r.cols)
          (cols-untouched (ap (inserts_in Cols) o) (ap (removes_in Cols) o))) (subst (λ l. x.doc.cols.made ≤ l.made) (sym r.cols) f.cols_made)
          (settle_ends x.doc.text.items k is) (ends-at k x.doc.text.items is) (subst (λ us. IntervalPairs ps us d1.intervals) settled
          (subst (λ us. IntervalPairs ps (settle_ends (lefts ps) k is) us) slid pairs))
          None r.cells (neutral-text (Remove p q) o)

      annotation-follows : (p q : ℕ) (changes : Changes) → t.sub_operation ≡ OnText (Annotate p q changes) → IsTypedText t.stage x.doc.text.items (Annotate p q changes)
          → Follows t.stage (settle_ends x.doc.text.items t.stage is) (done ++ (t ∷ [])) (effects d s conn n (text_pieces t.stage x.doc.text.items (Annotate p q changes)))
      annotation-follows p q changes o typed =
          let k = t.stage in
          let rs = marked_runs k (is_annotated_by k) x.doc.text.items in
          let d1 : Document = effects d s conn n (text_pieces k x.doc.text.items (Annotate p q changes)) in
          let r = annotations s conn n changes rs d in
          let e : d1.text.items ≡ change_runs (seen_by n conn) (with_annotation changes) rs d.text.items = ap (λ l. l.items) r.text in
          let text : Onward n conn x.doc.text.made j k f.text (stage_list x.doc.text.items k) d1.text.items =
          subst (λ us. Onward n conn x.doc.text.made j k f.text (stage_list x.doc.text.items k) us) (sym e)
          (annotated inserts_text removes_text annotates_text t stages j x.last_stage above a.rise.1 x.doc.text.items a.text_left a.text_changes
          (λ i k l. (text-views i).view k l) n conn x.doc.text.made
          (ap inserts_text o) (ap removes_text o) changes
          (each-stage_list (λ e. StagesRise e.pending × Each (λ q. nat_eq q.0 k ≡ true → q.1 ≡ changes) e.pending) carried-typed x.doc.text.items
          (each-both (λ e. StagesRise e.pending) (λ e. Each (λ q. nat_eq q.0 k ≡ true → q.1 ≡ changes) e.pending)
          (λ e. StagesRise e.pending × Each (λ q. nat_eq q.0 k ≡ true → q.1 ≡ changes) e.pending) (λ e u v. (u, v)) x.doc.text.items ready.text.rising typed) j)
          d.text.items f.text) in
          let tr : removes_text t.sub_operation ≡ false = ap removes_text o in
          subst (λ js. Follows k js (done ++ (t ∷ [])) d1) (sym (kept-intervals tr))
          (carry d1 (effects-consistent d s conn n (text_pieces k x.doc.text.items (Annotate p q changes)) f.sound) text
          (subst (λ z. x.doc.text.made ≤ z) (sym (ap (λ l. l.made) r.text)) f.text_made)
          (subst (λ l. Onward n conn x.doc.rows.made j k f.rows (stage_list x.doc.rows.items k) l.items) (sym r.rows)
          (rows-untouched (ap (inserts_in Rows) o) (ap (removes_in Rows) o))) (subst (λ l. x.doc.rows.made ≤ l.made) (sym r.rows) f.rows_made)
          (subst (λ l. Onward n conn x.doc.cols.made j k f.cols (stage_list x.doc.cols.items k) l.items) (sym r.cols)
          (cols-untouched (ap (inserts_in Cols) o) (ap (removes_in Cols) o))) (subst (λ l. x.doc.cols.made ≤ l.made) (sym r.cols) f.cols_made)
          is (kept-ends tr) (subst (λ us. IntervalPairs text.next.pairs is us) (sym r.ends)
          (pairs-stay f.text.pairs text.next.pairs text.stays is d.intervals f.intervals)) None r.cells (neutral-text (Annotate p q changes) o))
        where
          carried-typed : (e : ListElement) → StagesRise e.pending × Each (λ q. nat_eq q.0 t.stage ≡ true → q.1 ≡ changes) e.pending
              → StagesRise (carried_element e).pending × Each (λ q. nat_eq q.0 t.stage ≡ true → q.1 ≡ changes) (carried_element e).pending
          carried-typed e h = step (list_any is_acked e.dels)
            where
              step : (b : Bool) → StagesRise (cond b (without_pending e) e).pending × Each (λ q. nat_eq q.0 t.stage ≡ true → q.1 ≡ changes) (cond b (without_pending e) e).pending
              step true = (tt, tt)
              step false = h

      -- ---- the rows and the columns

      row-insertion-follows : (p count : ℕ) → t.sub_operation ≡ OnGrid (SpliceIn Rows p count)
          → IsBlockOf [] (replicate count GridUnit) (filter (is_inserted_by t.stage) x.doc.rows.items)
          → Follows t.stage (settle_ends x.doc.text.items t.stage is) (done ++ (t ∷ [])) (grid_effect d s conn n (SpliceIn Rows (stage_position t.stage x.doc.rows.items) count))
      row-insertion-follows p count o typed =
          let k = t.stage in
          let pos = stage_position k x.doc.rows.items in
          let d1 : Document = record d { rows = after_insertion s conn n pos None [] (replicate count GridUnit) d.rows } in
          let fits : nat_le pos (len (seen_by n conn) d.rows.items) ≡ true =
          place-fits (inserts_in Rows) (removes_in Rows) no_kind t stages j x.last_stage above a.rise.1 x.doc.rows.items a.rows_left a.rows_changes
          (λ i k l. (row-views i).view k l) n conn x.doc.rows.made d.rows.items f.rows in
          let e : grid_effect d s conn n (SpliceIn Rows pos count) ≡ d1 = ap (λ c. cond c d1 (with_skip d)) fits in
          let rows : Onward n conn x.doc.rows.made j k f.rows (stage_list x.doc.rows.items k) d1.rows.items =
          inserted (inserts_in Rows) (removes_in Rows) no_kind t stages j x.last_stage above a.rise.1 x.doc.rows.items a.rows_left a.rows_changes
          (λ i k l. (row-views i).view k l) n conn x.doc.rows.made
          (ap (removes_in Rows) o) refl ready.rows.later s None [] (replicate count GridUnit) typed d.rows f.rows_made f.rows in
          let more : x.doc.rows.made ≤ d1.rows.made = (let h = f.rows_made in omega arith) in
          let tr : removes_text t.sub_operation ≡ false = ap removes_text o in
          let text = text-untouched (ap inserts_text o) tr (ap annotates_text o) in
          subst (λ z. Follows k (settle_ends x.doc.text.items k is) (done ++ (t ∷ [])) z) (sym e)
          (subst (λ js. Follows k js (done ++ (t ∷ [])) d1) (sym (kept-intervals tr))
          (carry d1 (subst IsConsistent e (effect-consistent d s conn n (OnGrid (SpliceIn Rows pos count)) f.sound)) text f.text_made rows more
          (cols-untouched (ap (inserts_in Cols) o) (ap (removes_in Cols) o)) f.cols_made
          is (kept-ends tr) (pairs-stay f.text.pairs text.next.pairs text.stays is d.intervals f.intervals) None refl (neutral-in Rows p count o)))

      col-insertion-follows : (p count : ℕ) → t.sub_operation ≡ OnGrid (SpliceIn Cols p count)
          → IsBlockOf [] (replicate count GridUnit) (filter (is_inserted_by t.stage) x.doc.cols.items)
          → Follows t.stage (settle_ends x.doc.text.items t.stage is) (done ++ (t ∷ [])) (grid_effect d s conn n (SpliceIn Cols (stage_position t.stage x.doc.cols.items) count))
      col-insertion-follows p count o typed =
          let k = t.stage in
          let pos = stage_position k x.doc.cols.items in
          let d1 : Document = record d { cols = after_insertion s conn n pos None [] (replicate count GridUnit) d.cols } in
          let fits : nat_le pos (len (seen_by n conn) d.cols.items) ≡ true =
          place-fits (inserts_in Cols) (removes_in Cols) no_kind t stages j x.last_stage above a.rise.1 x.doc.cols.items a.cols_left a.cols_changes
          (λ i k l. (col-views i).view k l) n conn x.doc.cols.made d.cols.items f.cols in
          let e : grid_effect d s conn n (SpliceIn Cols pos count) ≡ d1 = ap (λ c. cond c d1 (with_skip d)) fits in
          let cols : Onward n conn x.doc.cols.made j k f.cols (stage_list x.doc.cols.items k) d1.cols.items =
          inserted (inserts_in Cols) (removes_in Cols) no_kind t stages j x.last_stage above a.rise.1 x.doc.cols.items a.cols_left a.cols_changes
          (λ i k l. (col-views i).view k l) n conn x.doc.cols.made
          (ap (removes_in Cols) o) refl ready.cols.later s None [] (replicate count GridUnit) typed d.cols f.cols_made f.cols in
          let more : x.doc.cols.made ≤ d1.cols.made = (let h = f.cols_made in omega arith) in
          let tr : removes_text t.sub_operation ≡ false = ap removes_text o in
          let text = text-untouched (ap inserts_text o) tr (ap annotates_text o) in
          subst (λ z. Follows k (settle_ends x.doc.text.items k is) (done ++ (t ∷ [])) z) (sym e)
          (subst (λ js. Follows k js (done ++ (t ∷ [])) d1) (sym (kept-intervals tr))
          (carry d1 (subst IsConsistent e (effect-consistent d s conn n (OnGrid (SpliceIn Cols pos count)) f.sound)) text f.text_made
          (rows-untouched (ap (inserts_in Rows) o) (ap (removes_in Rows) o)) f.rows_made cols more
          is (kept-ends tr) (pairs-stay f.text.pairs text.next.pairs text.stays is d.intervals f.intervals) None refl (neutral-in Cols p count o)))

      row-removal-follows : (p q : ℕ) → t.sub_operation ≡ OnGrid (SpliceOut Rows p q)
          → Follows t.stage (settle_ends x.doc.text.items t.stage is) (done ++ (t ∷ []))
          (effects d s conn n (map (λ r. OnGrid (SpliceOut Rows r.0 r.1)) (lowered_runs 0 (marked_runs t.stage (is_removed_by t.stage) x.doc.rows.items))))
      row-removal-follows p q o =
          let k = t.stage in
          let rs = lowered_runs 0 (marked_runs k (is_removed_by k) x.doc.rows.items) in
          let ops : List SubOperation = map (λ r. OnGrid (SpliceOut Rows r.0 r.1)) rs in
          let d1 : Document = effects d s conn n ops in
          let r = splices s conn n Rows rs d in
          let e : d1.rows.items ≡ change_runs (seen_by n conn) (with_removal s conn) rs d.rows.items = ap (λ l. l.items) r.lane in
          let rows : Onward n conn x.doc.rows.made j k f.rows (stage_list x.doc.rows.items k) d1.rows.items =
          subst (λ us. Onward n conn x.doc.rows.made j k f.rows (stage_list x.doc.rows.items k) us) (sym e)
          (removed (inserts_in Rows) (removes_in Rows) no_kind t stages j x.last_stage above a.rise.1 x.doc.rows.items a.rows_left a.rows_changes
          (λ i k l. (row-views i).view k l) n conn x.doc.rows.made
          (ap (inserts_in Rows) o) refl s d.rows.items f.rows) in
          let tr : removes_text t.sub_operation ≡ false = ap removes_text o in
          let text : Onward n conn x.doc.text.made j k f.text (stage_list x.doc.text.items k) d1.text.items =
          subst (λ l. Onward n conn x.doc.text.made j k f.text (stage_list x.doc.text.items k) l.items) (sym r.text)
          (text-untouched (ap inserts_text o) tr (ap annotates_text o)) in
          subst (λ js. Follows k js (done ++ (t ∷ [])) d1) (sym (kept-intervals tr))
          (carry d1 (effects-consistent d s conn n ops f.sound) text (subst (λ l. x.doc.text.made ≤ l.made) (sym r.text) f.text_made)
          rows (subst (λ z. x.doc.rows.made ≤ z) (sym (ap (λ l. l.made) r.lane)) f.rows_made)
          (subst (λ l. Onward n conn x.doc.cols.made j k f.cols (stage_list x.doc.cols.items k) l.items) (sym (r.cols refl))
          (cols-untouched (ap (inserts_in Cols) o) (ap (removes_in Cols) o))) (subst (λ l. x.doc.cols.made ≤ l.made) (sym (r.cols refl)) f.cols_made)
          is (kept-ends tr) (subst (λ us. IntervalPairs text.next.pairs is us) (sym r.ends)
          (pairs-stay f.text.pairs text.next.pairs text.stays is d.intervals f.intervals)) None r.cells (neutral-out Rows p q o))

      col-removal-follows : (p q : ℕ) → t.sub_operation ≡ OnGrid (SpliceOut Cols p q)
          → Follows t.stage (settle_ends x.doc.text.items t.stage is) (done ++ (t ∷ []))
          (effects d s conn n (map (λ r. OnGrid (SpliceOut Cols r.0 r.1)) (lowered_runs 0 (marked_runs t.stage (is_removed_by t.stage) x.doc.cols.items))))
      col-removal-follows p q o =
          let k = t.stage in
          let rs = lowered_runs 0 (marked_runs k (is_removed_by k) x.doc.cols.items) in
          let ops : List SubOperation = map (λ r. OnGrid (SpliceOut Cols r.0 r.1)) rs in
          let d1 : Document = effects d s conn n ops in
          let r = splices s conn n Cols rs d in
          let e : d1.cols.items ≡ change_runs (seen_by n conn) (with_removal s conn) rs d.cols.items = ap (λ l. l.items) r.lane in
          let cols : Onward n conn x.doc.cols.made j k f.cols (stage_list x.doc.cols.items k) d1.cols.items =
          subst (λ us. Onward n conn x.doc.cols.made j k f.cols (stage_list x.doc.cols.items k) us) (sym e)
          (removed (inserts_in Cols) (removes_in Cols) no_kind t stages j x.last_stage above a.rise.1 x.doc.cols.items a.cols_left a.cols_changes
          (λ i k l. (col-views i).view k l) n conn x.doc.cols.made
          (ap (inserts_in Cols) o) refl s d.cols.items f.cols) in
          let tr : removes_text t.sub_operation ≡ false = ap removes_text o in
          let text : Onward n conn x.doc.text.made j k f.text (stage_list x.doc.text.items k) d1.text.items =
          subst (λ l. Onward n conn x.doc.text.made j k f.text (stage_list x.doc.text.items k) l.items) (sym r.text)
          (text-untouched (ap inserts_text o) tr (ap annotates_text o)) in
          subst (λ js. Follows k js (done ++ (t ∷ [])) d1) (sym (kept-intervals tr))
          (carry d1 (effects-consistent d s conn n ops f.sound) text (subst (λ l. x.doc.text.made ≤ l.made) (sym r.text) f.text_made)
          (subst (λ l. Onward n conn x.doc.rows.made j k f.rows (stage_list x.doc.rows.items k) l.items) (sym (r.rows refl))
          (rows-untouched (ap (inserts_in Rows) o) (ap (removes_in Rows) o))) (subst (λ l. x.doc.rows.made ≤ l.made) (sym (r.rows refl)) f.rows_made)
          cols (subst (λ z. x.doc.cols.made ≤ z) (sym (ap (λ l. l.made) r.lane)) f.cols_made)
          is (kept-ends tr) (subst (λ us. IntervalPairs text.next.pairs is us) (sym r.ends)
          (pairs-stay f.text.pairs text.next.pairs text.stays is d.intervals f.intervals)) None r.cells (neutral-out Cols p q o))

      -- ---- the intervals

      module _ (op : TextOp) (o : t.sub_operation ≡ OnIntervals op) where
        text-now : Onward n conn x.doc.text.made j t.stage f.text (stage_list x.doc.text.items t.stage) d.text.items
        text-now = text-untouched (ap inserts_text o) (ap removes_text o) (ap annotates_text o)

        left-distinct : are_distinct_elements (lefts text-now.next.pairs) ≡ true
        left-distinct = subst (λ us. are_distinct_elements us ≡ true) (sym text-now.next.left) (stage_list-distinct x.doc.text.items ready.text.place.distinct t.stage)

        right-distinct : are_distinct_elements (rights text-now.next.pairs) ≡ true
        right-distinct = subst (λ us. are_distinct_elements us ≡ true) (sym text-now.next.right) f.sound.text.distinct

        positive : 0 < t.stage
        positive = (let l = above in omega arith)

        -- a settled end and what stands on the other side at its number
        end-pair : (y : Option ElementId) → is_end_at t.stage x.doc.text.items y ≡ true
            → IsEndPair text-now.next.pairs y (element_at_end (seen_by n conn) d.text.items (end_number t.stage x.doc.text.items y))
        end-pair None h = tt
        end-pair (Some y) h =
            let k = t.stage in
            let there : list_any (λ e. has_id y e && seen k e) (lefts text-now.next.pairs) ≡ true =
            subst (λ us. has_named (seen k) us y ≡ true) (sym text-now.next.left)
            (named-filter (seen k) y (stage_list x.doc.text.items k) ∙ ap (list_any (has_id y)) ((text-views k).view k (omega arith))
            ∙ sym (named-filter (seen k) y x.doc.text.items) ∙ h) in
            let pair = at-pair k (seen_by n conn) text-now.next.pairs left-distinct
            (each-with (Image n conn x.doc.text.made k) (λ p. seen_by n conn p.1 ≡ seen k p.0) (λ p i. i.perspective) text-now.next.pairs text-now.next.images) y there in
            let pair' = subst (λ us. IsEndPair text-now.next.pairs (Some y) (option_map id
            (at (seen_by n conn) (rank (has_id y) (seen k) us) (rights text-now.next.pairs)))) text-now.next.left pair in
            let pair'' = subst (λ us. IsEndPair text-now.next.pairs (Some y) (option_map id
            (at (seen_by n conn) (rank (has_id y) (seen k) (stage_list x.doc.text.items k)) us))) text-now.next.right pair' in
            subst (λ z. IsEndPair text-now.next.pairs (Some y) (element_at_end (seen_by n conn) d.text.items z))
            (number-same (text-views k) ready.text.place.distinct (Some y) h) pair''

        -- as many are seen on both sides
        len-now : len (seen_by n conn) d.text.items ≡ len (seen t.stage) x.doc.text.items
        len-now =
            let k = t.stage in
            ap (len (seen_by n conn)) (sym text-now.next.right)
            ∙ len-map (λ p. p.1) (λ p. seen k p.0) (seen_by n conn) text-now.next.pairs
            (each-with (Image n conn x.doc.text.made k) (λ p. seen_by n conn p.1 ≡ seen k p.0) (λ p i. i.perspective) text-now.next.pairs text-now.next.images)
            ∙ sym (len-map (λ p. p.0) (λ p. seen k p.0) (seen k) text-now.next.pairs
            (each-with (Image n conn x.doc.text.made k) (λ p. seen k p.0 ≡ seen k p.0) (λ p i. refl) text-now.next.pairs text-now.next.images))
            ∙ ap (len (seen k)) text-now.next.left
            ∙ len-view (seen k) (stage_list x.doc.text.items k) ∙ ap length ((text-views k).view k (omega arith)) ∙ sym (len-view (seen k) x.doc.text.items)

        ends-fit-now : are_ends_in x.doc.text.items t.names.first t.names.second ≡ true
            → given_ends_fit (len (seen_by n conn) d.text.items) (Some (ends_in t.stage x.doc.text.items (settle_elements x.doc.text.items t.stage t.names))) ≡ true
        ends-fit-now h = ap (λ l. ends_fit l (ends_in t.stage x.doc.text.items (settle_elements x.doc.text.items t.stage t.names))) len-now
            ∙ ends-fit t.stage x.doc.text.items ready.text.place.distinct t.names.first t.names.second h

        pairs-now : IntervalPairs text-now.next.pairs (settle_ends x.doc.text.items t.stage is) d.intervals
        pairs-now = subst (λ js. IntervalPairs text-now.next.pairs js d.intervals) (sym (kept-intervals (ap removes_text o)))
            (pairs-stay f.text.pairs text-now.next.pairs text-now.stays is d.intervals f.intervals)

        finish : (piece : TextOp) → given_ends_fit (len (seen_by n conn) d.text.items) (ends_of piece) ≡ true
            → (js ds : List Interval) → list_all (has_ends_at t.stage x.doc.text.items) js ≡ true → ds
            ≡ after_interval_operation piece (elements_at_given_ends (seen_by n conn) d.text.items (ends_of piece)) d.intervals → IntervalPairs text-now.next.pairs js ds
            → Follows t.stage js (done ++ (t ∷ [])) (interval_effect d conn n piece)
        finish piece fit js ds ends e pairs =
            let k = t.stage in
            let d1 : Document = with_slid_ends (record d {
              intervals = after_interval_operation piece
                  (elements_at_given_ends (seen_by n conn) d.text.items (ends_of piece)) d.intervals;
            }) in
            let same : interval_effect d conn n piece ≡ d1 = ap (λ c. cond c d1 (with_skip d)) fit in
            let settled : settle_ends (lefts text-now.next.pairs) k js ≡ js = ap (λ us. settle_ends us k js) text-now.next.left
            ∙ ends-other (text-views k) ready.text.place.distinct k positive (omega arith) js ends in
            let slid : slide_ends (rights text-now.next.pairs) ds ≡ d1.intervals = ap (λ us. slide_ends us ds) text-now.next.right ∙ ap (slide_ends d.text.items) e in
            let settled_pairs : IntervalPairs text-now.next.pairs (settle_ends (lefts text-now.next.pairs) k js) (slide_ends (rights text-now.next.pairs) ds) =
            pairs-settled k text-now.next.pairs left-distinct right-distinct
            (each-with (Image n conn x.doc.text.made k) (λ p. is_unremoved p.1 ≡ seen k p.0) (λ p i. i.unremoved) text-now.next.pairs text-now.next.images)
            (each-with (Image n conn x.doc.text.made k) (λ p. is_sequenced p.1 ≡ true) (λ p i. i.sequenced) text-now.next.pairs text-now.next.images) js ds pairs in
            subst (λ z. Follows k js (done ++ (t ∷ [])) z) (sym same)
            (carry d1 (subst IsConsistent same (effect-consistent d s conn n (OnIntervals piece) f.sound)) text-now f.text_made
            (rows-untouched (ap (inserts_in Rows) o) (ap (removes_in Rows) o)) f.rows_made (cols-untouched (ap (inserts_in Cols) o) (ap (removes_in Cols) o)) f.cols_made
            js ends (subst (λ us. IntervalPairs text-now.next.pairs us d1.intervals) settled
            (subst (λ us. IntervalPairs text-now.next.pairs (settle_ends (lefts text-now.next.pairs) k js) us) slid settled_pairs))
            None refl (neutral-intervals op o))

        ends-after : (piece : TextOp) → list_all (has_ends_at t.stage x.doc.text.items)
            (after_interval_operation piece (settle_elements x.doc.text.items t.stage t.names) (settle_ends x.doc.text.items t.stage is)) ≡ true
        ends-after piece =
            operation-held (has_named (seen t.stage) x.doc.text.items) piece (settle_elements x.doc.text.items t.stage t.names) (settle_ends x.doc.text.items t.stage is)
            (rw (settle-at t.stage x.doc.text.items t.names.first, settle-at t.stage x.doc.text.items t.names.second) refl) (ends-at t.stage x.doc.text.items is)

        named-pairs : AreNamedPairs text-now.next.pairs (settle_elements x.doc.text.items t.stage t.names)
            (elements_at_ends (seen_by n conn) d.text.items (ends_in t.stage x.doc.text.items (settle_elements x.doc.text.items t.stage t.names)))
        named-pairs = record {
          first = end-pair (settle x.doc.text.items t.stage t.names.first) (settle-at t.stage x.doc.text.items t.names.first);
          second = end-pair (settle x.doc.text.items t.stage t.names.second) (settle-at t.stage x.doc.text.items t.names.second);
        }

        no-names : AreNamedPairs text-now.next.pairs no_elements no_elements
        no-names = record { first = tt; second = tt }

      interval-follows : (op : TextOp) → t.sub_operation ≡ OnIntervals op → are_ends_in x.doc.text.items t.names.first t.names.second ≡ true
          → Follows t.stage (after_interval_operation op (settle_elements x.doc.text.items t.stage t.names) (settle_ends x.doc.text.items t.stage is)) (done ++ (t ∷ []))
          (interval_effect d conn n (interval_piece t.stage x.doc.text.items (settle_elements x.doc.text.items t.stage t.names) op))
      interval-follows (One op) o h =
          finish (One op) o (One op) refl _ _ (ends-after (One op) o (One op)) refl
          (operation-pairs (text-now (One op) o).next.pairs t.stage x.doc.text.items no_elements (One op) no_elements no_elements (no-names (One op) o)
          (settle_ends x.doc.text.items t.stage is) d.intervals (pairs-now (One op) o))
      interval-follows (Group ops) o h =
          finish (Group ops) o (Group ops) refl _ _ (ends-after (Group ops) o (Group ops)) refl
          (operation-pairs (text-now (Group ops) o).next.pairs t.stage x.doc.text.items no_elements (Group ops) no_elements no_elements
          (no-names (Group ops) o) (settle_ends x.doc.text.items t.stage is) d.intervals (pairs-now (Group ops) o))
      interval-follows (IntervalDelete label name) o h =
          let op = IntervalDelete label name in
          finish op o op refl _ _ (ends-after op o op) refl (operation-pairs (text-now op o).next.pairs t.stage x.doc.text.items no_elements op no_elements
          no_elements (no-names op o) (settle_ends x.doc.text.items t.stage is) d.intervals (pairs-now op o))
      interval-follows (IntervalChange label name None props) o h =
          let op = IntervalChange label name None props in
          finish op o op refl _ _ (ends-after op o op) refl (operation-pairs (text-now op o).next.pairs t.stage x.doc.text.items no_elements op no_elements
          no_elements (no-names op o) (settle_ends x.doc.text.items t.stage is) d.intervals (pairs-now op o))
      interval-follows (IntervalAdd label name ends props) o h =
          let op = IntervalAdd label name ends props in
          let settled = settle_elements x.doc.text.items t.stage t.names in
          finish op o (IntervalAdd label name (ends_in t.stage x.doc.text.items settled) props) (ends-fit-now op o h) _ _ (ends-after op o op) refl
          (operation-pairs (text-now op o).next.pairs t.stage x.doc.text.items settled op settled _ (named-pairs op o)
          (settle_ends x.doc.text.items t.stage is) d.intervals (pairs-now op o))
      interval-follows (IntervalChange label name (Some ends) props) o h =
          let op = IntervalChange label name (Some ends) props in
          let settled = settle_elements x.doc.text.items t.stage t.names in
          finish op o (IntervalChange label name (Some (ends_in t.stage x.doc.text.items settled)) props) (ends-fit-now op o h) _ _ (ends-after op o op) refl
          (operation-pairs (text-now op o).next.pairs t.stage x.doc.text.items settled op settled _ (named-pairs op o)
          (settle_ends x.doc.text.items t.stage is) d.intervals (pairs-now op o))

      -- ---- the cells

      module _ (i j' : ℕ) (value : ValueBytes) (o : t.sub_operation ≡ OnGrid (Set i j' value)) (w : writes_known_units x.doc.rows.items x.doc.cols.items t ≡ true) where
        rows-now : Onward n conn x.doc.rows.made j t.stage f.rows (stage_list x.doc.rows.items t.stage) d.rows.items
        rows-now = rows-untouched (ap (inserts_in Rows) o) (ap (removes_in Rows) o)

        cols-now : Onward n conn x.doc.cols.made j t.stage f.cols (stage_list x.doc.cols.items t.stage) d.cols.items
        cols-now = cols-untouched (ap (inserts_in Cols) o) (ap (removes_in Cols) o)

        set-text : Onward n conn x.doc.text.made j t.stage f.text (stage_list x.doc.text.items t.stage) d.text.items
        set-text = text-untouched (ap inserts_text o) (ap removes_text o) (ap annotates_text o)

        row-unit : (y : ElementId) → has_named (seen t.stage) x.doc.rows.items y ≡ true
            → IsEndPair rows-now.next.pairs (Some y) (option_map id (at (seen_by n conn) (rank (has_id y) (seen (t.stage - 1)) x.doc.rows.items) d.rows.items))
        row-unit y h =
            unit-pair n conn x.doc.rows.made t.stage x.doc.rows.items d.rows.items (row-views t.stage) ready.rows.place.distinct rows-now.next
            (same-view (inserts_in Rows) (removes_in Rows) no_kind t stages j x.last_stage above a.rise.1 x.doc.rows.items a.rows_left a.rows_changes
            (λ i k l. (row-views i).view k l) (ap (inserts_in Rows) o) (ap (removes_in Rows) o)) y h

        col-unit : (y : ElementId) → has_named (seen t.stage) x.doc.cols.items y ≡ true
            → IsEndPair cols-now.next.pairs (Some y) (option_map id (at (seen_by n conn) (rank (has_id y) (seen (t.stage - 1)) x.doc.cols.items) d.cols.items))
        col-unit y h =
            unit-pair n conn x.doc.cols.made t.stage x.doc.cols.items d.cols.items (col-views t.stage) ready.cols.place.distinct cols-now.next
            (same-view (inserts_in Cols) (removes_in Cols) no_kind t stages j x.last_stage above a.rise.1 x.doc.cols.items a.cols_left a.cols_changes
            (λ i k l. (col-views i).view k l) (ap (inserts_in Cols) o) (ap (removes_in Cols) o)) y h

        write-follows : (row col : ElementId) → t.names.first ≡ Some row → t.names.second ≡ Some col → (u v : Option ListElement)
            → IsEndPair rows-now.next.pairs (Some row) (option_map id u) → IsEndPair cols-now.next.pairs (Some col) (option_map id v)
            → Follows t.stage (settle_ends x.doc.text.items t.stage is) (done ++ (t ∷ [])) (cell_effect d u v value)
        write-follows row col p q None v h g = absurd cc
        write-follows row col p q (Some r) None h g = absurd cc
        write-follows row col p q (Some r) (Some c) h g =
            let tr : removes_text t.sub_operation ≡ false = ap removes_text o in
            subst (λ js. Follows t.stage js (done ++ (t ∷ [])) (cell_effect d (Some r) (Some c) value)) (sym (kept-intervals tr))
            (carry (cell_effect d (Some r) (Some c) value) (cell_effect-consistent d (Some r) (Some c) value f.sound) set-text f.text_made rows-now f.rows_made cols-now f.cols_made
            is (kept-ends tr) (pairs-stay f.text.pairs set-text.next.pairs set-text.stays is d.intervals f.intervals)
            (Some (record { row = id r; col = id c; value = value })) refl (record
            { i = i; j = j'; row = row; col = col; op = o; first = p; second = q; row_pair = h; col_pair = g }))

        neutral-set : is_named_and_seen t.stage x.doc.rows.items t.names.first && is_named_and_seen t.stage x.doc.cols.items t.names.second ≡ false
            → (row col : ElementId) → has_named (seen x.last_stage) x.doc.rows.items row ≡ true → has_named (seen x.last_stage) x.doc.cols.items col ≡ true
            → (v : Option ValueBytes) → cell_after_stage row col t v ≡ v
        neutral-set c row col hr hc v =
            let known = subst (λ u. writes_known_units x.doc.rows.items x.doc.cols.items (record { stage = t.stage; sub_operation = u; names = t.names }) ≡ true) o w in
            subst (λ u. cell_after_stage row col (record { stage = t.stage; sub_operation = u; names = t.names }) v ≡ v) (sym o)
            (set-gone x.doc x.last_stage row col hr hc t.stage i j' value t.names v (rise-below [] t.stage x.last_stage stages a.rise.1) known c)

        set-by : (b : Bool) → is_named_and_seen t.stage x.doc.rows.items t.names.first && is_named_and_seen t.stage x.doc.cols.items t.names.second ≡ b
            → (u v : Option ElementId) → t.names.first ≡ u → t.names.second ≡ v
            → Follows t.stage (settle_ends x.doc.text.items t.stage is) (done ++ (t ∷ []))
            (effects d s conn n (cond b (OnGrid (Set (position_of_named (t.stage - 1) x.doc.rows.items u) (position_of_named (t.stage - 1) x.doc.cols.items v) value) ∷ []) []))
        set-by false c u v p q = idle (ap inserts_text o) (ap removes_text o) (ap annotates_text o) (ap (inserts_in Rows) o) (ap (removes_in Rows) o)
            (ap (inserts_in Cols) o) (ap (removes_in Cols) o) (neutral-set c)
        set-by true c None v p q = absurd (cc (subst (λ u. is_named_and_seen t.stage x.doc.rows.items u && is_named_and_seen t.stage x.doc.cols.items t.names.second ≡ true) p c))
        set-by true c (Some r) None p q =
            absurd (cc (both (is_named_and_seen t.stage x.doc.rows.items t.names.first) (is_named_and_seen t.stage x.doc.cols.items None)
            (subst (λ u. is_named_and_seen t.stage x.doc.rows.items t.names.first && is_named_and_seen t.stage x.doc.cols.items u ≡ true) q c)).1)
        set-by true c (Some r) (Some u) p q =
            let g = both (is_named_and_seen t.stage x.doc.rows.items t.names.first) (is_named_and_seen t.stage x.doc.cols.items t.names.second) c in
            write-follows r u p q (at (seen_by n conn) (rank (has_id r) (seen (t.stage - 1)) x.doc.rows.items) d.rows.items)
            (at (seen_by n conn) (rank (has_id u) (seen (t.stage - 1)) x.doc.cols.items) d.cols.items)
            (row-unit r (subst (λ z. is_named_and_seen t.stage x.doc.rows.items z ≡ true) p g.0))
            (col-unit u (subst (λ z. is_named_and_seen t.stage x.doc.cols.items z ≡ true) q g.1))

        set-follows : Follows t.stage (settle_ends x.doc.text.items t.stage is) (done ++ (t ∷ [])) (effects d s conn n (grid_pieces t.stage x.doc t.names (Set i j' value)))
        set-follows = set-by (is_named_and_seen t.stage x.doc.rows.items t.names.first && is_named_and_seen t.stage x.doc.cols.items t.names.second) refl
            t.names.first t.names.second refl refl

      -- ---- any stage

      empty-insertion : (p : ℕ) (seg : Seg) (props : PropertySet) → t.sub_operation ≡ OnText (Insert p seg props)
          → IsTypedText t.stage x.doc.text.items (Insert p seg props) → (bs : List ElementContent) → segment_contents seg ≡ bs
          → Follows t.stage (settle_ends x.doc.text.items t.stage is) (done ++ (t ∷ []))
          (effects d s conn n (unless_empty bs (OnText (Insert (stage_position t.stage x.doc.text.items) seg props))))
      empty-insertion p seg props o typed [] c =
          idle (ap inserts_text o ∙ ap has_some c) (ap removes_text o) (ap annotates_text o) (ap (inserts_in Rows) o) (ap (removes_in Rows) o)
          (ap (inserts_in Cols) o) (ap (removes_in Cols) o) (neutral-text (Insert p seg props) o)
      empty-insertion p seg props o typed (b ∷ bs) c = insertion-follows p seg props b bs o c typed

      splice-in : (target : Target) (p count : ℕ) → t.sub_operation ≡ OnGrid (SpliceIn target p count)
          → IsBlockOf [] (replicate count GridUnit) (filter (is_inserted_by t.stage) (rows_or_cols target x.doc).items) → (b : Bool) → nat_eq count 0 ≡ b
          → Follows t.stage (settle_ends x.doc.text.items t.stage is) (done ++ (t ∷ []))
          (effects d s conn n (cond b [] (OnGrid (SpliceIn target (stage_position t.stage (rows_or_cols target x.doc).items) count) ∷ [])))
      splice-in Rows p count o typed true e =
          idle (ap inserts_text o) (ap removes_text o) (ap annotates_text o) (ap (inserts_in Rows) o ∙ ap not e) (ap (removes_in Rows) o)
          (ap (inserts_in Cols) o) (ap (removes_in Cols) o) (neutral-in Rows p count o)
      splice-in Cols p count o typed true e =
          idle (ap inserts_text o) (ap removes_text o) (ap annotates_text o) (ap (inserts_in Rows) o) (ap (removes_in Rows) o)
          (ap (inserts_in Cols) o ∙ ap not e) (ap (removes_in Cols) o) (neutral-in Cols p count o)
      splice-in Rows p count o typed false e = row-insertion-follows p count o typed
      splice-in Cols p count o typed false e = col-insertion-follows p count o typed

      by_kind : (o : SubOperation) → t.sub_operation ≡ o → IsTyped t.stage x.doc t.names o → writes_known_units x.doc.rows.items x.doc.cols.items t ≡ true
          → Follows t.stage (intervals_after_stage o (settle_elements x.doc.text.items t.stage t.names) (settle_ends x.doc.text.items t.stage is))
          (done ++ (t ∷ [])) (effects d s conn n (pieces x.doc (record { stage = t.stage; sub_operation = o; names = t.names })))
      by_kind (OnText (Insert p seg props)) o typed w = empty-insertion p seg props o typed (segment_contents seg) refl
      by_kind (OnText (Remove p q)) o typed w = removal-follows p q o
      by_kind (OnText (Annotate p q changes)) o typed w = annotation-follows p q changes o typed
      by_kind (OnIntervals op) o typed w = interval-follows op o typed
      by_kind (OnGrid (SpliceIn target p count)) o typed w = splice-in target p count o typed (nat_eq count 0) refl
      by_kind (OnGrid (SpliceOut Rows p q)) o typed w = row-removal-follows p q o
      by_kind (OnGrid (SpliceOut Cols p q)) o typed w = col-removal-follows p q o
      by_kind (OnGrid (Set i j' value)) o typed w = set-follows i j' value o w

      -- the pieces of a stage make of the log's document what the stage made of the client's
      pub stage-follows : IsTyped t.stage x.doc t.names t.sub_operation → writes_known_units x.doc.rows.items x.doc.cols.items t ≡ true
          → Follows t.stage (intervals_after_stage t.sub_operation (settle_elements x.doc.text.items t.stage t.names)
          (settle_ends x.doc.text.items t.stage is)) (done ++ (t ∷ [])) (effects d s conn n (pieces x.doc t))
      stage-follows typed w = by_kind t.sub_operation refl typed w
