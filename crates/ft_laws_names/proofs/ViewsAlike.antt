-- Two clients that differ in names alone show the same.
use Rattle.std.proofs.Common.{◌≡◌, ℕ, ◌+◌, cond, ◌&&◌, List, ◌∷◌, ◌++◌, Option, refl, sym, ◌∙◌, ap, subst, filter}
use Rattle.std.specs.Prelude.{filter_map}
use Rattle.ft_op.specs.declared.operations.CellOp.{CellOp}
use Rattle.ft_op.specs.declared.operations.CellOp.TheVariants.{SpliceIn, SpliceOut, Set}
use Rattle.ft_props.specs.Properties.{Characters, ValueBytes, shown_props}
use Rattle.ft_props.specs.Element.{ElementId, ListElement, id, is_named_by, seen}
use Rattle.ft_op.specs.Operation.{OnGrid, OnIntervals, OnText, SubOperation}
use Rattle.ft_op.specs.Intervals.{Interval, NamedElements}
use Rattle.ft_op.specs.Cells.{Cell, cell_value}
use Rattle.ft_op.specs.Document.{Document}
use Rattle.ft_op.specs.Stages.{Stage, shown_intervals}
use Rattle.ft_msg.specs.Blame.{blame, origin_of}
use Rattle.ft_msg.specs.Client.{NaiveClient, PendingEdit, stages_of}
use Rattle.ft_msg.specs.Content.{all_cells, cell_after_stage, cell_record, content, content_characters, content_markers, extended_property_runs, interval_record, markers_from, property_runs_from, row_cells, shown_cell_value, stage_view, value_unless_null}
use Rattle.ft_msg.specs.Overlap.{overlap}
use Rattle.ft_sumdoc.specs.Meeting.{meets}
use Rattle.ft_msg.specs.Reconnection.{regenerated, regenerated_edit}
use Rattle.ft_laws_names.proofs.Beside.{beside-both, beside-filter, beside-length, beside-more, ends, next, same-flat, same-map}
use Rattle.ft_laws_names.proofs.ClientsAlike.{ClientsAlike, stages-flat}
use Rattle.ft_laws_names.proofs.DocumentsAlike.{same_id-turn}
use Rattle.ft_laws_names.proofs.IntervalsAlike.{IntervalAlike, IntervalsBeside, SettledAlike, intervals-more, settled-ends}
use Rattle.ft_laws_names.proofs.LocalAlike.{StageNames, StagesBeside, shown-alike}
use Rattle.ft_laws_names.proofs.RejoinAlike.{EditsBeside, regenerated-alike}
use Rattle.ft_laws_names.proofs.Twins.{BesideList, EndsAlike, IsTwin, Named, detached, end_number-alike, ends-beside, on, same-of, twin-seen}

-- ---- the text

markers-alike : (i : ℕ) {xs ys : List ListElement} → BesideList IsTwin xs ys → markers_from i xs ≡ markers_from i ys
markers-alike i ends = refl
markers-alike i (next {x = x} {y = y} {xs = xs} t ts) = ap (λ c. content_markers i c ++ markers_from (i + 1) xs)
    (same-of (λ (e : ListElement). e.content) (λ e n. refl) x y t) ∙ ap (λ ms. content_markers i y.content ++ ms) (markers-alike (i + 1) ts)

runs-alike : (i : ℕ) {xs ys : List ListElement} → BesideList IsTwin xs ys → property_runs_from i xs ≡ property_runs_from i ys
runs-alike i ends = refl
runs-alike i (next {x = x} {y = y} {xs = xs} t ts) = ap (λ ps. extended_property_runs i ps (property_runs_from (i + 1) xs))
    (same-of (λ (e : ListElement). shown_props e.props e.pending) (λ e n. refl) x y t) ∙ ap (extended_property_runs i (shown_props y.props y.pending)) (runs-alike (i + 1) ts)

view-alike : (k : ℕ) {xs ys : List ListElement} → BesideList IsTwin xs ys → BesideList IsTwin (stage_view k xs) (stage_view k ys)
view-alike k h = beside-filter (seen k) (seen k) (λ x y t. twin-seen k x y t) h

interval-shown : (k : ℕ) {xs ys : List ListElement} (i j : Interval) → IntervalAlike (EndsAlike xs ys) i j → interval_record k xs i ≡ interval_record k ys j
interval-shown k i j r = rw (r.label, r.id, r.props, end_number-alike k (ends-beside r.start), end_number-alike k (ends-beside r.end)) refl

-- ---- cells

-- the cell of two names is shown alike after the stages, where it was alike before
abbrev ShownAlike : List Stage → List Stage → ElementId → ElementId → ElementId → ElementId → Type 0
ShownAlike ts us i j c d = (v w : Option ValueBytes) → v ≡ w → shown_cell_value i c v ts ≡ shown_cell_value j d w us

abbrev RowsShown : List ListElement → List ListElement → List Stage → List Stage → ElementId → ElementId → Type 0
RowsShown cols others ts us i j = BesideList (Named (λ c d. ShownAlike ts us i j c d)) cols others

-- whether two named elements are the given ones
abbrev pub NamedAlike : Option ElementId → Option ElementId → ElementId → ElementId → Type 0
NamedAlike o p i j = is_named_by i o ≡ is_named_by j p

pub named-alike : {xs ys : List ListElement} {o p : Option ElementId} → BesideList IsTwin xs ys → EndsAlike xs ys o p → BesideList (Named (NamedAlike o p)) xs ys
named-alike h detached = beside-more (λ x y t. (t, refl)) h
named-alike h (on {a = a} {b = b} s) = beside-more (λ x y q. (q.0, same_id-turn (id x) a ∙ q.1 ∙ same_id-turn b (id y))) s.twins

-- the value after the write of a stage
after-write : (o : SubOperation) (i j c d : ElementId) (k : ℕ) (a b : NamedElements) (v w : Option ValueBytes)
    → ((op : CellOp) → o ≡ OnGrid op → (is_named_by i a.first ≡ is_named_by j b.first) × (is_named_by c a.second ≡ is_named_by d b.second)) → v ≡ w
    → cell_after_stage i c (record { stage = k; sub_operation = o; names = a }) v ≡ cell_after_stage j d (record { stage = k; sub_operation = o; names = b }) w
after-write (OnText op) i j c d k a b v w h e = e
after-write (OnIntervals op) i j c d k a b v w h e = e
after-write (OnGrid (SpliceIn target p count)) i j c d k a b v w h e = e
after-write (OnGrid (SpliceOut target p q)) i j c d k a b v w h e = e
after-write (OnGrid (Set p q value)) i j c d k a b v w h e =
    let n = h (Set p q value) refl in
    ap (λ x. cond (x && is_named_by c a.second) (value_unless_null value) v) n.0 ∙ ap (λ x. cond (is_named_by j b.first && x) (value_unless_null value) v) n.1
    ∙ ap (cond (is_named_by j b.first && is_named_by d b.second) (value_unless_null value)) e

grid-names : (p q : Document) (o : SubOperation) (a b : NamedElements) → BesideList IsTwin p.rows.items q.rows.items → StageNames p q o a b
    → BesideList (Named (λ i j. (op : CellOp) → o ≡ OnGrid op → is_named_by i a.first ≡ is_named_by j b.first)) p.rows.items q.rows.items
grid-names p q (OnText op) a b h n = beside-more (λ x y t. (t, λ other e. (cc))) h
grid-names p q (OnIntervals op) a b h n = beside-more (λ x y t. (t, λ other e. (cc))) h
grid-names p q (OnGrid (Set i j value)) a b h n = beside-more (λ x y t. (t.0, λ other e. t.1)) (named-alike h n.0)
grid-names p q (OnGrid (SpliceIn target i count)) a b h n = beside-more
    (λ x y t. (t, λ other e. ap (λ (m : NamedElements). is_named_by (id x) m.first) n.0 ∙ sym (ap (λ (m : NamedElements). is_named_by (id y) m.first) n.1))) h
grid-names p q (OnGrid (SpliceOut target i j)) a b h n = beside-more (λ x y t.
    (t, λ other e. ap (λ (m : NamedElements). is_named_by (id x) m.first) n.0 ∙ sym (ap (λ (m : NamedElements). is_named_by (id y) m.first) n.1))) h

col-names : (p q : Document) (o : SubOperation) (a b : NamedElements) → BesideList IsTwin p.cols.items q.cols.items → StageNames p q o a b
    → BesideList (Named (λ i j. (op : CellOp) → o ≡ OnGrid op → is_named_by i a.second ≡ is_named_by j b.second)) p.cols.items q.cols.items
col-names p q (OnText op) a b h n = beside-more (λ x y t. (t, λ other e. (cc))) h
col-names p q (OnIntervals op) a b h n = beside-more (λ x y t. (t, λ other e. (cc))) h
col-names p q (OnGrid (Set i j value)) a b h n = beside-more (λ x y t. (t.0, λ other e. t.1)) (named-alike h n.1)
col-names p q (OnGrid (SpliceIn target i count)) a b h n = beside-more
    (λ x y t. (t, λ other e. ap (λ (m : NamedElements). is_named_by (id x) m.second) n.0 ∙ sym (ap (λ (m : NamedElements). is_named_by (id y) m.second) n.1))) h
col-names p q (OnGrid (SpliceOut target i j)) a b h n = beside-more (λ x y t.
    (t, λ other e. ap (λ (m : NamedElements). is_named_by (id x) m.second) n.0 ∙ sym (ap (λ (m : NamedElements). is_named_by (id y) m.second) n.1))) h

stages-shown : (p q : Document) → BesideList IsTwin p.rows.items q.rows.items → BesideList IsTwin p.cols.items q.cols.items → {ts us : List Stage}
    → StagesBeside p q ts us → BesideList (Named (RowsShown p.cols.items q.cols.items ts us)) p.rows.items q.rows.items
stages-shown p q rows cols ends = beside-more (λ x y t. (t, beside-more (λ u v s. (s, λ a b e. e)) cols)) rows
stages-shown p q rows cols (next {x = t} {y = u} {xs = ts} {ys = us} s ss) =
    subst (λ (w : Stage). BesideList (Named (RowsShown p.cols.items q.cols.items (t ∷ ts) (w ∷ us))) p.rows.items q.rows.items) (sym s.rest)
    (beside-more (λ x y r. (
      r.0.0,
      beside-more (λ c d m. (m.0.0, λ v w e. m.0.1 _ _ (after-write t.sub_operation (id x) (id y) (id c) (id d) t.stage t.names u.names v w (λ op g. (r.1.1 op g, m.1.1 op g)) e)))
          (beside-both r.0.1 (col-names p q t.sub_operation t.names u.names cols s.names)),
    ))
    (beside-both (stages-shown p q rows cols ss) (grid-names p q t.sub_operation t.names u.names rows s.names)))

abbrev pub CellsShown : List ListElement → List ListElement → List Cell → List Cell → List Stage → List Stage → ElementId → ElementId → Type 0
CellsShown cols others cells values ts us i j = BesideList (Named (λ c d. shown_cell_value i c (cell_value i c cells) ts
    ≡ shown_cell_value j d (cell_value j d values) us)) cols others

row-shown : (i : ℕ) (cells others : List Cell) (ts us : List Stage) (a b : ElementId) (j : ℕ) {cols vs : List ListElement}
    → CellsShown cols vs cells others ts us a b → row_cells cells ts i a j cols ≡ row_cells others us i b j vs
row-shown i cells others ts us a b j ends = refl
row-shown i cells others ts us a b j (next {x = x} {y = y} {xs = xs} {ys = ys} q qs) =
    ap (λ v. cell_record i j v ++ row_cells cells ts i a (j + 1) xs) q.1 ∙ ap
    (λ cs. cell_record i j (shown_cell_value b (id y) (cell_value b (id y) others) us) ++ cs) (row-shown i cells others ts us a b (j + 1) qs)

pub cells-shown : (cells others : List Cell) (ts us : List Stage) (cols vs : List ListElement) (i : ℕ) {xs ys : List ListElement}
    → BesideList (Named (CellsShown cols vs cells others ts us)) xs ys → all_cells cells ts cols i xs ≡ all_cells others us vs i ys
cells-shown cells others ts us cols vs i ends = refl
cells-shown cells others ts us cols vs i (next {x = x} {y = y} {xs = xs} {ys = ys} q qs) =
    ap (λ cs. cs ++ all_cells cells ts cols (i + 1) xs) (row-shown i cells others ts us (id x) (id y) 0 q.1)
    ∙ ap (λ cs. row_cells others us i (id y) 0 vs ++ cs) (cells-shown cells others ts us cols vs (i + 1) qs)

pub filtered-named : (k : ℕ) (P : ElementId → ElementId → Type 0) {xs ys : List ListElement} → BesideList (Named P) xs ys → BesideList (Named P) (stage_view k xs) (stage_view k ys)
filtered-named k P h = beside-filter (seen k) (seen k) (λ x y t. twin-seen k x y t.0) h

-- ---- views

module _ (x y : NaiveClient) (h : ClientsAlike x y) where
  stages : StagesBeside x.doc y.doc (stages_of x) (stages_of y)
  stages = stages-flat x.doc y.doc h.pending

  same-last : y.last_stage ≡ x.last_stage
  same-last = ap (λ (z : NaiveClient). z.last_stage) h.rest

  shown-cells : (k : ℕ) → all_cells x.doc.cells (stages_of x) (stage_view k x.doc.cols.items) 0 (stage_view k x.doc.rows.items)
      ≡ all_cells y.doc.cells (stages_of y) (stage_view k y.doc.cols.items) 0 (stage_view k y.doc.rows.items)
  shown-cells k =
      cells-shown x.doc.cells y.doc.cells (stages_of x) (stages_of y) (stage_view k x.doc.cols.items) (stage_view k y.doc.cols.items) 0
      (filtered-named k (CellsShown (stage_view k x.doc.cols.items) (stage_view k y.doc.cols.items) x.doc.cells y.doc.cells (stages_of x) (stages_of y))
      (beside-more (λ a b r. (
        r.0.0,
        filtered-named k (λ c d. shown_cell_value (id a) c (cell_value (id a) c x.doc.cells) (stages_of x)
            ≡ shown_cell_value (id b) d (cell_value (id b) d y.doc.cells) (stages_of y)) (beside-more (λ c d s. (s.0.0, s.0.1 _ _ s.1.1)) (beside-both r.0.1 r.1.1)),
      ))
      (beside-both (stages-shown x.doc y.doc h.doc.parts.rows.twins h.doc.parts.cols.twins (stages-flat x.doc y.doc h.pending)) h.doc.parts.cells)))

  shown-intervals : IntervalsBeside (EndsAlike x.doc.text.items y.doc.text.items) (shown_intervals x.doc.text.items x.doc.intervals (stages_of x))
      (shown_intervals y.doc.text.items y.doc.intervals (stages_of y))
  shown-intervals = shown-alike x.last_stage x.doc y.doc h.doc.parts.text (stages-flat x.doc y.doc h.pending)
      (intervals-more (SettledAlike x.doc.text.items y.doc.text.items) (EndsAlike x.doc.text.items y.doc.text.items) (λ i j e. settled-ends e) h.doc.intervals)

  pub content-alike : content x ≡ content y
  content-alike =
      let k = x.last_stage in
      let text = view-alike k h.doc.parts.text.twins in
      rw (same-last) (rw (
        same-flat (λ (e : ListElement). content_characters e.content) (λ (e : ListElement). content_characters e.content)
            (λ a b t. ap content_characters (same-of (λ (e : ListElement). e.content) (λ e n. refl) a b t)) text,
        markers-alike 0 text,
        runs-alike 0 text,
        same-map (interval_record k x.doc.text.items) (interval_record k y.doc.text.items) (λ i j r. interval-shown k i j r) shown-intervals,
        beside-length (view-alike k h.doc.parts.rows.twins),
        beside-length (view-alike k h.doc.parts.cols.twins),
        shown-cells k,
      ) refl)

  pub overlap-alike : (label : Characters) (a b : ℕ) → overlap x label a b ≡ overlap y label a b
  overlap-alike label a b = ap (λ c. filter (meets label a b) c.intervals) content-alike

  pub blame-alike : blame x ≡ blame y
  blame-alike = rw (same-last) (same-map (λ (e : ListElement). origin_of e.by) (λ (e : ListElement). origin_of e.by)
      (λ a b t. same-of (λ (e : ListElement). origin_of e.by) (λ e n. refl) a b t) (view-alike x.last_stage h.doc.parts.text.twins))

  regenerated-of : {es fs : List PendingEdit} → EditsBeside x.doc y.doc es fs → filter_map (regenerated_edit x.doc) es ≡ filter_map (regenerated_edit y.doc) fs
  regenerated-of ends = refl
  regenerated-of (next {x = e} {y = f} r rs) = rw (regenerated-alike x.last_stage x.doc y.doc h.doc e f r.stages, regenerated-of rs) refl

  pub drafts-alike : regenerated x ≡ regenerated y
  drafts-alike = regenerated-of h.pending
