-- Of a message that sets no cell none is told.
use Rattle.std.proofs.Common.{◌≡◌, ℕ, ◌≤◌, Bool, true, false, cond, ◌&&◌, List, [], ◌∷◌, Option, Some, None, Ok, refl, sym, ◌∙◌, ap}
use Rattle.std.specs.List.{list_any}
use Rattle.ft_props.specs.Element.{ElementId, SequencedId, is_named_by}
use Rattle.ft_props.specs.Properties.{ValueBytes}
use Rattle.ft_props.specs.Steps.{Sequence}
use Rattle.ft_op.specs.declared.operations.BaseOp.{BaseOp}
use Rattle.ft_op.specs.declared.operations.BaseOp.TheVariants.{Annotate, Insert, Remove}
use Rattle.ft_op.specs.declared.operations.CellOp.TheVariants.{Set, SpliceIn, SpliceOut}
use Rattle.ft_op.specs.declared.operations.Target.TheVariants.{Cols, Rows}
use Rattle.ft_op.specs.Cells.{Cell}
use Rattle.ft_op.specs.Document.{Document, effect, effects}
use Rattle.ft_op.specs.Intervals.{NamedElements}
use Rattle.ft_op.specs.Operation.{OnGrid, OnIntervals, OnText, SubOperation, sub_operations}
use Rattle.ft_op.specs.Stages.{Stage}
use Rattle.ft_msg.specs.declared.messages.Body.{Body}
use Rattle.ft_msg.specs.declared.messages.Body.TheVariants.{Elsewhere, Nothing, Op}
use Rattle.ft_msg.specs.declared.messages.Entry.{Entry}
use Rattle.ft_msg.specs.Agreed.{body_effect, reference_number}
use Rattle.ft_msg.specs.Client.{NaiveClient, stages_of}
use Rattle.ft_msg.specs.ClientSteps.{has_fitting_body}
use Rattle.ft_msg.specs.Compacted.{IsCompacted}
use Rattle.ft_msg.specs.Content.{cell_after_stage, shown_cell_value, value_unless_null}
use Rattle.ft_msg.specs.Process.{after_entry, process}
use Rattle.ft_msg.specs.Reached.{IsReached}
use Rattle.ft_laws_names.specs.WellNamed.{AreStagesNamed, AreThere, IsWellNamed, IsWellNumbered, StandsIn}
use Rattle.ft_laws_names.proofs.DocumentsAlike.{same_id-turn}
use Rattle.ft_laws_names.proofs.ListSteps.{unused-other}
use Rattle.ft_laws_names.proofs.NamedSteps.{reached-named}
use Rattle.ft_changes.specs.Laws.{after_lists, has_sub_operation, sets_cell}
use Rattle.ft_changes.specs.Shown.{ShownContent, after_changes, shown_content}
use Rattle.ft_changes.specs.Told.{told_body, told_cells}
use Rattle.ft_changes.proofs.AckedLists.{neither}
use Rattle.ft_changes.proofs.CellsLead.{ShowsTable, effects-table}
use Rattle.ft_changes.proofs.KeptTold.{kept-shows-as}
use Rattle.ft_changes.proofs.MovedCells.{as-table, shown_names, table, value_over}
use Rattle.ft_changes.proofs.NothingTold.{cells-same-none, own-or-foreign}

-- ---- units that come later have no cell

-- a name of a later element isn't named
later-unnamed : (last : ℕ) (list : Sequence) (i : ℕ) → IsWellNumbered last list → list.made ≤ i → (o : Option ElementId) → StandsIn list.items o
    → is_named_by (SequencedId i) o ≡ false
later-unnamed last list i w l None g = refl
later-unnamed last list i w l (Some a) g = same_id-turn (SequencedId i) a ∙ unused-other last list a (SequencedId i) w g l

module _ (last : ℕ) (doc : Document) (rows : IsWellNumbered last doc.rows) (cols : IsWellNumbered last doc.cols) where
  row-value : (i k : ℕ) (b : ElementId) (o : SubOperation) (names : NamedElements) → doc.rows.made ≤ i → AreThere doc o names
      → cell_after_stage (SequencedId i) b (record { stage = k; sub_operation = o; names = names }) None ≡ None
  row-value i k b (OnText op) names l g = refl
  row-value i k b (OnIntervals op) names l g = refl
  row-value i k b (OnGrid (SpliceIn target p count)) names l g = refl
  row-value i k b (OnGrid (SpliceOut target p q)) names l g = refl
  row-value i k b (OnGrid (Set x y value)) names l g =
      ap (λ d. cond (d && is_named_by b names.second) (value_unless_null value) None) (later-unnamed last doc.rows i rows l names.first g.0)

  col-value : (i k : ℕ) (a : ElementId) (o : SubOperation) (names : NamedElements) → doc.cols.made ≤ i → AreThere doc o names
      → cell_after_stage a (SequencedId i) (record { stage = k; sub_operation = o; names = names }) None ≡ None
  col-value i k a (OnText op) names l g = refl
  col-value i k a (OnIntervals op) names l g = refl
  col-value i k a (OnGrid (SpliceIn target p count)) names l g = refl
  col-value i k a (OnGrid (SpliceOut target p q)) names l g = refl
  col-value i k a (OnGrid (Set x y value)) names l g =
      ap (λ d. cond (is_named_by a names.first && d) (value_unless_null value) None) (later-unnamed last doc.cols i cols l names.second g.1)
      ∙ none (is_named_by a names.first)
    where
      none : (b : Bool) → cond (b && false) (value_unless_null value) None ≡ None
      none true = refl
      none false = refl

  row-values : (i : ℕ) (b : ElementId) (ts : List Stage) → doc.rows.made ≤ i → AreStagesNamed doc ts → shown_cell_value (SequencedId i) b None ts
      ≡ None
  row-values i b [] l g = refl
  row-values i b (t ∷ ts) l g = ap (λ v. shown_cell_value (SequencedId i) b v ts) (row-value i t.stage b t.sub_operation t.names l g.0.0)
      ∙ row-values i b ts l g.1

  col-values : (i : ℕ) (a : ElementId) (ts : List Stage) → doc.cols.made ≤ i → AreStagesNamed doc ts → shown_cell_value a (SequencedId i) None ts
      ≡ None
  col-values i a [] l g = refl
  col-values i a (t ∷ ts) l g = ap (λ v. shown_cell_value a (SequencedId i) v ts) (col-value i t.stage a t.sub_operation t.names l g.0.0)
      ∙ col-values i a ts l g.1

pub start-table : (n c r : ℕ) (x : NaiveClient) → IsWellNamed x → ShowsTable x.last_stage n c r (value_over x.doc.cells (stages_of x)) (shown_content x)
    x.doc
start-table n c r x h = record {
  cells = as-table x.last_stage x.doc.cells (stages_of x) x.doc.cols.items 0 x.doc.rows.items;
  row_ahead = λ i l b. ap (λ v. shown_cell_value (SequencedId i) b v (stages_of x)) (h.cells.rows (SequencedId i) b l)
      ∙ row-values x.last_stage x.doc h.rows h.cols i b (stages_of x) l h.stages;
  col_ahead = λ i l a. ap (λ v. shown_cell_value a (SequencedId i) v (stages_of x)) (h.cells.cols a (SequencedId i) l)
      ∙ col-values x.last_stage x.doc h.rows h.cols i a (stages_of x) l h.stages;
}

-- ---- a message that sets no cell

module _ (s c r : ℕ) where
  one-of : (b : Bool) (x y : Document) (cells : List Cell) → x.cells ≡ cells → y.cells ≡ cells → (cond b x y).cells ≡ cells
  one-of true x y cells e d = e
  one-of false x y cells e d = d

  text-kept : (doc : Document) (op : BaseOp) → (effect doc s c r (OnText op)).cells ≡ doc.cells
  text-kept doc (Insert p seg props) = one-of _ _ _ doc.cells refl refl
  text-kept doc (Remove p q) = one-of _ _ _ doc.cells refl refl
  text-kept doc (Annotate p q changes) = one-of _ _ _ doc.cells refl refl

  pub effect-kept : (doc : Document) (o : SubOperation) → sets_cell o ≡ false → (effect doc s c r o).cells ≡ doc.cells
  effect-kept doc (OnText op) e = text-kept doc op
  effect-kept doc (OnIntervals op) e = one-of _ _ _ doc.cells refl refl
  effect-kept doc (OnGrid (SpliceIn Rows p count)) e = one-of _ _ _ doc.cells refl refl
  effect-kept doc (OnGrid (SpliceIn Cols p count)) e = one-of _ _ _ doc.cells refl refl
  effect-kept doc (OnGrid (SpliceOut Rows p q)) e = one-of _ _ _ doc.cells refl refl
  effect-kept doc (OnGrid (SpliceOut Cols p q)) e = one-of _ _ _ doc.cells refl refl
  effect-kept doc (OnGrid (Set i j value)) e = absurd (cc)

  effects-kept : (os : List SubOperation) (doc : Document) → list_any sets_cell os ≡ false → (effects doc s c r os).cells ≡ doc.cells
  effects-kept [] doc e = refl
  effects-kept (o ∷ os) doc e =
      let p = neither (sets_cell o) (list_any sets_cell os) e in
      effects-kept os (effect doc s c r o) p.1 ∙ effect-kept doc o p.0

  body-kept : (doc : Document) (body : Body) → has_sub_operation sets_cell body ≡ false → (body_effect doc s c r body).cells ≡ doc.cells
  body-kept doc Nothing e = refl
  body-kept doc (Op op) e = effects-kept (sub_operations op) doc e
  body-kept doc (Elsewhere address) e = refl

  pub body-table : (k : ℕ) (value : ElementId → ElementId → Option ValueBytes) (t : ShownContent) (doc : Document) (body : Body)
      → ShowsTable k s c r value t doc
      → ShowsTable k s c r value (after_changes t (told_body k doc s c r body)) (body_effect doc s c r body)
  body-table k value t doc Nothing h = h
  body-table k value t doc (Op op) h = effects-table k s c r value (sub_operations op) t doc h
  body-table k value t doc (Elsewhere address) h = record { cells = h.cells; row_ahead = h.row_ahead; col_ahead = h.col_ahead }

-- ---- an entry

module _ (x y : NaiveClient) (entry : Entry) (reached : IsReached x) (fits : has_fitting_body entry ≡ true) (e : process x entry ≡ Ok y)
    (unset : has_sub_operation sets_cell entry.msg.body ≡ false) where
  pub cells-lead : (after_lists x entry).cells ≡ (shown_content y).cells
  cells-lead =
      let k = x.last_stage in
      let s = entry.msg.seq in
      let c = entry.origin in
      let r = reference_number entry.msg.ref_seq in
      let doc = body_effect x.doc s c r entry.msg.body in
      let stages = stages_of x in
      let rows = shown_names k doc.rows.items in
      let cols = shown_names k doc.cols.items in
      let moved = body-table s c r k (value_over x.doc.cells stages) (shown_content x) x.doc entry.msg.body (start-table s c r x (reached-named x
      reached)) in
      own-or-foreign x y entry reached fits e (λ t u. t.cells ≡ u.cells) (λ t. refl)
      (λ is. moved.cells
      ∙ ap (λ cells. table (value_over cells stages) rows cols) (sym (body-kept s c r x.doc entry.msg.body unset))
      ∙ sym (as-table k doc.cells stages doc.cols.items 0 doc.rows.items))

pub unset-cells-tell-nothing : (x y : NaiveClient) (entry : Entry) → IsReached x → has_fitting_body entry ≡ true → process x entry ≡ Ok y
    → has_sub_operation sets_cell entry.msg.body ≡ false → told_cells (after_lists x entry).cells (shown_content y).cells ≡ []
unset-cells-tell-nothing x y entry reached fits e unset =
    ap (λ cells. told_cells cells (shown_content y).cells) (cells-lead x y entry reached fits e unset) ∙ cells-same-none (shown_content y).cells

pub kept-unset-cells-tell-nothing : (kept x y : NaiveClient) (entry : Entry) → IsReached x → IsCompacted kept x → has_fitting_body entry ≡ true
    → process x entry ≡ Ok y
    → has_sub_operation sets_cell entry.msg.body ≡ false → told_cells (after_lists kept entry).cells (shown_content (after_entry kept entry)).cells
    ≡ []
kept-unset-cells-tell-nothing kept x y entry reached is fits e unset =
    kept-shows-as kept x y entry reached is fits e (λ t u. told_cells t.cells u.cells ≡ []) (unset-cells-tell-nothing x y entry reached fits e unset)
