-- The acknowledgement of an edit leaves the cells that are shown as they are.
use Rattle.std.proofs.Common.{◌≡◌, ℕ, ◌+◌, ◌≤◌, Bool, true, false, cond, ◌&&◌, List, [], ◌∷◌, ◌++◌, Option, Some, None, refl, sym, ◌∙◌, ap, subst, arith, map}
use Rattle.ft_base.specs.Scan.{len}
use Rattle.ft_props.specs.Element.{ElementId, ListElement, has_id, id, is_named_by, same_id, seen}
use Rattle.ft_props.specs.Properties.{ValueBytes}
use Rattle.ft_props.specs.Steps.{acked_element, acked_id, acked_list}
use Rattle.ft_op.specs.declared.operations.CellOp.TheVariants.{Set, SpliceIn, SpliceOut}
use Rattle.ft_op.specs.Cells.{Cell, cell_value}
use Rattle.ft_op.specs.Document.{Document}
use Rattle.ft_op.specs.Intervals.{NamedElements}
use Rattle.ft_op.specs.Operation.{OnGrid, OnIntervals, OnText, SubOperation}
use Rattle.ft_op.specs.Stages.{Stage}
use Rattle.ft_sumdoc.specs.declared.summary.CellRec.{CellRec}
use Rattle.ft_msg.specs.declared.messages.Entry.{Entry}
use Rattle.ft_msg.specs.Acknowledgement.{ack_stage, ack_stages, after_own_message, cells_after_stage, made_before, renamed, renamed_stage, write_named_cell}
use Rattle.ft_msg.specs.Client.{NaiveClient, PendingEdit}
use Rattle.ft_msg.specs.Content.{all_cells, cell_after_stage, cell_record, content, row_cells, shown_cell_value, stage_view, value_unless_null}
use Rattle.ft_laws_agreement.specs.Sequencing.{Each}
use Rattle.ft_laws_agreement.proofs.CellValues.{value-write}
use Rattle.ft_laws_agreement.proofs.NamedByPlace.{names-not_renamed}
use Rattle.ft_laws_names.specs.WellNamed.{AreStagesNamed, AreThere, HasItsStages, IsWellNamed, RiseTo, StandsIn, inserts_cols, inserts_rows}
use Rattle.ft_laws_names.proofs.AckedLists.{acked-id, same-acked, stands-below, unstaged}
use Rattle.ft_laws_names.proofs.Beside.{ends, next}
use Rattle.ft_laws_names.proofs.ClientsAlike.{ClientsAlike, stages-flat}
use Rattle.ft_laws_names.proofs.DocumentsAlike.{DocsAlike, places}
use Rattle.ft_laws_names.proofs.Indexing.{alike-itself}
use Rattle.ft_laws_names.proofs.LocalAlike.{StageAlike, StageNames, StagesBeside}
use Rattle.ft_laws_names.proofs.OwnAlike.{AckedEdits, col-value, cols-name, edit-alike, not-own, put-in-renamed, rise-renamed, row-value, rows-name, stages-twice}
use Rattle.ft_laws_names.proofs.RejoinAlike.{EditsBeside, stages_in}
use Rattle.ft_laws_names.proofs.Twins.{AreTwins, BesideList, EndsAlike, detached, on}
use Rattle.ft_changes.proofs.AckedClient.{edits-renamed}
use Rattle.ft_changes.proofs.AckedLists.{acked-seen}

-- ---- cells of two lists, each element of which has another name

module _ (last : ℕ) (cells others : List Cell) (us vs : List Stage) (f g : ListElement → ListElement) (R S : ListElement → Type 0)
    (row-seen : (e : ListElement) → seen last (f e) ≡ seen last e) (col-seen : (e : ListElement) → seen last (g e) ≡ seen last e)
    (same : (e d : ListElement) → R e → S d
    → shown_cell_value (id (f e)) (id (g d)) (cell_value (id (f e)) (id (g d)) others) vs ≡ shown_cell_value (id e) (id d) (cell_value (id e) (id d)
    cells) us) where
  row-same : (e : ListElement) → R e → (i j : ℕ) (ds : List ListElement) → Each S ds
      → row_cells others vs i (id (f e)) j (stage_view last (map g ds)) ≡ row_cells cells us i (id e) j (stage_view last ds)
  row-same e r i j [] h = refl
  row-same e r i j (d ∷ ds) h =
      ap (λ b. row_cells others vs i (id (f e)) j (cond b (g d ∷ stage_view last (map g ds)) (stage_view last (map g ds)))) (col-seen d)
      ∙ by (seen last d) (λ m. row-same e r i m ds h.1)
    where
      by : (b : Bool) → ((m : ℕ) → row_cells others vs i (id (f e)) m (stage_view last (map g ds))
          ≡ row_cells cells us i (id e) m (stage_view last ds))
          → row_cells others vs i (id (f e)) j (cond b (g d ∷ stage_view last (map g ds)) (stage_view last (map g ds)))
          ≡ row_cells cells us i (id e) j (cond b (d ∷ stage_view last ds) (stage_view last ds))
      by true rest =
          ap (λ v. cell_record i j v ++ row_cells others vs i (id (f e)) (j + 1) (stage_view last (map g ds))) (same e d r h.0)
          ∙ ap (λ cs. cell_record i j (shown_cell_value (id e) (id d) (cell_value (id e) (id d) cells) us) ++ cs) (rest (j + 1))
      by false rest = rest j

  pub cells-same : (ds : List ListElement) → Each S ds → (i : ℕ) (es : List ListElement) → Each R es
      → all_cells others vs (stage_view last (map g ds)) i (stage_view last (map f es)) ≡ all_cells cells us (stage_view last ds) i (stage_view last
      es)
  cells-same ds h i [] r = refl
  cells-same ds h i (e ∷ es) r =
      ap (λ b. all_cells others vs (stage_view last (map g ds)) i (cond b (f e ∷ stage_view last (map f es)) (stage_view last (map f es)))) (row-seen
      e)
      ∙ by (seen last e) (λ m. cells-same ds h m es r.1)
    where
      by : (b : Bool) → ((m : ℕ) → all_cells others vs (stage_view last (map g ds)) m (stage_view last (map f es))
          ≡ all_cells cells us (stage_view last ds) m (stage_view last es))
          → all_cells others vs (stage_view last (map g ds)) i (cond b (f e ∷ stage_view last (map f es)) (stage_view last (map f es)))
          ≡ all_cells cells us (stage_view last ds) i (cond b (e ∷ stage_view last es) (stage_view last es))
      by true rest =
          ap (λ cs. cs ++ all_cells others vs (stage_view last (map g ds)) (i + 1) (stage_view last (map f es))) (row-same e r.0 i 0 ds h)
          ∙ ap (λ cs. row_cells cells us i (id e) 0 (stage_view last ds) ++ cs) (rest (i + 1))
      by false rest = rest i

-- ---- what stands in a document

-- each element of a list has a name that stands there
there-all : {xs ys us vs : List ListElement} → BesideList (AreTwins xs ys) us vs → Each (λ e. 1 ≤ len (has_id (id e)) xs) us
there-all ends = tt
there-all (next t ts) = (t.stand.there, there-all ts)

end-there : {xs ys : List ListElement} {o p : Option ElementId} → EndsAlike xs ys o p → StandsIn xs o
end-there detached = tt
end-there (on s) = s.there

stage-there : (p q : Document) (o : SubOperation) (a b : NamedElements) → StageNames p q o a b → AreThere p o a
stage-there p q (OnText op) a b n = n.0
stage-there p q (OnIntervals op) a b n = (end-there n.first, end-there n.second)
stage-there p q (OnGrid (SpliceIn target i count)) a b n = n.0
stage-there p q (OnGrid (SpliceOut target i j)) a b n = n.0
stage-there p q (OnGrid (Set i j value)) a b n = (end-there n.0, end-there n.1)

stages-there : (p q : Document) {ts us : List Stage} → StagesBeside p q ts us → AreStagesNamed p ts
stages-there p q ends = tt
stages-there p q (next {x = t} {y = u} r rs) = ((stage-there p q t.sub_operation t.names u.names r.names, r.before), stages-there p q rs)

first-alike : {p q : Document} {t u : Stage} {ts us : List Stage} → StagesBeside p q (t ∷ ts) (u ∷ us) → StageAlike p q t u
first-alike (next r rs) = r

rise-last : (low last : ℕ) (ts : List Stage) → RiseTo low last ts → low ≤ last
rise-last low last [] h = h
rise-last low last (t ∷ ts) h = let rest = rise-last t.stage last ts h.1 in let here = h.0 in omega arith

-- ---- one stage

module _ (last s c low : ℕ) (t : Stage) (ts : List Stage) (doc : Document) (h : DocsAlike last doc doc) (r : StageAlike doc doc t t)
    (later : AreStagesNamed doc ts) (rise : RiseTo low last (t ∷ ts)) (own : HasItsStages (t ∷ ts) doc) where
  abbrev rename : ElementId → ElementId
  rename = acked_id t.stage (made_before doc t.sub_operation)

  abbrev row_after : ElementId → ElementId
  row_after = acked_id t.stage doc.rows.made

  abbrev col_after : ElementId → ElementId
  col_after = acked_id t.stage doc.cols.made

  abbrev IsRow : ElementId → Type 0
  IsRow a = 1 ≤ len (has_id a) doc.rows.items

  abbrev IsCol : ElementId → Type 0
  IsCol a = 1 ≤ len (has_id a) doc.cols.items

  row-named : (a : ElementId) → IsRow a → (o : Option ElementId) → StandsIn doc.rows.items o → is_named_by (row_after a) (renamed rename o)
      ≡ is_named_by a o
  row-named a l None g = refl
  row-named a l (Some b) g =
      let w = h.parts.rows.left in
      let name : row_after b ≡ rename b = rows-name last s c low t t.names ts doc doc h r.names r.before r.other rise own doc w own.rows
      t.sub_operation refl b g in
      ap (same_id (row_after a)) (sym name)
      ∙ same-acked t.stage doc.rows.made a b (stands-below last t.stage s c doc.rows w a l) (stands-below last t.stage s c doc.rows w b g)

  col-named : (a : ElementId) → IsCol a → (o : Option ElementId) → StandsIn doc.cols.items o → is_named_by (col_after a) (renamed rename o)
      ≡ is_named_by a o
  col-named a l None g = refl
  col-named a l (Some b) g =
      let w = h.parts.cols.left in
      let name : col_after b ≡ rename b = cols-name last s c low t t.names ts doc doc h r.names r.before r.other rise own doc w own.cols
      t.sub_operation refl b g in
      ap (same_id (col_after a)) (sym name)
      ∙ same-acked t.stage doc.cols.made a b (stands-below last t.stage s c doc.cols w a l) (stands-below last t.stage s c doc.cols w b g)

  module _ (a b : ElementId) (row : IsRow a) (col : IsCol b) where
    -- a write of a later stage
    later-value : (k : ℕ) (o : SubOperation) (names : NamedElements) (v : Option ValueBytes) → AreThere doc o names
        → cell_after_stage (row_after a) (col_after b) (renamed_stage rename (record { stage = k; sub_operation = o; names = names })) v
        ≡ cell_after_stage a b (record { stage = k; sub_operation = o; names = names }) v
    later-value k (OnText op) names v g = refl
    later-value k (OnIntervals op) names v g = refl
    later-value k (OnGrid (SpliceIn target i count)) names v g = refl
    later-value k (OnGrid (SpliceOut target i j)) names v g = refl
    later-value k (OnGrid (Set i j value)) names v g =
        ap (λ d. cond (d && is_named_by (col_after b) (renamed rename names.second)) (value_unless_null value) v) (row-named a row names.first g.0)
        ∙ ap (λ d. cond (is_named_by a names.first && d) (value_unless_null value) v) (col-named b col names.second g.1)

    later-values : (us : List Stage) → AreStagesNamed doc us → (v : Option ValueBytes)
        → shown_cell_value (row_after a) (col_after b) v (map (renamed_stage rename) us) ≡ shown_cell_value a b v us
    later-values [] g v = refl
    later-values (u ∷ us) g v =
        ap (λ w. shown_cell_value (row_after a) (col_after b) w (map (renamed_stage rename) us)) (later-value u.stage u.sub_operation u.names v g.0.0)
        ∙ later-values us g.1 (cell_after_stage a b u v)

    kept-value : cell_value (row_after a) (col_after b) doc.cells ≡ cell_value a b doc.cells
    kept-value =
        row-value last s c low t t.names ts doc doc h r.names r.before r.other rise own doc h.parts.left a (col_after b)
        ∙ col-value last s c low t t.names ts doc doc h r.names r.before r.other rise own doc h.parts.left a b

    -- the write of this stage, which has put in neither rows nor columns
    written : (value : ValueBytes) → row_after a ≡ a → col_after b ≡ b → (o p : Option ElementId)
        → cell_value (row_after a) (col_after b) (write_named_cell o p value doc.cells)
        ≡ cond (is_named_by a o && is_named_by b p) (value_unless_null value) (cell_value a b doc.cells)
    written value e d None p = kept-value
    written value e d (Some x) None = kept-value ∙ neither (same_id a x)
      where
        neither : (n : Bool) → cell_value a b doc.cells ≡ cond (n && false) (value_unless_null value) (cell_value a b doc.cells)
        neither true = refl
        neither false = refl
    written value e d (Some x) (Some y) =
        let v = cell_value (row_after a) (col_after b) doc.cells in
        value-write (row_after a) (col_after b) (record { row = x; col = y; value = value }) doc.cells
        ∙ ap (λ i. cond (same_id i x && same_id (col_after b) y) (value_unless_null value) v) e
        ∙ ap (λ i. cond (same_id a x && same_id i y) (value_unless_null value) v) d
        ∙ ap (cond (same_id a x && same_id b y) (value_unless_null value)) kept-value

    first-value : (o : SubOperation) → t.sub_operation ≡ o
        → cell_value (row_after a) (col_after b) (cells_after_stage o t.names doc.cells) ≡ cell_after_stage a b (record t { sub_operation = o })
        (cell_value a b doc.cells)
    first-value (OnText op) e = kept-value
    first-value (OnIntervals op) e = kept-value
    first-value (OnGrid (SpliceIn target i count)) e = kept-value
    first-value (OnGrid (SpliceOut target i j)) e = kept-value
    first-value (OnGrid (Set i j value)) e =
        let rows = not-own inserts_rows low last t ts doc.rows.items (ap inserts_rows e) rise own.rows in
        let cols = not-own inserts_cols low last t ts doc.cols.items (ap inserts_cols e) rise own.cols in
        written value (unstaged last t.stage doc.rows.made doc.rows a h.parts.rows.left rows row) (unstaged last t.stage doc.cols.made doc.cols b
        h.parts.cols.left cols col)
        t.names.first t.names.second

    value-same : shown_cell_value (row_after a) (col_after b) (cell_value (row_after a) (col_after b) (cells_after_stage t.sub_operation t.names
        doc.cells)) (map (renamed_stage rename) ts)
        ≡ shown_cell_value a b (cell_value a b doc.cells) (t ∷ ts)
    value-same =
        ap (λ v. shown_cell_value (row_after a) (col_after b) v (map (renamed_stage rename) ts)) (first-value t.sub_operation refl)
        ∙ later-values ts later (cell_after_stage a b t (cell_value a b doc.cells))

  stage-cells : all_cells (cells_after_stage t.sub_operation t.names doc.cells) (map (renamed_stage rename) ts)
      (stage_view last (acked_list t.stage s c doc.cols).items) 0 (stage_view last (acked_list t.stage s c doc.rows).items)
      ≡ all_cells doc.cells (t ∷ ts) (stage_view last doc.cols.items) 0 (stage_view last doc.rows.items)
  stage-cells =
      let f = acked_element t.stage doc.rows.made s c in
      let g = acked_element t.stage doc.cols.made s c in
      let others = cells_after_stage t.sub_operation t.names doc.cells in
      let us = map (renamed_stage rename) ts in
      let most = rise-last t.stage last ts rise.1 in
      cells-same last doc.cells others (t ∷ ts) us f g (λ e. IsRow (id e)) (λ e. IsCol (id e))
      (acked-seen t.stage last s c most doc.rows.made) (acked-seen t.stage last s c most doc.cols.made)
      (λ e d row col.
      ap (λ i. shown_cell_value i (id (g d)) (cell_value i (id (g d)) others) us) (acked-id t.stage s c doc.rows.made e)
      ∙ ap (λ i. shown_cell_value (row_after (id e)) i (cell_value (row_after (id e)) i others) us) (acked-id t.stage s c doc.cols.made d)
      ∙ value-same (id e) (id d) row col)
      doc.cols.items (there-all (places last doc.cols doc.cols h.parts.cols)) 0 doc.rows.items (there-all (places last doc.rows doc.rows
      h.parts.rows))

-- ---- the stages of an edit

-- the cells that a document shows with these stages pending
abbrev pub cells_shown : ℕ → Document → List Stage → List CellRec
cells_shown last doc ts = all_cells doc.cells ts (stage_view last doc.cols.items) 0 (stage_view last doc.rows.items)

-- one after another, where the elements are renamed by the stages before
pub edit-cells : (last s c low : ℕ) (gs rest : List Stage) (f : ElementId → ElementId) (doc : Document)
    → AckedEdits last low (gs ++ rest) (gs ++ rest) (doc, f) (doc, f)
    → cells_shown last (ack_stages s c f gs doc).0 (map (renamed_stage (ack_stages s c f gs doc).1) rest)
    ≡ cells_shown last doc (map (renamed_stage f) (gs ++ rest))
edit-cells last s c low [] rest f doc h = refl
edit-cells last s c low (t ∷ gs) rest f doc h =
    let ts = gs ++ rest in
    let g = acked_id t.stage (made_before doc t.sub_operation) in
    let after = ack_stage s c f t doc in
    let next : AckedEdits last low ts ts (after, λ x. g (f x)) (after, λ x. g (f x)) = edit-alike last s c low ts ts f f (t ∷ []) (t ∷ []) doc doc
    refl h.alike h.stages h.own h.rise in
    edit-cells last s c low gs rest (λ x. g (f x)) after next
    ∙ ap (cells_shown last after) (sym (stages-twice f g ts))
    ∙ stage-cells last s c low (renamed_stage f t) (map (renamed_stage f) ts) doc h.alike (first-alike h.stages) (stages-there doc doc h.stages).1
    (rise-renamed f low last (t ∷ ts) h.rise) (put-in-renamed f (t ∷ ts) doc h.own)

-- ---- a client

stage-unrenamed : (t : Stage) → renamed_stage (λ i. i) t ≡ t
stage-unrenamed t = ap (λ names. record t { names = names }) (names-not_renamed t.names)

stages-unrenamed : (ts : List Stage) → map (renamed_stage (λ i. i)) ts ≡ ts
stages-unrenamed [] = refl
stages-unrenamed (t ∷ ts) = ap (λ u. u ∷ map (renamed_stage (λ i. i)) ts) (stage-unrenamed t) ∙ ap (λ us. t ∷ us) (stages-unrenamed ts)

-- its own message changes no cell that it shows
pub own-cells : (x : NaiveClient) (entry : Entry) → IsWellNamed x → (content (after_own_message x entry)).cells ≡ (content x).cells
own-cells x entry h = by x.pending itself.pending h.own h.rise
  where
    itself : ClientsAlike x x
    itself = alike-itself x h

    by : (edits : List PendingEdit) → EditsBeside x.doc x.doc edits edits → HasItsStages (stages_in edits) x.doc
        → RiseTo 0 x.last_stage (stages_in edits)
        → (content (after_own_message (record x { pending = edits }) entry)).cells ≡ (content (record x { pending = edits })).cells
    by [] b own rise = refl
    by (edit ∷ edits) b own rise =
        let last = x.last_stage in
        let s = entry.msg.seq in
        let c = entry.origin in
        let rest = stages_in edits in
        let acked : Document × (ElementId → ElementId) = ack_stages s c (λ i. i) edit.stages x.doc in
        let bare = stages-unrenamed (edit.stages ++ rest) in
        let start : AckedEdits last 0 (edit.stages ++ rest) (edit.stages ++ rest) (x.doc, λ i. i) (x.doc, λ i. i) = record {
          alike = itself.doc;
          stages = subst (λ us. StagesBeside x.doc x.doc us us) (sym bare) (stages-flat x.doc x.doc b);
          own = own;
          rise = rise;
        } in
        ap (cells_shown last acked.0) (edits-renamed acked.1 edits) ∙ edit-cells last s c 0 edit.stages rest (λ i. i) x.doc start
        ∙ ap (cells_shown last x.doc) bare
