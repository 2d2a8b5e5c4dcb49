-- A trimmed document shows what the whole one shows, also after further messages.
use Rattle.std.proofs.Common.{◌≡◌, ℕ, suc, ◌+◌, ◌≤◌, Bool, true, false, cond, List, [], ◌∷◌, ◌++◌, Option, Some, None, refl, sym, ◌∙◌, ap, arith, filter, map, length, pos}
use Rattle.std.specs.List.{list_all, list_any}
use Rattle.ft_base.specs.declared.stamps.Stamp.{Stamp}
use Rattle.ft_base.specs.declared.stamps.Stamp.TheVariants.{Acked, Local}
use Rattle.ft_base.specs.Visibility.{has_occurred_at_stage, is_acked}
use Rattle.ft_base.proofs.Booleans.{both}
use Rattle.ft_msg.specs.declared.messages.Entry.{Entry}
use Rattle.ft_msg.specs.declared.messages.Body.{Body}
use Rattle.ft_msg.specs.declared.messages.Body.TheVariants.{Nothing, Op, Elsewhere}
use Rattle.ft_props.specs.Properties.{shown_props}
use Rattle.ft_props.specs.Element.{ListElement, ElementId, id, has_id, seen, removal_stamp}
use Rattle.ft_props.specs.Compaction.{Keeps, is_insertion_at_or_below, with_universal_insertion, trim_element}
use Rattle.ft_props.specs.Slide.{end_number}
use Rattle.ft_op.specs.Operation.{sub_operations}
use Rattle.ft_op.specs.Intervals.{Interval}
use Rattle.ft_op.specs.Cells.{Cell, cell_value}
use Rattle.ft_op.specs.Document.{Document}
use Rattle.ft_op.specs.Stages.{Stage}
use Rattle.ft_msg.specs.Agreed.{body_effect, reference_number, take_entries, take_entry, with_numbers}
use Rattle.ft_msg.specs.Content.{shown, text_characters, markers_from, property_runs_from, interval_record, row_cells, all_cells, content_characters, content_markers, extended_property_runs, cell_record, shown_cell_value}
use Rattle.ft_msg.specs.Process.{is_op}
use Rattle.ft_laws_agreement.specs.Trimming.{AreFrom}
use Rattle.ft_laws_agreement.proofs.CompactedScans.{filter-kept, has_id-alike, id-universal, is_held_end, rank-kept, seen-alike}
use Rattle.ft_laws_agreement.proofs.HeldNames.{filter-held}
use Rattle.ft_laws_agreement.proofs.TrimmedDocument.{HeldNames, Trimmed, effects-trimmed, has_held_ends, is_removed, same-intervals}
use Rattle.ft_laws_agreement.proofs.Booleans.{never}
use Rattle.ft_laws_agreement.proofs.AnyAndAll.{any-append}

-- ---- what depends on contents, names, properties and pending changes alone

module _ (floor : ℕ) where
  -- an element but for its insertion is as the trimmed one
  pub on_trimmed : {B : Type 0} (f : ListElement → B) (e : ListElement) → (is_insertion_at_or_below floor e.ins ≡ true → f (with_universal_insertion e) ≡ f e)
      → f (trim_element floor e) ≡ f e
  on_trimmed f e h = step (is_insertion_at_or_below floor e.ins) h
    where
      step : (b : Bool) → (b ≡ true → f (with_universal_insertion e) ≡ f e) → f (cond b (with_universal_insertion e) e) ≡ f e
      step true h = h refl
      step false h = refl

  pub trimmed-characters : (xs : List ListElement) → text_characters (map (trim_element floor) xs) ≡ text_characters xs
  trimmed-characters [] = refl
  trimmed-characters (e ∷ xs) =
      ap (λ c. content_characters c ++ text_characters (map (trim_element floor) xs)) (on_trimmed (λ d. d.content) e (λ h. refl))
      ∙ ap (λ cs. content_characters e.content ++ cs) (trimmed-characters xs)

  pub trimmed-markers : (i : ℕ) (xs : List ListElement) → markers_from i (map (trim_element floor) xs) ≡ markers_from i xs
  trimmed-markers i [] = refl
  trimmed-markers i (e ∷ xs) =
      ap (λ c. content_markers i c ++ markers_from (i + 1) (map (trim_element floor) xs)) (on_trimmed (λ d. d.content) e (λ h. refl))
      ∙ ap (λ cs. content_markers i e.content ++ cs) (trimmed-markers (i + 1) xs)

  pub trimmed-runs : (i : ℕ) (xs : List ListElement) → property_runs_from i (map (trim_element floor) xs) ≡ property_runs_from i xs
  trimmed-runs i [] = refl
  trimmed-runs i (e ∷ xs) =
      ap (λ p. extended_property_runs i p (property_runs_from (i + 1) (map (trim_element floor) xs))) (on_trimmed (λ d. shown_props d.props d.pending) e (λ h. refl))
      ∙ ap (extended_property_runs i (shown_props e.props e.pending)) (trimmed-runs (i + 1) xs)

  pub trimmed-length : (xs : List ListElement) → length (map (trim_element floor) xs) ≡ length xs
  trimmed-length [] = refl
  trimmed-length (e ∷ xs) = ap suc (trimmed-length xs)

  trimmed-row_cells : (cells : List Cell) (stages : List Stage) (i : ℕ) (row : ElementId) (j : ℕ) (cols : List ListElement)
      → row_cells cells stages i row j (map (trim_element floor) cols) ≡ row_cells cells stages i row j cols
  trimmed-row_cells cells stages i row j [] = refl
  trimmed-row_cells cells stages i row j (e ∷ cols) =
      ap (λ x. cell_record i j (shown_cell_value row x (cell_value row x cells) stages) ++ row_cells cells stages i row (j + 1)
      (map (trim_element floor) cols)) (on_trimmed id e (id-universal floor e))
      ∙ ap (λ cs. cell_record i j (shown_cell_value row (id e) (cell_value row (id e) cells) stages) ++ cs) (trimmed-row_cells cells stages i row (j + 1) cols)

  pub trimmed-cols : (cells : List Cell) (stages : List Stage) (cols : List ListElement) (i : ℕ) (rows : List ListElement)
      → all_cells cells stages (map (trim_element floor) cols) i rows ≡ all_cells cells stages cols i rows
  trimmed-cols cells stages cols i [] = refl
  trimmed-cols cells stages cols i (e ∷ rows) = rw (trimmed-row_cells cells stages i (id e) 0 cols, trimmed-cols cells stages cols (i + 1) rows) refl

  pub trimmed-rows : (cells : List Cell) (stages : List Stage) (cols : List ListElement) (i : ℕ) (rows : List ListElement)
      → all_cells cells stages cols i (map (trim_element floor) rows) ≡ all_cells cells stages cols i rows
  trimmed-rows cells stages cols i [] = refl
  trimmed-rows cells stages cols i (e ∷ rows) =
      ap (λ x. row_cells cells stages i x 0 cols ++ all_cells cells stages cols (i + 1) (map (trim_element floor) rows)) (on_trimmed id e (id-universal floor e))
      ∙ ap (λ cs. row_cells cells stages i (id e) 0 cols ++ cs) (trimmed-rows cells stages cols (i + 1) rows)

-- what doesn't see how old insertions are written is the same of what a compacted list shows
pub on_view : {B : Type 0} (floor : ℕ) (held : ElementId → Bool) (f : List ListElement → B)
    → ((xs : List ListElement) → f (map (trim_element floor) xs) ≡ f xs) → (k : ℕ) (ks xs : List ListElement) → Keeps floor held ks xs
    → f (filter (seen k) ks) ≡ f (filter (seen k) xs)
on_view floor held f h k ks xs kept = sym (h (filter (seen k) ks)) ∙ ap f (filter-kept (seen k) (seen-alike floor k held) kept) ∙ h (filter (seen k) xs)

-- ---- cells of units that are there

module _ (ks cs : List Cell) (old new : List Stage) (held : ElementId → Bool) where
  abbrev SameValue : ElementId → ElementId → Type 0
  SameValue row col = shown_cell_value row col (cell_value row col ks) old ≡ shown_cell_value row col (cell_value row col cs) new

  agreed-row : (i : ℕ) (row : ElementId) → ((col : ElementId) → held col ≡ true → SameValue row col)
      → (j : ℕ) (cols : List ListElement) → list_all (λ e. held (id e)) cols ≡ true → row_cells ks old i row j cols ≡ row_cells cs new i row j cols
  agreed-row i row h j [] k = refl
  agreed-row i row h j (e ∷ cols) k =
      let p = both (held (id e)) (list_all (λ d. held (id d)) cols) k in
      ap (λ v. cell_record i j v ++ row_cells ks old i row (j + 1) cols) (h (id e) p.0)
      ∙ ap (λ us. cell_record i j (shown_cell_value row (id e) (cell_value row (id e) cs) new) ++ us) (agreed-row i row h (j + 1) cols p.1)

  -- the cells of units that are there are shown alike
  pub agreed-rows : (held' : ElementId → Bool) → ((row col : ElementId) → held' row ≡ true → held col ≡ true → SameValue row col)
      → (cols : List ListElement) → list_all (λ e. held (id e)) cols ≡ true → (i : ℕ) (rows : List ListElement) → list_all (λ e. held' (id e)) rows ≡ true
      → all_cells ks old cols i rows ≡ all_cells cs new cols i rows
  agreed-rows held' h cols k i [] l = refl
  agreed-rows held' h cols k i (e ∷ rows) l =
      let p = both (held' (id e)) (list_all (λ d. held' (id d)) rows) l in
      ap (λ us. us ++ all_cells ks old cols (i + 1) rows) (agreed-row i (id e) (λ col. h (id e) col p.0) 0 cols k)
      ∙ ap (λ us. row_cells cs new i (id e) 0 cols ++ us) (agreed-rows held' h cols k (i + 1) rows p.1)

-- ---- ends

module _ {floor : ℕ} {held : ElementId → Bool} {ks xs : List ListElement} (kept : Keeps floor held ks xs) where
  pub end_number-kept : (k : ℕ) (x : Option ElementId) → is_held_end held x ≡ true → end_number k ks x ≡ end_number k xs x
  end_number-kept k None h = refl
  end_number-kept k (Some x) h = ap pos (rank-kept (has_id x) (seen k) (has_id-alike floor held x h) (seen-alike floor k held) kept)

  pub records-kept : (k : ℕ) (is : List Interval) → list_all (has_held_ends held) is ≡ true → map (interval_record k ks) is ≡ map (interval_record k xs) is
  records-kept k [] h = refl
  records-kept k (i ∷ is) h =
      let p = both (has_held_ends held i) (list_all (has_held_ends held) is) h in
      let q = both (is_held_end held i.start) (is_held_end held i.end) p.0 in
      rw (end_number-kept k i.start q.0, end_number-kept k i.end q.1, records-kept k is p.1) refl

-- ---- the whole document

acked-occurs : (k : ℕ) (dels : List Stamp) → list_any is_acked dels ≡ true → list_any (has_occurred_at_stage k) dels ≡ true
acked-occurs k [] h = (cc)
acked-occurs k (Acked s c ∷ dels) h = refl
acked-occurs k (Local j ∷ dels) h = grind (arith, acked-occurs k dels)

-- what a removal hides isn't seen at any stage
pub removed-unseen : (k : ℕ) (e : ListElement) → is_removed e ≡ true → seen k e ≡ false
removed-unseen k e h = rw (any-append (has_occurred_at_stage k) e.dels (removal_stamp e.removal_stage) (acked-occurs k e.dels h)) (never (has_occurred_at_stage k e.ins))

pub shown-trimmed : (floor : ℕ) (held : HeldNames) (kept doc : Document) → Trimmed floor held kept doc → shown kept ≡ shown doc
shown-trimmed floor held kept doc t =
    let cells : all_cells kept.cells [] (filter (seen 0) kept.cols.items) 0 (filter (seen 0) kept.rows.items)
    ≡ all_cells doc.cells [] (filter (seen 0) doc.cols.items) 0 (filter (seen 0) doc.rows.items) =
    on_view floor held.cols (λ cols. all_cells kept.cells [] cols 0 (filter (seen 0) kept.rows.items))
    (λ cols. trimmed-cols floor kept.cells [] cols 0 (filter (seen 0) kept.rows.items)) 0 kept.cols.items doc.cols.items t.cols.items
    ∙ on_view floor held.rows (all_cells kept.cells [] (filter (seen 0) doc.cols.items) 0)
    (trimmed-rows floor kept.cells [] (filter (seen 0) doc.cols.items) 0) 0 kept.rows.items doc.rows.items t.rows.items
    ∙ agreed-rows kept.cells doc.cells [] [] held.cols held.rows t.cells
    (filter (seen 0) doc.cols.items) (filter-held is_removed held.cols (seen 0) (removed-unseen 0) doc.cols.items t.col_names.all)
    0 (filter (seen 0) doc.rows.items) (filter-held is_removed held.rows (seen 0) (removed-unseen 0) doc.rows.items t.row_names.all) in
    let intervals : map (interval_record 0 kept.text.items) kept.intervals ≡ map (interval_record 0 doc.text.items) doc.intervals =
    ap (map (interval_record 0 kept.text.items)) (same-intervals t) ∙ records-kept t.text.items 0 doc.intervals t.ends in
    rw (
      on_view floor held.text text_characters (trimmed-characters floor) 0 kept.text.items doc.text.items t.text.items,
      on_view floor held.text (markers_from 0) (trimmed-markers floor 0) 0 kept.text.items doc.text.items t.text.items,
      on_view floor held.text (property_runs_from 0) (trimmed-runs floor 0) 0 kept.text.items doc.text.items t.text.items,
      intervals,
      cells,
      on_view floor held.rows length (trimmed-length floor) 0 kept.rows.items doc.rows.items t.rows.items,
      on_view floor held.cols length (trimmed-length floor) 0 kept.cols.items doc.cols.items t.cols.items,
    ) refl

-- ---- messages

module _ {floor : ℕ} {held : HeldNames} where
  pub body_effect-trimmed : (s c r : ℕ) (body : Body) (kept doc : Document) → (is_op body ≡ true → floor ≤ r) → Trimmed floor held kept doc
      → Trimmed floor held (body_effect kept s c r body) (body_effect doc s c r body)
  body_effect-trimmed s c r Nothing kept doc h t = t
  body_effect-trimmed s c r (Op op) kept doc h t = effects-trimmed s c r (h refl) kept doc (sub_operations op) t
  body_effect-trimmed s c r (Elsewhere address) kept doc h t = record {
    text = t.text;
    rows = t.rows;
    cols = t.cols;
    text_names = t.text_names;
    row_names = t.row_names;
    col_names = t.col_names;
    ends = t.ends;
    cells = t.cells;
    unwritten = t.unwritten;
    rest = ap (λ (d : Document). record d { other = d.other + 1 }) t.rest;
  }

  pub with_numbers-trimmed : (entry : Entry) (kept doc : Document) → Trimmed floor held kept doc → Trimmed floor held (with_numbers entry kept) (with_numbers entry doc)
  with_numbers-trimmed entry kept doc t = record {
    text = t.text;
    rows = t.rows;
    cols = t.cols;
    text_names = t.text_names;
    row_names = t.row_names;
    col_names = t.col_names;
    ends = t.ends;
    cells = t.cells;
    unwritten = t.unwritten;
    rest = ap (with_numbers entry) t.rest;
  }

  -- messages from a minimum at or above the floor on keep the relation
  pub take_entries-trimmed : (min : ℕ) (entries : List Entry) (kept doc : Document) → floor ≤ min → AreFrom min entries → Trimmed floor held kept doc
      → Trimmed floor held (take_entries kept entries) (take_entries doc entries)
  take_entries-trimmed min [] kept doc l h t = t
  take_entries-trimmed min (entry ∷ entries) kept doc l h t =
      take_entries-trimmed entry.msg.min entries (take_entry kept entry) (take_entry doc entry) (let k : min ≤ entry.msg.min = h.0 in omega arith) h.2
      (with_numbers-trimmed entry _ _
      (body_effect-trimmed entry.msg.seq entry.origin (reference_number entry.msg.ref_seq) entry.msg.body kept doc
      (λ q. let k : min ≤ reference_number entry.msg.ref_seq = h.1 q in omega arith) t))
