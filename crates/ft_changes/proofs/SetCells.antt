-- Of cells those alone are told that a message sets.
use Rattle.std.proofs.Common.{◌≡◌, ℕ, suc, ◌+◌, inl, inr, Bool, true, false, cond, not, ◌&&◌, ◌||◌, nat_eq, List, [], ◌∷◌, ◌++◌, Option, Some, None, Ok, refl, sym, ◌∙◌, ap, subst, arith, filter, length}
use Rattle.std.specs.List.{list_any}
use Rattle.std.proofs.lemmas.Bool.Decides.{nat_tests}
use Rattle.std.specs.declared.cmp.Ordering.{Ordering}
use Rattle.std.specs.declared.cmp.Ordering.TheVariants.{Equal, Greater, Less}
use Rattle.ft_base.specs.Scan.{at, one_more_if, rank}
use Rattle.ft_base.proofs.Booleans.{both}
use Rattle.ft_props.specs.Element.{ElementId, ListElement, has_id, id, same_id, seen, seen_by}
use Rattle.ft_props.specs.Properties.{ValueBytes}
use Rattle.ft_op.specs.declared.operations.CellOp.TheVariants.{Set, SpliceIn, SpliceOut}
use Rattle.ft_op.specs.Cells.{cell_value}
use Rattle.ft_op.specs.Document.{Document, cell_effect, effect, effects}
use Rattle.ft_op.specs.Operation.{OnGrid, OnIntervals, OnText, SubOperation, sub_operations}
use Rattle.ft_sumdoc.specs.declared.summary.CellRec.{CellRec}
use Rattle.ft_msg.specs.declared.messages.Body.{Body}
use Rattle.ft_msg.specs.declared.messages.Body.TheVariants.{Elsewhere, Nothing, Op}
use Rattle.ft_msg.specs.declared.messages.Entry.{Entry}
use Rattle.ft_msg.specs.Agreed.{body_effect, reference_number, take_entry}
use Rattle.ft_msg.specs.Client.{NaiveClient, stages_of}
use Rattle.ft_msg.specs.ClientSteps.{Takes, has_fitting_body, unless_refused}
use Rattle.ft_msg.specs.Content.{cell_record, shown_cell_value, stage_view, value_unless_null}
use Rattle.ft_msg.specs.Process.{after_foreign_message, process}
use Rattle.ft_msg.specs.Reached.{IsReached}
use Rattle.ft_msg.proofs.ReachedSteps.{reached-after}
use Rattle.ft_laws_agreement.specs.Trimming.{are_distinct_elements}
use Rattle.ft_laws_agreement.proofs.CellValues.{value-write}
use Rattle.ft_laws_agreement.proofs.EveryClientReady.{client-ready-from}
use Rattle.ft_laws_agreement.proofs.SlidEnds.{same_id-eq}
use Rattle.ft_laws_agreement.proofs.SummaryStarts.{reached-run}
use Rattle.ft_laws_names.proofs.NamedSteps.{reached-named}
use Rattle.ft_changes.specs.declared.changes.ViewChange.TheVariants.{ClearCell, SetCell}
use Rattle.ft_changes.specs.Laws.{after_lists, is_at_units, is_set_by, set_units, set_units_of, units_at, units_set_by}
use Rattle.ft_changes.specs.Shown.{after_changes, cell_order, shown_content}
use Rattle.ft_changes.specs.Told.{same_cell_value, told_cells}
use Rattle.ft_changes.proofs.AckedLists.{neither}
use Rattle.ft_changes.proofs.CellsTold.{body-table, effect-kept, start-table}
use Rattle.ft_changes.proofs.FilteredItems.{told-filtered}
use Rattle.ft_changes.proofs.MovedCells.{as-table, cell_of, line, numbered, shown_names, value_over}
use Rattle.ft_changes.proofs.NothingTold.{cells-same-none, foreign, own-cell, own-or-foreign}
use Rattle.ft_changes.proofs.OrderedIntervals.{content-rises, reached-rise}
use Rattle.ft_changes.proofs.Orders.{behind-cell, cell_order-is, same-cell_keys}
use Rattle.ft_changes.proofs.Rising.{cells-rise, changes-rise}
use Rattle.ft_changes.proofs.SlidNumbers.{ArePlaced, all-placed}

-- ---- the order of cells from both sides

forth : (a b : CellRec) → cell_order b a ≡ Greater → cell_order a b ≡ Less
forth a b h = by (cell_order a b) refl
  where
    by : (o : Ordering) → cell_order a b ≡ o → o ≡ Less
    by Less e = refl
    by Equal e = let k = same-cell_keys a b e in let r = k.0 in let c = k.1 in elim (behind-cell a b h) [
      | inl l ↦ absurd (omega arith)
      | inr l ↦ (let d = l.1 in absurd (omega arith))
    ]
    by Greater e = let g = cell_order-is.trans a b a e h in let s = cell_order-is.same a in absurd (cc)

-- ---- the values of cells that aren't set

-- whether these are the units of one of them
abbrev pub are_among : ElementId → ElementId → List (ElementId × ElementId) → Bool
are_among a b units = list_any (λ u. same_id a u.0 && same_id b u.1) units

any-append : (test : ElementId × ElementId → Bool) (xs ys : List (ElementId × ElementId)) → list_any test (xs ++ ys) ≡ false
    → (list_any test xs ≡ false) × (list_any test ys ≡ false)
any-append test [] ys h = (refl, h)
any-append test (x ∷ xs) ys h =
    let p = neither (test x) (list_any test (xs ++ ys)) h in
    let q = any-append test xs ys p.1 in
    (ap (λ b. b || list_any test xs) p.0 ∙ q.0, q.1)

module _ (s c r : ℕ) (a b : ElementId) where
  cell-unset : (doc : Document) (row col : Option ListElement) (value : ValueBytes) → are_among a b (units_at row col) ≡ false
      → cell_value a b (cell_effect doc row col value).cells ≡ cell_value a b doc.cells
  cell-unset doc (Some row) (Some col) value h =
      let p = neither (same_id a (id row) && same_id b (id col)) false h in
      value-write a b (record { row = id row; col = id col; value = value }) doc.cells ∙ ap (λ d. cond d (value_unless_null value) (cell_value a b
      doc.cells)) p.0
  cell-unset doc (Some row) None value h = refl
  cell-unset doc None col value h = refl

  effect-unset : (doc : Document) (o : SubOperation) → are_among a b (set_units_of doc c r o) ≡ false → cell_value a b (effect doc s c r o).cells
      ≡ cell_value a b doc.cells
  effect-unset doc (OnText op) h = ap (cell_value a b) (effect-kept s c r doc (OnText op) refl)
  effect-unset doc (OnIntervals op) h = ap (cell_value a b) (effect-kept s c r doc (OnIntervals op) refl)
  effect-unset doc (OnGrid (SpliceIn target p count)) h = ap (cell_value a b) (effect-kept s c r doc (OnGrid (SpliceIn target p count)) refl)
  effect-unset doc (OnGrid (SpliceOut target p q)) h = ap (cell_value a b) (effect-kept s c r doc (OnGrid (SpliceOut target p q)) refl)
  effect-unset doc (OnGrid (Set i j value)) h = cell-unset doc (at (seen_by r c) i doc.rows.items) (at (seen_by r c) j doc.cols.items) value h

  effects-unset : (os : List SubOperation) (doc : Document) → are_among a b (set_units doc s c r os) ≡ false
      → cell_value a b (effects doc s c r os).cells ≡ cell_value a b doc.cells
  effects-unset [] doc h = refl
  effects-unset (o ∷ os) doc h =
      let p = any-append (λ u. same_id a u.0 && same_id b u.1) (set_units_of doc c r o) (set_units (effect doc s c r o) s c r os) h in
      effects-unset os (effect doc s c r o) p.1 ∙ effect-unset doc o p.0

-- ---- the cells elsewhere

filter-append : (keep : CellRec → Bool) (xs ys : List CellRec) → filter keep (xs ++ ys) ≡ filter keep xs ++ filter keep ys
filter-append keep [] ys = refl
filter-append keep (x ∷ xs) ys = by (keep x) (filter-append keep xs ys)
  where
    by : (b : Bool) → filter keep (xs ++ ys) ≡ filter keep xs ++ filter keep ys
        → cond b (x ∷ filter keep (xs ++ ys)) (filter keep (xs ++ ys)) ≡ cond b (x ∷ filter keep xs) (filter keep xs) ++ filter keep ys
    by true e = ap (λ zs. x ∷ zs) e
    by false e = e

module _ (k : ℕ) (doc : Document) (units : List (ElementId × ElementId)) (value other : ElementId → ElementId → Option ValueBytes)
    (unset : (a b : ElementId) → are_among a b units ≡ false → value a b ≡ other a b) where
  abbrev elsewhere : CellRec → Bool
  elsewhere cell = not (is_at_units k doc units cell)

  same-number : (n m : ℕ) → n ≡ m → nat_eq m n ≡ true
  same-number n m e = grind (arith, nat_tests)

  here : (us : List (ElementId × ElementId)) (a b : ElementId) (i j : ℕ) (v : ValueBytes) → rank (has_id a) (seen k) doc.rows.items ≡ i
      → rank (has_id b) (seen k) doc.cols.items ≡ j
      → are_among a b us ≡ true → is_at_units k doc us (record { row = i; col = j; value = v }) ≡ true
  here [] a b i j v e d h = absurd (cc)
  here (u ∷ us) a b i j v e d h = by (same_id a u.0 && same_id b u.1) refl h (here us a b i j v e d)
    where
      Rest : Bool
      Rest = is_at_units k doc us (record { row = i; col = j; value = v })

      by : (t : Bool) → same_id a u.0 && same_id b u.1 ≡ t → t || are_among a b us ≡ true → (are_among a b us ≡ true → Rest ≡ true)
          → (nat_eq i (rank (has_id u.0) (seen k) doc.rows.items) && nat_eq j (rank (has_id u.1) (seen k) doc.cols.items)) || Rest ≡ true
      by true f g ih =
          let p = both (same_id a u.0) (same_id b u.1) f in
          let row = ap (λ x. rank (has_id x) (seen k) doc.rows.items) (sym (same_id-eq a u.0 p.0)) ∙ e in
          let col = ap (λ x. rank (has_id x) (seen k) doc.cols.items) (sym (same_id-eq b u.1 p.1)) ∙ d in
          rw (same-number _ _ row, same-number _ _ col) refl
      by false f g ih = later (nat_eq i (rank (has_id u.0) (seen k) doc.rows.items) && nat_eq j (rank (has_id u.1) (seen k) doc.cols.items)) (ih g)
        where
          later : (t : Bool) → Rest ≡ true → t || Rest ≡ true
          later true z = refl
          later false z = z

  one-elsewhere : (a b : ElementId) (i j : ℕ) → rank (has_id a) (seen k) doc.rows.items ≡ i → rank (has_id b) (seen k) doc.cols.items ≡ j
      → filter elsewhere (cell_record i j (value a b)) ≡ filter elsewhere (cell_record i j (other a b))
  one-elsewhere a b i j e d = by (are_among a b units) refl
    where
      none : (v : Option ValueBytes) → are_among a b units ≡ true → filter elsewhere (cell_record i j v) ≡ []
      none None f = refl
      none (Some w) f = ap (λ t. cond (not t) (record { row = i; col = j; value = w } ∷ []) []) (here units a b i j w e d f)

      by : (t : Bool) → are_among a b units ≡ t → filter elsewhere (cell_record i j (value a b)) ≡ filter elsewhere (cell_record i j (other a b))
      by true f = none (value a b) f ∙ sym (none (other a b) f)
      by false f = ap (λ v. filter elsewhere (cell_record i j v)) (unset a b f)

  line-elsewhere : (a : ElementId) (i : ℕ) → rank (has_id a) (seen k) doc.rows.items ≡ i → (j : ℕ) (cols : List ListElement)
      → ArePlaced k doc.cols.items j cols
      → filter elsewhere (numbered (cell_of value i a) j (shown_names k cols)) ≡ filter elsewhere (numbered (cell_of other i a) j (shown_names k
      cols))
  line-elsewhere a i e j [] p = refl
  line-elsewhere a i e j (d ∷ cols) p = by (seen k d) (λ m q. line-elsewhere a i e m cols q) p.1
    where
      by : (b : Bool)
          → ((m : ℕ) → ArePlaced k doc.cols.items m cols → filter elsewhere (numbered (cell_of value i a) m (shown_names k cols))
          ≡ filter elsewhere (numbered (cell_of other i a) m (shown_names k cols)))
          → ArePlaced k doc.cols.items (one_more_if b j) cols
          → filter elsewhere (numbered (cell_of value i a) j (cond b (id d ∷ shown_names k cols) (shown_names k cols)))
          ≡ filter elsewhere (numbered (cell_of other i a) j (cond b (id d ∷ shown_names k cols) (shown_names k cols)))
      by true ih q =
          let next : suc j ≡ j + 1 = omega arith in
          filter-append elsewhere (cell_of value i a j (id d)) (numbered (cell_of value i a) (j + 1) (shown_names k cols))
          ∙ ap (λ cs. cs ++ filter elsewhere (numbered (cell_of value i a) (j + 1) (shown_names k cols))) (one-elsewhere a (id d) i j e p.0)
          ∙ ap (λ cs. filter elsewhere (cell_of other i a j (id d)) ++ cs) (ih (j + 1) (subst (λ m. ArePlaced k doc.cols.items m cols) next q))
          ∙ sym (filter-append elsewhere (cell_of other i a j (id d)) (numbered (cell_of other i a) (j + 1) (shown_names k cols)))
      by false ih q = ih j q

  pub table-elsewhere : (cols : List ListElement) → ArePlaced k doc.cols.items 0 cols → (i : ℕ) (rows : List ListElement)
      → ArePlaced k doc.rows.items i rows
      → filter elsewhere (numbered (line value (shown_names k cols)) i (shown_names k rows))
      ≡ filter elsewhere (numbered (line other (shown_names k cols)) i (shown_names k rows))
  table-elsewhere cols g i [] p = refl
  table-elsewhere cols g i (x ∷ rows) p = by (seen k x) (λ m q. table-elsewhere cols g m rows q) p.1
    where
      by : (b : Bool)
          → ((m : ℕ) → ArePlaced k doc.rows.items m rows
          → filter elsewhere (numbered (line value (shown_names k cols)) m (shown_names k rows))
          ≡ filter elsewhere (numbered (line other (shown_names k cols)) m (shown_names k rows)))
          → ArePlaced k doc.rows.items (one_more_if b i) rows
          → filter elsewhere (numbered (line value (shown_names k cols)) i (cond b (id x ∷ shown_names k rows) (shown_names k rows)))
          ≡ filter elsewhere (numbered (line other (shown_names k cols)) i (cond b (id x ∷ shown_names k rows) (shown_names k rows)))
      by true ih q =
          let next : suc i ≡ i + 1 = omega arith in
          filter-append elsewhere (line value (shown_names k cols) i (id x)) (numbered (line value (shown_names k cols)) (i + 1) (shown_names k rows))
          ∙ ap (λ cs. cs ++ filter elsewhere (numbered (line value (shown_names k cols)) (i + 1) (shown_names k rows))) (line-elsewhere (id x) i p.0
          0 cols g)
          ∙ ap (λ cs. filter elsewhere (line other (shown_names k cols) i (id x)) ++ cs) (ih (i + 1) (subst (λ m. ArePlaced k doc.rows.items m rows)
          next q))
          ∙ sym (filter-append elsewhere (line other (shown_names k cols) i (id x)) (numbered (line other (shown_names k cols)) (i + 1) (shown_names
          k rows)))
      by false ih q = ih i q

-- ---- an entry

body-unset : (s c r : ℕ) (a b : ElementId) (doc : Document) (body : Body) → are_among a b (units_set_by doc s c r body) ≡ false
    → cell_value a b (body_effect doc s c r body).cells ≡ cell_value a b doc.cells
body-unset s c r a b doc Nothing h = refl
body-unset s c r a b doc (Op op) h = effects-unset s c r a b (sub_operations op) doc h
body-unset s c r a b doc (Elsewhere address) h = refl

-- the test looks at places alone
same-places : (k : ℕ) (doc : Document) (units : List (ElementId × ElementId)) (a b : CellRec) → cell_order a b ≡ Equal → is_at_units k doc units a
    ≡ is_at_units k doc units b
same-places k doc units a b e =
    let p = same-cell_keys a b e in
    ap (λ i. is_at_units k doc units (record { row = i; col = a.col; value = a.value })) p.0
    ∙ ap (λ j. is_at_units k doc units (record { row = b.row; col = j; value = a.value })) p.1

pub told-cells-set : (x y : NaiveClient) (entry : Entry) → IsReached x → has_fitting_body entry ≡ true → process x entry ≡ Ok y
    → told_cells (after_lists x entry).cells (shown_content y).cells ≡ told_cells (filter (is_set_by x entry) (after_lists x entry).cells) (filter
    (is_set_by x entry) (shown_content y).cells)
told-cells-set x y entry reached fits e =
    let k = x.last_stage in
    let s = entry.msg.seq in
    let c = entry.origin in
    let r = reference_number entry.msg.ref_seq in
    let doc = take_entry x.doc entry in
    let stages = stages_of x in
    let test = is_set_by x entry in
    let units = units_set_by x.doc s c r entry.msg.body in
    let before = (after_changes (shown_content x) (foreign x entry)).cells in
    let after = (shown_content (after_foreign_message x entry)).cells in
    let moved = body-table s c r k (value_over x.doc.cells stages) (shown_content x) x.doc entry.msg.body (start-table s c r x (reached-named x
    reached)) in
    let rise_before = (changes-rise (shown_content x) (foreign x entry) (content-rises x (reached-rise x reached))).cells in
    let rise_after = cells-rise doc.cells stages 0 (stage_view k doc.cols.items) (stage_view k doc.rows.items) in
    let next : IsReached y = reached-after x y (Takes entry) reached (ap unless_refused e) (rw fits refl) in
    let ready = client-ready-from next.start next.steps y (reached-run y next) in
    own-or-foreign x y entry reached fits e (λ t u. told_cells t.cells u.cells ≡ told_cells (filter test t.cells) (filter test u.cells))
    (λ t. cells-same-none t.cells ∙ sym (cells-same-none (filter test t.cells)))
    (λ is.
    told-filtered cell_order same_cell_value (λ d. SetCell d.row d.col d.value) (λ d. ClearCell d.row d.col) cell_order-is forth own-cell test
    (same-places k doc units)
    (length before + length after) before after (omega arith) rise_before rise_after
    (ap (filter (λ d. not (test d))) moved.cells
    ∙ table-elsewhere k doc units (value_over x.doc.cells stages) (value_over doc.cells stages)
    (λ a b h. ap (λ v. shown_cell_value a b v stages) (sym (body-unset s c r a b x.doc entry.msg.body h)))
    doc.cols.items (all-placed k doc.cols.items (subst (λ (z : NaiveClient). are_distinct_elements z.doc.cols.items
    ≡ true) is ready.cols.place.distinct)) 0
    doc.rows.items (all-placed k doc.rows.items (subst (λ (z : NaiveClient). are_distinct_elements z.doc.rows.items
    ≡ true) is ready.rows.place.distinct))
    ∙ ap (filter (λ d. not (test d))) (sym (as-table k doc.cells stages doc.cols.items 0 doc.rows.items))))
