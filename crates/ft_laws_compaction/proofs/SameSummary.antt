-- The trimmed document of a compacted client is that of the whole one, but for cells that nobody sees.
use Rattle.std.proofs.Common.{◌≡◌, ℕ, ◌≤◌, Bool, true, false, cond, not, ◌&&◌, ◌||◌, List, [], ◌∷◌, Option, Some, None, filter, find, refl, sym, ◌∙◌, ap, subst}
use Rattle.std.specs.Option.{option_map}
use Rattle.std.specs.List.{list_all}
use Rattle.ft_base.specs.declared.stamps.Stamp.{Stamp}
use Rattle.ft_base.specs.declared.stamps.Stamp.TheVariants.{Acked, Local}
use Rattle.ft_base.specs.Scan.{retain_map}
use Rattle.ft_base.specs.Visibility.{is_acked}
use Rattle.ft_base.proofs.Booleans.{both}
use Rattle.ft_props.specs.Properties.{ValueBytes}
use Rattle.ft_props.specs.Element.{ElementId, ListElement, has_sequenced_removal, id, same_id}
use Rattle.ft_props.specs.Compaction.{Keeps, KeepsList, none, same, universal, collected, has_collectable_removal, is_collectable, is_insertion_at_or_below, trim_element, trim_list, with_universal_insertion}
use Rattle.ft_props.specs.Steps.{Sequence}
use Rattle.ft_op.specs.Cells.{Cell, cell_value, is_cell, is_null}
use Rattle.ft_op.specs.Document.{Document}
use Rattle.ft_msg.specs.Client.{NaiveClient, floor}
use Rattle.ft_msg.specs.Content.{all_cells}
use Rattle.ft_msg.specs.Indexed.{indexed}
use Rattle.ft_msg.specs.Summary.{trim}
use Rattle.ft_laws_agreement.specs.Trimming.{has_value}
use Rattle.ft_laws_agreement.proofs.CompactedScans.{id-universal, trim-universal}
use Rattle.ft_laws_agreement.proofs.OwnNames.{has_named, other-named, own-named}
use Rattle.ft_laws_agreement.proofs.SlidEnds.{same_id-eq}
use Rattle.ft_laws_agreement.proofs.TrimmedContent.{agreed-rows, on_trimmed}
use Rattle.ft_laws_agreement.proofs.TrimmedDocument.{is_removed}
use Rattle.ft_props.proofs.CompactedList.{keeps-higher}
use Rattle.ft_laws_agreement.specs.Starts.{IsSoundRun}
use Rattle.ft_msg.specs.ClientSteps.{ClientStep, taken_entries}
use Rattle.ft_laws_agreement.proofs.ClientsAgree.{clients-agree-from}
use Rattle.ft_laws_agreement.proofs.ConsistentDocument.{take_entries-consistent}
use Rattle.ft_msg.specs.Compacted.{KeepsDocument}
use Rattle.ft_laws_compaction.proofs.ClientFacts.{ClientFacts}
use Rattle.ft_laws_compaction.proofs.Compacting.{unremoved-kept, with_lists}
use Rattle.ft_laws_compaction.proofs.FreeTombstones.{least-first}

-- ---- lists

-- the elements of a list that a summary has
abbrev pub trimmed_items : ℕ → List ListElement → List ListElement
trimmed_items min xs = retain_map (λ e. not (is_collectable min e)) (trim_element min) xs

gone-old : (min : ℕ) (e : ListElement) → is_insertion_at_or_below min e.ins ≡ true → is_collectable min (with_universal_insertion e) ≡ is_collectable min e
gone-old min e f = step e.ins f
  where
    step : (t : Stamp) → is_insertion_at_or_below min t ≡ true → has_collectable_removal min e.dels ≡ is_acked t && has_collectable_removal min e.dels
    step (Acked s c) g = refl
    step (Local k) g = (cc)

-- a unit that is removed in the whole list is removed in the compacted one, if it is there
abbrev pub is_removed_alike : List ListElement → List ListElement → ElementId → Bool
is_removed_alike ks xs a = not (has_sequenced_removal xs a) || has_sequenced_removal ks a

combined : (min : ℕ) (ks xs us : List ListElement) → list_all (λ e. is_removed e || not (has_named is_removed xs (id e))) us ≡ true
    → list_all (λ e. not (is_removed e) || has_named is_removed ks (id e)) us ≡ true
    → list_all (λ e. is_removed_alike ks xs (id e)) (trimmed_items min us) ≡ true
combined min ks xs [] g h = refl
combined min ks xs (e ∷ us) g h =
    let p = both (is_removed e || not (has_named is_removed xs (id e))) (list_all (λ d. is_removed d || not (has_named is_removed xs (id d))) us) g in
    let q = both (not (is_removed e) || has_named is_removed ks (id e)) (list_all (λ d. not (is_removed d) || has_named is_removed ks (id d)) us) h in
    step (is_collectable min e) (here (is_removed e) (has_named is_removed xs (id e)) (has_named is_removed ks (id e)) p.0 q.0) (combined min ks xs us p.1 q.1)
  where
    here : (a b c : Bool) → a || not b ≡ true → not a || c ≡ true → not b || c ≡ true
    here true true c g h = h
    here true false c g h = refl
    here false true c g h = (cc)
    here false false c g h = refl

    step : (b : Bool) → is_removed_alike ks xs (id e) ≡ true → list_all (λ d. is_removed_alike ks xs (id d)) (trimmed_items min us) ≡ true
        → list_all (λ d. is_removed_alike ks xs (id d)) (cond (not b) (trim_element min e ∷ trimmed_items min us) (trimmed_items min us)) ≡ true
    step true f ih = ih
    step false f ih = rw (on_trimmed min id e (id-universal min e), f, ih) refl

module _ {min : ℕ} {held : ElementId → Bool} where
  items-trimmed : {ks xs : List ListElement} → Keeps min held ks xs → trimmed_items min ks ≡ trimmed_items min xs
  items-trimmed none = refl
  items-trimmed (same {e = e} k) = ap (λ us. cond (not (is_collectable min e)) (trim_element min e ∷ us) us) (items-trimmed k)
  items-trimmed (universal {e = e} {ks = ks} {xs = xs} f k) =
      ap (λ b. cond (not b) (trim_element min (with_universal_insertion e) ∷ trimmed_items min ks) (trimmed_items min ks)) (gone-old min e f)
      ∙ ap (λ d. cond (not (is_collectable min e)) (d ∷ trimmed_items min ks) (trimmed_items min ks)) (trim-universal min e f)
      ∙ ap (λ us. cond (not (is_collectable min e)) (trim_element min e ∷ us) us) (items-trimmed k)
  items-trimmed (collected {e = e} g u n k) = rw g (items-trimmed k)

  pub list-same : (kept list : Sequence) → KeepsList min held kept list → trim_list min kept ≡ trim_list min list
  list-same kept list k = ap (λ us. record kept { items = us }) (items-trimmed k.items) ∙ ap (λ m. record list { items = trimmed_items min list.items; made = m }) k.made

  all-kept : (is : ListElement → Bool) → ((e : ListElement) → is_insertion_at_or_below min e.ins ≡ true → is (with_universal_insertion e) ≡ is e)
      → {ks xs : List ListElement} → Keeps min held ks xs → list_all is xs ≡ true → list_all is ks ≡ true
  all-kept is alike none h = refl
  all-kept is alike (same {e = e} {xs = xs} k) h = let p = both (is e) (list_all is xs) h in rw (p.0, all-kept is alike k p.1) refl
  all-kept is alike (universal {e = e} {xs = xs} f k) h = let p = both (is e) (list_all is xs) h in rw (alike e f, p.0, all-kept is alike k p.1) refl
  all-kept is alike (collected {e = e} {xs = xs} g u n k) h = all-kept is alike k (both (is e) (list_all is xs) h).1

  pub removed-alike : (ks xs : List ListElement) → Keeps min held ks xs → list_all (λ e. is_removed e || not (has_named is_removed xs (id e))) xs ≡ true
      → list_all (λ e. is_removed_alike ks xs (id e)) (trimmed_items min xs) ≡ true
  removed-alike ks xs k h =
      subst (λ us. list_all (λ e. is_removed_alike ks xs (id e)) us ≡ true) (items-trimmed k)
      (combined min ks xs ks (all-kept (λ e. is_removed e || not (has_named is_removed xs (id e)))
      (λ e f. ap (λ i. is_removed e || not (has_named is_removed xs i)) (id-universal min e f)) k h) (own-named is_removed ks))

-- ---- cells

-- whether a value, if there is one, isn't null
abbrev pub is_shown : Option ValueBytes → Bool
is_shown None = true
is_shown (Some v) = not (is_null v)

pub shown-value : (row col : ElementId) (cells : List Cell) → list_all has_value cells ≡ true → is_shown (cell_value row col cells) ≡ true
shown-value row col [] h = refl
shown-value row col (c ∷ cells) h =
    let p = both (has_value c) (list_all has_value cells) h in
    step (is_cell row col c) p.0 (shown-value row col cells p.1)
  where
    step : (b : Bool) → has_value c ≡ true → is_shown (cell_value row col cells) ≡ true
        → is_shown (option_map (λ (x : Cell). x.value) (cond b (Some c) (find (is_cell row col) cells))) ≡ true
    step true v ih = v
    step false v ih = ih

module _ (row col : ElementId) (keep : Cell → Bool) where
  none-kept : (cells : List Cell) → ((c : Cell) → row ≡ c.row → col ≡ c.col → keep c ≡ false) → cell_value row col (filter keep cells) ≡ None
  none-kept [] h = refl
  none-kept (c ∷ cells) h = step (is_cell row col c) (keep c) refl refl (none-kept cells h)
    where
      step : (a b : Bool) → is_cell row col c ≡ a → keep c ≡ b → cell_value row col (filter keep cells) ≡ None
          → cell_value row col (cond b (c ∷ filter keep cells) (filter keep cells)) ≡ None
      step true true e k q =
          let p = both (same_id row c.row) (same_id col c.col) e in
          cc (h c (same_id-eq row c.row p.0) (same_id-eq col c.col p.1))
      step false true e k q = ap (λ b. option_map (λ (x : Cell). x.value) (cond b (Some c) (find (is_cell row col) (filter keep cells)))) e ∙ q
      step a false e k q = q

  value-stays : (cells : List Cell) → is_shown (cell_value row col cells) ≡ true
      → ((c : Cell) → has_value c ≡ true → row ≡ c.row → col ≡ c.col → keep c ≡ true) → cell_value row col (filter keep cells) ≡ cell_value row col cells
  value-stays [] v h = refl
  value-stays (c ∷ cells) v h = step (is_cell row col c) (keep c) refl refl v (λ w. value-stays cells w h)
    where
      step : (a b : Bool) → is_cell row col c ≡ a → keep c ≡ b → is_shown (option_map (λ (x : Cell). x.value) (cond a (Some c) (find (is_cell row col) cells))) ≡ true
          → (is_shown (cell_value row col cells) ≡ true → cell_value row col (filter keep cells) ≡ cell_value row col cells)
          → cell_value row col (cond b (c ∷ filter keep cells) (filter keep cells)) ≡ option_map (λ (x : Cell). x.value) (cond a (Some c) (find (is_cell row col) cells))
      step true true e k w q = ap (λ b. option_map (λ (x : Cell). x.value) (cond b (Some c) (find (is_cell row col) (filter keep cells)))) e
      step false true e k w q = ap (λ b. option_map (λ (x : Cell). x.value) (cond b (Some c) (find (is_cell row col) (filter keep cells)))) e ∙ q w
      step true false e k w q =
          let p = both (same_id row c.row) (same_id col c.col) e in
          cc (h c w (same_id-eq row c.row p.0) (same_id-eq col c.col p.1))
      step false false e k w q = q w

-- whether a summary has the cell of these rows and columns
abbrev pub is_summed : List ListElement → List ListElement → Cell → Bool
is_summed rows cols c = not (is_null c.value) && not (has_sequenced_removal rows c.row) && not (has_sequenced_removal cols c.col)

-- a value that isn't of a removed row or column
abbrev pub unless_removed : Bool → Bool → Option ValueBytes → Option ValueBytes
unless_removed true col v = None
unless_removed false true v = None
unless_removed false false v = v

module _ (rows cols : List ListElement) (row col : ElementId) where
  row-gone : (c : Cell) → has_sequenced_removal rows row ≡ true → row ≡ c.row → is_summed rows cols c ≡ false
  row-gone c r p = rw (subst (λ i. has_sequenced_removal rows i ≡ true) p r) (middle (not (is_null c.value)))
    where
      middle : (d : Bool) → d && false && not (has_sequenced_removal cols c.col) ≡ false
      middle true = refl
      middle false = refl

  col-gone : (c : Cell) → has_sequenced_removal cols col ≡ true → col ≡ c.col → is_summed rows cols c ≡ false
  col-gone c r p = rw (subst (λ i. has_sequenced_removal cols i ≡ true) p r) (last (not (is_null c.value)) (not (has_sequenced_removal rows c.row)))
    where
      last : (d e : Bool) → d && e && false ≡ false
      last true true = refl
      last true false = refl
      last false e = refl

  there : (c : Cell) → has_sequenced_removal rows row ≡ false → has_sequenced_removal cols col ≡ false → has_value c ≡ true → row ≡ c.row → col ≡ c.col
      → is_summed rows cols c ≡ true
  there c r s v p q = rw (v, subst (λ i. has_sequenced_removal rows i ≡ false) p r, subst (λ i. has_sequenced_removal cols i ≡ false) q s) refl

  -- what a summary has of a cell that shows no null
  pub summed-value : (cells : List Cell) → (has_sequenced_removal rows row ≡ false → has_sequenced_removal cols col ≡ false → is_shown (cell_value row col cells) ≡ true)
      → cell_value row col (filter (is_summed rows cols) cells) ≡ unless_removed (has_sequenced_removal rows row) (has_sequenced_removal cols col) (cell_value row col cells)
  summed-value cells shown = step (has_sequenced_removal rows row) (has_sequenced_removal cols col) refl refl
    where
      step : (r s : Bool) → has_sequenced_removal rows row ≡ r → has_sequenced_removal cols col ≡ s → cell_value row col (filter (is_summed rows cols) cells)
          ≡ unless_removed r s (cell_value row col cells)
      step true s f g = none-kept row col (is_summed rows cols) cells (λ c p q. row-gone c f p)
      step false true f g = none-kept row col (is_summed rows cols) cells (λ c p q. col-gone c g q)
      step false false f g = value-stays row col (is_summed rows cols) cells (shown f g) (λ c v p q. there c f g v p q)

unless-same : (r s : Bool) (v w : Option ValueBytes) → (r ≡ false → s ≡ false → v ≡ w) → unless_removed r s v ≡ unless_removed r s w
unless-same true s v w h = refl
unless-same false true v w h = refl
unless-same false false v w h = h refl refl

-- what isn't removed in the compacted list isn't removed in the whole one
pub unremoved-whole : (ks xs : List ListElement) (a : ElementId) → is_removed_alike ks xs a ≡ true → has_sequenced_removal ks a ≡ false → has_sequenced_removal xs a ≡ false
unremoved-whole ks xs a h f = step (has_sequenced_removal xs a) (has_sequenced_removal ks a) h f
  where
    step : (b c : Bool) → not b || c ≡ true → c ≡ false → b ≡ false
    step true c g e = (cc)
    step false c g e = refl

same-removal : {low : ℕ} {held : ElementId → Bool} {ks xs : List ListElement} (a : ElementId) → Keeps low held ks xs → is_removed_alike ks xs a ≡ true
    → has_sequenced_removal ks a ≡ has_sequenced_removal xs a
same-removal {ks = ks} {xs = xs} a k h = step (has_sequenced_removal xs a) refl h
  where
    step : (b : Bool) → has_sequenced_removal xs a ≡ b → not b || has_sequenced_removal ks a ≡ true → has_sequenced_removal ks a ≡ b
    step true e g = g
    step false e g = unremoved-kept a k e

module _ {low : ℕ} {held_row held_col : ElementId → Bool} {krows xrows kcols xcols : List ListElement} (rows : Keeps low held_row krows xrows)
    (cols : Keeps low held_col kcols xcols) (ks cs : List Cell)
    (agree : (row col : ElementId) → has_sequenced_removal xrows row ≡ false → has_sequenced_removal xcols col ≡ false → cell_value row col ks
    ≡ cell_value row col cs) (values : list_all has_value cs ≡ true) where
  value-same : (row col : ElementId) → is_removed_alike krows xrows row ≡ true → is_removed_alike kcols xcols col ≡ true
      → cell_value row col (filter (is_summed krows kcols) ks) ≡ cell_value row col (filter (is_summed xrows xcols) cs)
  value-same row col a b =
      let shown = shown-value row col cs values in
      let unremoved = unremoved-whole krows xrows row a in
      let other = unremoved-whole kcols xcols col b in
      summed-value krows kcols row col ks (λ f g. ap is_shown (agree row col (unremoved f) (other g)) ∙ shown)
      ∙ ap (λ r. unless_removed r (has_sequenced_removal kcols col) (cell_value row col ks)) (same-removal row rows a)
      ∙ ap (λ c. unless_removed (has_sequenced_removal xrows row) c (cell_value row col ks)) (same-removal col cols b)
      ∙ unless-same (has_sequenced_removal xrows row) (has_sequenced_removal xcols col) (cell_value row col ks) (cell_value row col cs) (λ f g. agree row col f g)
      ∙ sym (summed-value xrows xcols row col cs (λ f g. shown))

-- ---- the document

pub summary-same : (x : NaiveClient) (kept : Document) → ClientFacts x → list_all has_value x.doc.cells ≡ true → KeepsDocument x kept → indexed (trim kept) ≡ indexed (trim x.doc)
summary-same x kept f values k = ap (λ d. indexed (trim d)) k.rest ∙ shaped kept.text kept.rows kept.cols kept.cells (subst (λ d. KeepsDocument x d) k.rest k)
  where
    shaped : (text rows cols : Sequence) (cells : List Cell) → KeepsDocument x (with_lists x.doc text rows cols cells)
        → indexed (trim (with_lists x.doc text rows cols cells)) ≡ indexed (trim x.doc)
    shaped text rows cols cells d =
        let min = x.doc.minimum in
        let l : floor x ≤ x.doc.minimum = least-first x.pending x.doc.minimum in
        let texts = keeps-higher l d.text.items in
        let lines = keeps-higher l d.rows.items in
        let columns = keeps-higher l d.cols.items in
        let same : all_cells (filter (is_summed rows.items cols.items) cells) [] (trimmed_items x.doc.minimum cols.items) 0 (trimmed_items x.doc.minimum rows.items)
        ≡ all_cells (filter (is_summed x.doc.rows.items x.doc.cols.items) x.doc.cells) [] (trimmed_items x.doc.minimum x.doc.cols.items) 0
        (trimmed_items x.doc.minimum x.doc.rows.items) =
        ap (λ us. all_cells (filter (is_summed rows.items cols.items) cells) [] us 0 (trimmed_items min rows.items)) (items-trimmed columns)
        ∙ ap (all_cells (filter (is_summed rows.items cols.items) cells) [] (trimmed_items min x.doc.cols.items) 0) (items-trimmed lines)
        ∙ agreed-rows (filter (is_summed rows.items cols.items) cells) (filter (is_summed x.doc.rows.items x.doc.cols.items) x.doc.cells) [] []
        (is_removed_alike cols.items x.doc.cols.items) (is_removed_alike rows.items x.doc.rows.items) (value-same lines columns cells x.doc.cells d.cells.values values)
        (trimmed_items min x.doc.cols.items) (removed-alike cols.items x.doc.cols.items columns (other-named is_removed x.doc.cols.items f.ready.cols.place.distinct))
        0 (trimmed_items min x.doc.rows.items) (removed-alike rows.items x.doc.rows.items lines (other-named is_removed x.doc.rows.items f.ready.rows.place.distinct)) in
        rw (same, items-trimmed texts, items-trimmed lines, items-trimmed columns) refl

-- the cells of every client have values
pub run-values : (steps : List ClientStep) (x : NaiveClient) → IsSoundRun steps x → list_all has_value x.doc.cells ≡ true
run-values steps x run = subst (λ (d : Document). list_all has_value d.cells ≡ true) (sym (clients-agree-from run.start steps x run.run))
    (take_entries-consistent run.start (taken_entries steps) run.run.sound.consistent).cells
