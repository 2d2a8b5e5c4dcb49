-- Compaction itself: of a compacted client, of all that may be left out, and by a summary.
use Rattle.std.proofs.Common.{◌≡◌, ℕ, Bool, true, false, cond, not, ◌&&◌, ◌||◌, List, [], ◌∷◌, ◌++◌, Some, None, filter, find, refl, sym, ◌∙◌, ap, subst}
use Rattle.std.specs.Option.{option_map}
use Rattle.std.specs.List.{list_all, list_any}
use Rattle.ft_base.specs.declared.stamps.Stamp.{Stamp}
use Rattle.ft_base.specs.declared.stamps.Stamp.TheVariants.{Acked, Local}
use Rattle.ft_base.specs.Scan.{retain_map}
use Rattle.ft_base.specs.Visibility.{is_acked}
use Rattle.ft_base.proofs.Booleans.{both}
use Rattle.ft_props.specs.Element.{ElementId, ListElement, has_id, has_sequenced_removal, same_id}
use Rattle.ft_props.specs.Compaction.{Keeps, KeepsList, none, same, universal, collected, has_collectable_removal, is_before_pending, is_collectable, is_insertion_at_or_below, trim_element, trim_list, with_universal_insertion}
use Rattle.ft_props.specs.Steps.{Sequence}
use Rattle.ft_props.proofs.CompactedList.{keeps-twice}
use Rattle.ft_op.specs.Cells.{Cell, cell_value, is_cell, is_null}
use Rattle.ft_op.specs.Document.{Document}
use Rattle.ft_msg.specs.Client.{NaiveClient, client_over, floor}
use Rattle.ft_msg.specs.Summary.{trim}
use Rattle.ft_laws_agreement.specs.Starts.{IsSoundRun}
use Rattle.ft_msg.specs.ClientSteps.{ClientStep, Restarts, is_without_edits, taken_entries}
use Rattle.ft_laws_agreement.specs.Trimming.{has_value}
use Rattle.ft_laws_agreement.proofs.CellValues.{none-filtered, value-kept}
use Rattle.ft_laws_agreement.proofs.ClientsAgree.{idle-clients-agree-from}
use Rattle.ft_laws_agreement.proofs.CompactedScans.{id-universal}
use Rattle.ft_laws_agreement.proofs.ConsistentDocument.{take_entries-consistent}
use Rattle.ft_laws_agreement.proofs.SlidEnds.{same_id-eq}
use Rattle.ft_laws_agreement.proofs.TrimmedDocument.{is_removed}
use Rattle.ft_msg.specs.Compacted.{IsCompacted, KeepsDocument}
use Rattle.ft_laws_compaction.specs.Free.{AreFree, HasFreeTombstones}
use Rattle.ft_laws_compaction.specs.Keeping.{compacted, has_no_tombstone}
use Rattle.ft_laws_compaction.proofs.KeptLists.{Leaves, ends, stays, folded, goes, free-keeps}
use Rattle.ft_laws_compaction.proofs.Runs.{facts-from, run-next}

-- ---- what keeps a compacted client

gone-before : (low : ℕ) (e : ListElement) → is_insertion_at_or_below low e.ins ≡ true → is_collectable low (with_universal_insertion e) ≡ true → is_collectable low e ≡ true
gone-before low e f g = step e.ins f
  where
    step : (t : Stamp) → is_insertion_at_or_below low t ≡ true → is_acked t && has_collectable_removal low e.dels ≡ true
    step (Acked s c) f = g
    step (Local k) f = (cc)

module _ {low : ℕ} {held : ElementId → Bool} where
  -- what passes in a compacted list passes in the whole one
  pub none-kept : (test : ListElement → Bool) → ((e : ListElement) → is_insertion_at_or_below low e.ins ≡ true → test (with_universal_insertion e) ≡ test e)
      → {ks xs : List ListElement} → Keeps low held ks xs → list_any test xs ≡ false → list_any test ks ≡ false
  none-kept test alike none h = refl
  none-kept test alike (same {e = e} {ks = ks} {xs = xs} k) h = step (test e) (none-kept test alike k) h
    where
      step : (b : Bool) → (list_any test xs ≡ false → list_any test ks ≡ false) → b || list_any test xs ≡ false → b || list_any test ks ≡ false
      step true ih g = (cc)
      step false ih g = ih g
  none-kept test alike (universal {e = e} {ks = ks} {xs = xs} f k) h = ap (λ b. b || list_any test ks) (alike e f) ∙ step (test e) (none-kept test alike k) h
    where
      step : (b : Bool) → (list_any test xs ≡ false → list_any test ks ≡ false) → b || list_any test xs ≡ false → b || list_any test ks ≡ false
      step true ih g = (cc)
      step false ih g = ih g
  none-kept test alike (collected {e = e} {xs = xs} c u n k) h = none-kept test alike k (behind (test e) h)
    where
      behind : (b : Bool) → b || list_any test xs ≡ false → list_any test xs ≡ false
      behind true g = (cc)
      behind false g = g

  pub unremoved-kept : {ks xs : List ListElement} (a : ElementId) → Keeps low held ks xs → has_sequenced_removal xs a ≡ false → has_sequenced_removal ks a ≡ false
  unremoved-kept a k h = none-kept (λ e. has_id a e && is_removed e) (λ e f. ap (λ i. same_id a i && is_removed e) (id-universal low e f)) k h

  next-kept : {ks xs : List ListElement} → Keeps low held ks xs → is_before_pending xs ≡ false → is_before_pending ks ≡ false
  next-kept none h = refl
  next-kept (same k) h = h
  next-kept (universal f k) h = refl
  next-kept (collected g u n k) h = next-kept k n

  free-kept : {ks xs : List ListElement} → Keeps low held ks xs → AreFree low held xs → AreFree low held ks
  free-kept none h = tt
  free-kept (same k) h = (λ g. (let f = h.0 g in record { removal = f.removal; changes = f.changes; name = f.name; next = next-kept k f.next }), free-kept k h.1)
  free-kept (universal {e = e} o k) h = (
    λ g. (let f = h.0 (gone-before low e o g) in record {
      removal = f.removal;
      changes = f.changes;
      name = ap held (id-universal low e o)
          ∙ f.name;
      next = next-kept k f.next;
    }),
    free-kept k h.1,
  )
  free-kept (collected g u n k) h = free-kept k h.1

-- the document with these lists and cells
abbrev pub with_lists : Document → Sequence → Sequence → Sequence → List Cell → Document
with_lists doc text rows cols cells = record doc { text = text; rows = rows; cols = cols; cells = cells }

further : (x : NaiveClient) (text rows cols : Sequence) (cells : List Cell) (fewer : Document) → KeepsDocument x (with_lists x.doc text rows cols cells)
    → KeepsDocument (record x { doc = with_lists x.doc text rows cols cells }) fewer → KeepsDocument x fewer
further x text rows cols cells fewer k f = record {
  text = record { items = keeps-twice k.text.items f.text.items; made = f.text.made ∙ k.text.made };
  rows = record { items = keeps-twice k.rows.items f.rows.items; made = f.rows.made ∙ k.rows.made };
  cols = record { items = keeps-twice k.cols.items f.cols.items; made = f.cols.made ∙ k.cols.made };
  cells = record {
    values = λ row col a b. f.cells.values row col (unremoved-kept row k.rows.items a) (unremoved-kept col k.cols.items b)
        ∙ k.cells.values row col a b;
    none = λ row col e. f.cells.none row col (k.cells.none row col e);
  };
  rest = f.rest;
}

pub kept-shape : (x kept : NaiveClient) → IsCompacted kept x → kept ≡ record x { doc = with_lists x.doc kept.doc.text kept.doc.rows kept.doc.cols kept.doc.cells }
kept-shape x kept k = k.rest ∙ ap (λ d. record x { doc = d }) k.doc.rest

pub compacts-further : (x kept fewer : NaiveClient) → IsCompacted kept x → IsCompacted fewer kept → IsCompacted fewer x
compacts-further x kept fewer k f = record {
  doc = further x kept.doc.text kept.doc.rows kept.doc.cols kept.doc.cells fewer.doc (subst (λ d. KeepsDocument x d) k.doc.rest k.doc)
      (subst (λ y. KeepsDocument y fewer.doc) (kept-shape x kept k) f.doc);
  rest = f.rest ∙ ap (λ (y : NaiveClient). record y { doc = fewer.doc }) k.rest;
}

-- what may be left out of a client is free in each that keeps it
pub tombstones-kept : (x kept : NaiveClient) → HasFreeTombstones x → IsCompacted kept x → HasFreeTombstones kept
tombstones-kept x kept h k =
    let d : KeepsDocument x (with_lists x.doc kept.doc.text kept.doc.rows kept.doc.cols kept.doc.cells) = subst (λ d. KeepsDocument x d) k.doc.rest k.doc in
    subst HasFreeTombstones (sym (kept-shape x kept k)) (shaped kept.doc.text kept.doc.rows kept.doc.cols kept.doc.cells d)
  where
    shaped : (text rows cols : Sequence) (cells : List Cell) → KeepsDocument x (with_lists x.doc text rows cols cells)
        → HasFreeTombstones (record x { doc = with_lists x.doc text rows cols cells })
    shaped text rows cols cells d = record { text = free-kept d.text.items h.text; rows = free-kept d.rows.items h.rows; cols = free-kept d.cols.items h.cols }

-- ---- all that may be left out

leaves-trimmed : (low : ℕ) (xs : List ListElement) → Leaves low (retain_map (λ e. not (is_collectable low e)) (trim_element low) xs) xs
leaves-trimmed low [] = ends
leaves-trimmed low (e ∷ xs) = step (is_collectable low e) refl (leaves-trimmed low xs)
  where
    stay : (b : Bool) → is_insertion_at_or_below low e.ins ≡ b → Leaves low (retain_map (λ e. not (is_collectable low e)) (trim_element low) xs) xs
        → Leaves low (cond b (with_universal_insertion e) e ∷ retain_map (λ e. not (is_collectable low e)) (trim_element low) xs) (e ∷ xs)
    stay true f l = folded f l
    stay false f l = stays l

    step : (b : Bool) → is_collectable low e ≡ b → Leaves low (retain_map (λ e. not (is_collectable low e)) (trim_element low) xs) xs
        → Leaves low (cond (not b) (trim_element low e ∷ retain_map (λ e. not (is_collectable low e)) (trim_element low) xs)
        (retain_map (λ e. not (is_collectable low e)) (trim_element low) xs)) (e ∷ xs)
    step true f l = goes f l
    step false f l = stay (is_insertion_at_or_below low e.ins) refl l

pub list-trimmed : (low : ℕ) (held : ElementId → Bool) (list : Sequence) → AreFree low held list.items → KeepsList low held (trim_list low list) list
list-trimmed low held list h = record { items = free-keeps h (leaves-trimmed low list.items); made = refl }

trimmed-stays : (low : ℕ) (e : ListElement) → is_collectable low e ≡ false → is_collectable low (trim_element low e) ≡ false
trimmed-stays low e h = step (is_insertion_at_or_below low e.ins) refl
  where
    old : (t : Stamp) → is_insertion_at_or_below low t ≡ true → is_acked t && has_collectable_removal low e.dels ≡ false → has_collectable_removal low e.dels ≡ false
    old (Acked s c) f g = g
    old (Local k) f g = (cc)

    step : (b : Bool) → is_insertion_at_or_below low e.ins ≡ b → is_collectable low (cond b (with_universal_insertion e) e) ≡ false
    step true f = old e.ins f h
    step false f = h

-- no element is left that may be left out
none-left : (low : ℕ) (xs : List ListElement) → list_any (is_collectable low) (retain_map (λ e. not (is_collectable low e)) (trim_element low) xs) ≡ false
none-left low [] = refl
none-left low (e ∷ xs) = step (is_collectable low e) refl (none-left low xs)
  where
    step : (b : Bool) → is_collectable low e ≡ b → list_any (is_collectable low) (retain_map (λ e. not (is_collectable low e)) (trim_element low) xs) ≡ false
        → list_any (is_collectable low) (cond (not b) (trim_element low e ∷ retain_map (λ e. not (is_collectable low e)) (trim_element low) xs)
        (retain_map (λ e. not (is_collectable low e)) (trim_element low) xs)) ≡ false
    step true f ih = ih
    step false f ih = rw (trimmed-stays low e f) ih

-- a cell of which all that it could be are kept has its value
value-filtered : (row col : ElementId) (keep : Cell → Bool) (cells : List Cell) → ((c : Cell) → row ≡ c.row → col ≡ c.col → keep c ≡ true)
    → cell_value row col (filter keep cells) ≡ cell_value row col cells
value-filtered row col keep [] h = refl
value-filtered row col keep (c ∷ cells) h = step (is_cell row col c) (keep c) refl refl (value-filtered row col keep cells h)
  where
    step : (a b : Bool) → is_cell row col c ≡ a → keep c ≡ b → cell_value row col (filter keep cells) ≡ cell_value row col cells
        → cell_value row col (cond b (c ∷ filter keep cells) (filter keep cells)) ≡ option_map (λ (x : Cell). x.value) (cond a (Some c) (find (is_cell row col) cells))
    step true true e k q = ap (λ b. option_map (λ (x : Cell). x.value) (cond b (Some c) (find (is_cell row col) (filter keep cells)))) e
    step false true e k q = ap (λ b. option_map (λ (x : Cell). x.value) (cond b (Some c) (find (is_cell row col) (filter keep cells)))) e ∙ q
    step true false e k q =
        let p = both (same_id row c.row) (same_id col c.col) e in
        cc (h c (same_id-eq row c.row p.0) (same_id-eq col c.col p.1))
    step false false e k q = q

two : (a b : Bool) → a ≡ false → b ≡ false → not a && not b ≡ true
two a b g h = rw (g, h) refl

-- the client with all left out that may be keeps it
pub fully-compacted : (x : NaiveClient) → HasFreeTombstones x → IsCompacted (compacted x) x
fully-compacted x h = record {
  doc = record {
    text = list-trimmed (floor x) _ x.doc.text h.text;
    rows = list-trimmed (floor x) _ x.doc.rows h.rows;
    cols = list-trimmed (floor x) _ x.doc.cols h.cols;
    cells = record {
      values = λ row col a b. value-filtered row col (λ c. not (has_sequenced_removal x.doc.rows.items c.row) && not (has_sequenced_removal x.doc.cols.items c.col)) x.doc.cells
          (λ c p q. two (has_sequenced_removal x.doc.rows.items c.row) (has_sequenced_removal x.doc.cols.items c.col)
          (subst (λ i. has_sequenced_removal x.doc.rows.items i ≡ false) p a) (subst (λ i. has_sequenced_removal x.doc.cols.items i ≡ false) q b));
      none = λ row col e. none-filtered row col (λ c. not (has_sequenced_removal x.doc.rows.items c.row) && not (has_sequenced_removal x.doc.cols.items c.col)) x.doc.cells e;
    };
    rest = refl;
  };
  rest = refl;
}

pub nothing-left : (x : NaiveClient) → has_no_tombstone (floor x) (compacted x).doc ≡ true
nothing-left x = rw (none-left (floor x) x.doc.text.items, none-left (floor x) x.doc.rows.items, none-left (floor x) x.doc.cols.items) refl

pub floor-kept : (x kept : NaiveClient) → IsCompacted kept x → floor kept ≡ floor x
floor-kept x kept k = ap floor (kept-shape x kept k)

-- ---- a summary

three : (a b c : Bool) → a ≡ true → b ≡ false → c ≡ false → a && not b && not c ≡ true
three a b c p q r = rw (p, q, r) refl

pub starts-from-summary : (steps : List ClientStep) (x : NaiveClient) → IsSoundRun steps x → is_without_edits x ≡ true → IsCompacted (client_over (trim x.doc)) (client_over x.doc)
starts-from-summary steps x run h =
    let z = client_over x.doc in
    let next = run-next steps Restarts x z run (ap (λ b. cond b (Some (client_over x.doc)) None) h) refl in
    let free = (facts-from run.start (steps ++ (Restarts ∷ [])) z next).free in
    let values : list_all has_value x.doc.cells ≡ true = subst (λ (d : Document). list_all has_value d.cells ≡ true)
    (sym (idle-clients-agree-from run.start steps x run.run h)) (take_entries-consistent run.start (taken_entries steps) run.run.sound.consistent).cells in
    record {
      doc = record {
        text = list-trimmed x.doc.minimum _ x.doc.text free.text;
        rows = list-trimmed x.doc.minimum _ x.doc.rows free.rows;
        cols = list-trimmed x.doc.minimum _ x.doc.cols free.cols;
        cells = record {
          values = λ row col a b. value-kept row col (λ c. not (is_null c.value) && not (has_sequenced_removal x.doc.rows.items c.row)
              && not (has_sequenced_removal x.doc.cols.items c.col)) x.doc.cells values
              (λ c v p q. three (not (is_null c.value)) (has_sequenced_removal x.doc.rows.items c.row) (has_sequenced_removal x.doc.cols.items c.col) v
              (subst (λ i. has_sequenced_removal x.doc.rows.items i ≡ false) p a) (subst (λ i. has_sequenced_removal x.doc.cols.items i ≡ false) q b));
          none = λ row col e. none-filtered row col (λ c. not (is_null c.value) && not (has_sequenced_removal x.doc.rows.items c.row)
              && not (has_sequenced_removal x.doc.cols.items c.col)) x.doc.cells e;
        };
        rest = refl;
      };
      rest = refl;
    }
