-- A replica that starts from a summary keeps what the summary keeps of its document, and nothing else: nothing is left that it could
-- take away.
use Rattle.std.proofs.Common.{◌≡◌, ◌≤◌, ◌<◌, ℕ, zero, suc, ◌+◌, Bool, true, false, cond, not, ◌&&◌, ◌||◌, List, [], ◌∷◌, ◌++◌, length, map, nat_eq, nat_le, Option, Some, None, option_map, find, refl, sym, ◌∙◌, ap, subst, arith}
use Rattle.std.proofs.Math.Bool.{and-false}
use Rattle.std.proofs.lemmas.Bool.Decides.{nat_tests}
use Rattle.std.specs.List.{list_all, list_any}
use Rattle.std.specs.Prelude.{replicate}
use Rattle.ft_base.proofs.Booleans.{both}
use Rattle.ft_base.proofs.Options.{some-same}
use Rattle.ft_base.specs.declared.stamps.Stamp.{Stamp}
use Rattle.ft_base.specs.declared.stamps.Stamp.TheVariants.{Acked, Local}
use Rattle.ft_base.specs.Scan.{at, len, one_more_if, retain_map}
use Rattle.ft_base.specs.Visibility.{is_acked}
use Rattle.ft_props.specs.Element.{ElementContent, ElementId, GridUnit, ListElement, NamelessElement, SequencedId, has_sequenced_removal, id, is_pending, is_unremoved, nameless, new_elements, removal_stamp, same_id}
use Rattle.ft_props.specs.Compaction.{Keeps, KeepsList, none, same, universal, collected, has_collectable_removal, is_collectable, is_insertion_at_or_below, trim_element, with_universal_insertion}
use Rattle.ft_props.specs.Properties.{PropertyList}
use Rattle.ft_props.specs.Steps.{Sequence}
use Rattle.ft_sumdoc.specs.declared.summary.CellRec.{CellRec}
use Rattle.ft_sumdoc.specs.declared.summary.RunRec.{RunRec}
use Rattle.ft_sumdoc.specs.declared.summary.SegRec.{SegRec}
use Rattle.ft_sumdoc.specs.declared.summary.SumDoc.{SumDoc}
use Rattle.ft_op.specs.Cells.{Cell, cell_value, is_cell}
use Rattle.ft_op.specs.Document.{Document}
use Rattle.ft_msg.specs.Answers.{HeldCounts, ReplicaState, StartsOver, held_in}
use Rattle.ft_msg.specs.Client.{client_over}
use Rattle.ft_msg.specs.Compacted.{KeepsCells, KeepsDocument}
use Rattle.ft_msg.specs.Content.{all_cells, cell_record, row_cells}
use Rattle.ft_msg.specs.Indexed.{IndexedClient, IndexedDocument, indexed}
use Rattle.ft_marks.specs.Marks.{stamp_of}
use Rattle.ft_msg.specs.Summary.{GivesDocument, cell_at, cells_of, doc_of, run_items, segment_bodies, segment_items, trim}
use Rattle.ft_laws_agreement.proofs.SlidEnds.{same_id-eq}
use Rattle.ft_laws_summaries.proofs.SummaryIntervals.{AreNumbered, runs-numbered}
use Rattle.ft_session.specs.Effects.{KeepsTrimmed, elements_in}

-- ---- lists of elements

abbrev is_universal : Stamp → Bool
is_universal (Acked s c) = nat_eq s 0 && nat_eq c 0
is_universal (Local k) = false

-- whether nothing of the element is left that could be taken away: it can't be collected, and its insertion isn't one that could be
-- written as the universal one and isn't
abbrev is_trimmed : ℕ → NamelessElement → Bool
is_trimmed floor n = cond (is_insertion_at_or_below floor n.stamps.ins) (is_universal n.stamps.ins) true && not (is_acked n.stamps.ins && has_collectable_removal floor n.stamps.dels)

removals-alike : (floor : ℕ) (dels : List Stamp) (mark : Option ℕ) → has_collectable_removal floor (dels ++ removal_stamp mark) ≡ has_collectable_removal floor dels
removals-alike floor [] None = refl
removals-alike floor [] (Some k) = refl
removals-alike floor (Acked s c ∷ dels) mark = refl
removals-alike floor (Local k ∷ dels) mark = refl

always : (b : Bool) → cond b true true ≡ true
always true = refl
always false = refl

old-stays : (floor : ℕ) (t : Stamp) (b : Bool) → is_insertion_at_or_below floor t ≡ true → is_acked t && b ≡ false → b ≡ false
old-stays floor (Acked s c) b f h = h
old-stays floor (Local k) b f h = (cc)

trimmed-element : (floor : ℕ) (e : ListElement) → is_collectable floor e ≡ false → is_trimmed floor (nameless (trim_element floor e)) ≡ true
trimmed-element floor e h = by (is_insertion_at_or_below floor e.ins) refl
  where
    by : (b : Bool) → is_insertion_at_or_below floor e.ins ≡ b → is_trimmed floor (nameless (cond b (with_universal_insertion e) e)) ≡ true
    by true f = rw (removals-alike floor e.dels e.removal_stage, old-stays floor e.ins (has_collectable_removal floor e.dels) f h, always (nat_le 0 floor)) refl
    by false f = rw (f, removals-alike floor e.dels e.removal_stage, h) refl

trimmed-list : (floor : ℕ) (xs : List ListElement) → list_all (is_trimmed floor) (map nameless (retain_map (λ e. not (is_collectable floor e)) (trim_element floor) xs)) ≡ true
trimmed-list floor [] = refl
trimmed-list floor (e ∷ xs) = step (is_collectable floor e) refl (trimmed-list floor xs)
  where
    step : (b : Bool) → is_collectable floor e ≡ b → list_all (is_trimmed floor) (map nameless (retain_map (λ e. not (is_collectable floor e)) (trim_element floor) xs)) ≡ true
        → list_all (is_trimmed floor) (map nameless (cond (not b) (trim_element floor e ∷ retain_map (λ e. not (is_collectable floor e)) (trim_element floor) xs)
        (retain_map (λ e. not (is_collectable floor e)) (trim_element floor) xs))) ≡ true
    step true f ih = ih
    step false f ih = rw (trimmed-element floor e f) ih

universal-is : (t : Stamp) → is_universal t ≡ true → Acked 0 0 ≡ t
universal-is (Acked s c) h =
    let p = both (nat_eq s 0) (nat_eq c 0) h in
    let q : 0 ≡ s = grind (arith, nat_tests, p.0) in
    let r : 0 ≡ c = grind (arith, nat_tests, p.1) in
    ap (λ n. Acked n 0) q ∙ ap (Acked s) r
universal-is (Local k) h = (cc)

folded-test : (a b c : Bool) → cond a b true && c ≡ true → a ≡ true → b ≡ true
folded-test true true c h f = refl
folded-test true false c h f = (cc)
folded-test false b c h f = (cc)

stays-test : (a b c : Bool) → a && not (b && c) ≡ true → b && c ≡ true → ⊥
stays-test true true true h g = (cc)
stays-test true true false h g = (cc)
stays-test true false c h g = (cc)
stays-test false b c h g = (cc)

-- of a trimmed list all is kept
kept-whole : {floor : ℕ} {held : ElementId → Bool} {ks xs : List ListElement} → Keeps floor held ks xs → list_all (is_trimmed floor) (map nameless xs) ≡ true → ks ≡ xs
kept-whole none h = refl
kept-whole {floor} (same {e = e} {xs = xs} k) h = ap (λ l. e ∷ l) (kept-whole k (both (is_trimmed floor (nameless e)) (list_all (is_trimmed floor) (map nameless xs)) h).1)
kept-whole {floor} (universal {e = e} {ks = ks} {xs = xs} f k) h =
    let p = both (is_trimmed floor (nameless e)) (list_all (is_trimmed floor) (map nameless xs)) h in
    let t = folded-test (is_insertion_at_or_below floor e.ins) (is_universal e.ins) (not (is_acked e.ins && has_collectable_removal floor (e.dels ++ removal_stamp e.removal_stage))) p.0 f in
    ap (λ i. record e { ins = i } ∷ ks) (universal-is e.ins t) ∙ ap (λ l. e ∷ l) (kept-whole k p.1)
kept-whole {floor} (collected {e = e} {xs = xs} g u n k) h =
    let p = both (is_trimmed floor (nameless e)) (list_all (is_trimmed floor) (map nameless xs)) h in
    absurd (stays-test (cond (is_insertion_at_or_below floor e.ins) (is_universal e.ins) true) (is_acked e.ins) (has_collectable_removal floor (e.dels ++ removal_stamp e.removal_stage)) p.0
    (ap (λ b. is_acked e.ins && b) (removals-alike floor e.dels e.removal_stage) ∙ g))

list-whole : {floor : ℕ} {held : ElementId → Bool} (kept list : Sequence) → KeepsList floor held kept list → list_all (is_trimmed floor) (map nameless list.items) ≡ true → kept ≡ list
list-whole kept list k h =
    ap (λ xs. let s : Sequence = record { items = xs; made = kept.made } in s) (kept-whole k.items h) ∙ ap (λ n. let s : Sequence = record { items = list.items; made = n } in s) k.made

-- ---- rows and columns of cells

-- no later element of a numbered list has an earlier number
none-before : (m n : ℕ) (xs : List ListElement) → m < n → AreNumbered n xs → has_sequenced_removal xs (SequencedId m) ≡ false
none-before m n [] low h = refl
none-before m n (x ∷ xs) low h =
    let t : nat_eq m n ≡ false = grind (arith, nat_tests) in
    rw (h.0, t, none-before m (n + 1) xs (omega arith) h.1) refl

-- a numbered list has an unremoved element under its own number
record IsAlive (n : ℕ) (xs : List ListElement) (e : ListElement) : Type 0 where
  number : ℕ
  later : n ≤ number
  named : id e ≡ SequencedId number
  alive : has_sequenced_removal xs (SequencedId number) ≡ false

unremoved-parts : (a b : Bool) → a && not b ≡ true → b ≡ false
unremoved-parts true true h = (cc)
unremoved-parts true false h = refl
unremoved-parts false b h = (cc)

none-in-front : (ts us : List Stamp) → list_any is_acked (ts ++ us) ≡ false → list_any is_acked ts ≡ false
none-in-front [] us g = refl
none-in-front (t ∷ ts) us g = by (is_acked t) (none-in-front ts us) g
  where
    by : (b : Bool) → (list_any is_acked (ts ++ us) ≡ false → list_any is_acked ts ≡ false) → b || list_any is_acked (ts ++ us) ≡ false → b || list_any is_acked ts ≡ false
    by true ih g = (cc)
    by false ih g = ih g

present-parts : (e : ListElement) → is_unremoved e ≡ true → list_any is_acked e.dels ≡ false
present-parts e h = none-in-front e.dels (removal_stamp e.removal_stage) (unremoved-parts (is_acked e.ins) (list_any is_acked (e.dels ++ removal_stamp e.removal_stage)) h)

module _ (n : ℕ) (x : ListElement) (xs : List ListElement) (h : AreNumbered n (x ∷ xs)) (e : ListElement) where
  alive-first : is_unremoved x ≡ true → x ≡ e → IsAlive n (x ∷ xs) e
  alive-first f it = record {
    number = n;
    later = omega arith;
    named = ap id (sym it) ∙ h.0;
    alive = rw (present-parts x f, and-false (same_id (SequencedId n) (id x)), none-before n (n + 1) xs (omega arith) h.1) refl;
  }

  alive-behind : IsAlive (n + 1) xs e → IsAlive n (x ∷ xs) e
  alive-behind a =
      let l = a.later in
      let t : nat_eq a.number n ≡ false = grind (arith, nat_tests, l) in
      record { number = a.number; later = omega (arith, l); named = a.named; alive = rw (h.0, t, a.alive) refl }

at-alive : (n : ℕ) (xs : List ListElement) → AreNumbered n xs → (i : ℕ) (e : ListElement) → at is_unremoved i xs ≡ Some e → IsAlive n xs e
at-alive n [] h i e g = (cc)
at-alive n (x ∷ xs) h zero e g = here (is_unremoved x) refl (at-alive (n + 1) xs h.1 zero e) g
  where
    here : (b : Bool) → is_unremoved x ≡ b → (at is_unremoved zero xs ≡ Some e → IsAlive (n + 1) xs e) → cond b (Some x) (at is_unremoved zero xs) ≡ Some e → IsAlive n (x ∷ xs) e
    here true f ih k = alive-first n x xs h e f (some-same x e k)
    here false f ih k = alive-behind n x xs h e (ih k)
at-alive n (x ∷ xs) h (suc i) e g = later (is_unremoved x) (at-alive (n + 1) xs h.1 i e) (at-alive (n + 1) xs h.1 (suc i) e) g
  where
    later : (b : Bool) → (at is_unremoved i xs ≡ Some e → IsAlive (n + 1) xs e) → (at is_unremoved (suc i) xs ≡ Some e → IsAlive (n + 1) xs e)
        → at is_unremoved (cond b i (suc i)) xs ≡ Some e → IsAlive n (x ∷ xs) e
    later true first behind k = alive-behind n x xs h e (first k)
    later false first behind k = alive-behind n x xs h e (behind k)

-- ---- cells

module _ (rows cols : List ListElement) where
  -- whether neither the row nor the column is removed
  abbrev is_alive : ElementId → ElementId → Bool
  is_alive row col = not (has_sequenced_removal rows row) && not (has_sequenced_removal cols col)

  abbrev is_cell_alive : Cell → Bool
  is_cell_alive c = is_alive c.row c.col

  cell-alive : AreNumbered 0 rows → AreNumbered 0 cols → (r c : Option ListElement) (i j : ℕ) → at is_unremoved i rows ≡ r → at is_unremoved j cols ≡ c → (cell : CellRec) (rest : List Cell)
      → list_all is_cell_alive rest ≡ true → list_all is_cell_alive (cell_at r c cell ++ rest) ≡ true
  cell-alive h g (Some row) (Some col) i j p q cell rest k =
      let a = at-alive 0 rows h i row p in
      let b = at-alive 0 cols g j col q in
      rw (a.named, a.alive, b.named, b.alive) k
  cell-alive h g None c i j p q cell rest k = k
  cell-alive h g (Some row) None i j p q cell rest k = k

  cells-alive : AreNumbered 0 rows → AreNumbered 0 cols → (cs : List CellRec) → list_all is_cell_alive (cells_of rows cols cs) ≡ true
  cells-alive h g [] = refl
  cells-alive h g (c ∷ cs) = cell-alive h g (at is_unremoved c.row rows) (at is_unremoved c.col cols) c.row c.col refl refl c (cells_of rows cols cs) (cells-alive h g cs)

  no-value : (row col : ElementId) (cells : List Cell) → list_all is_cell_alive cells ≡ true → is_alive row col ≡ false → cell_value row col cells ≡ None
  no-value row col [] h dead = refl
  no-value row col (c ∷ cells) h dead =
      let p = both (is_cell_alive c) (list_all is_cell_alive cells) h in
      by (is_cell row col c) refl p.0 (no-value row col cells p.1 dead)
    where
      by : (b : Bool) → is_cell row col c ≡ b → is_cell_alive c ≡ true → cell_value row col cells ≡ None
          → option_map (λ (d : Cell). d.value) (cond b (Some c) (find (is_cell row col) cells)) ≡ None
      by true e g ih =
          let q = both (same_id row c.row) (same_id col c.col) e in
          let l = ap (λ a. is_alive a col) (same_id-eq row c.row q.0) in
          let m = ap (is_alive c.row) (same_id-eq col c.col q.1) in
          cc
      by false e g ih = ih

  module _ (kept cells : List Cell) (k : KeepsCells rows cols kept cells) (h : list_all is_cell_alive cells ≡ true) where
    value-same : (row col : ElementId) → cell_value row col kept ≡ cell_value row col cells
    value-same row col = by (has_sequenced_removal rows row) (has_sequenced_removal cols col) refl refl
      where
        dead : is_alive row col ≡ false → cell_value row col kept ≡ cell_value row col cells
        dead e = let n = no-value row col cells h e in k.none row col n ∙ sym n

        by : (a b : Bool) → has_sequenced_removal rows row ≡ a → has_sequenced_removal cols col ≡ b → cell_value row col kept ≡ cell_value row col cells
        by false false e f = k.values row col e f
        by true b e f = dead (ap (λ t. not t && not (has_sequenced_removal cols col)) e)
        by false true e f = dead (ap (λ t. not t && not (has_sequenced_removal cols col)) e ∙ ap not f)

    row-same : (i : ℕ) (row : ElementId) (j : ℕ) (us : List ListElement) → row_cells kept [] i row j us ≡ row_cells cells [] i row j us
    row-same i row j [] = refl
    row-same i row j (u ∷ us) =
        ap (λ v. cell_record i j v ++ row_cells kept [] i row (j + 1) us) (value-same row (id u)) ∙ ap (λ cs. cell_record i j (cell_value row (id u) cells) ++ cs) (row-same i row (j + 1) us)

    grid-same : (us : List ListElement) (i : ℕ) (xs : List ListElement) → all_cells kept [] us i xs ≡ all_cells cells [] us i xs
    grid-same us i [] = refl
    grid-same us i (x ∷ xs) =
        ap (λ cs. cs ++ all_cells kept [] us (i + 1) xs) (row-same i (id x) 0 us) ∙ ap (λ cs. row_cells cells [] i (id x) 0 us ++ cs) (grid-same us (i + 1) xs)

-- ---- how many elements were held

len-more : (xs ys : List ListElement) → len is_pending xs ≡ 0 → len is_pending ys ≡ 0 → len is_pending (xs ++ ys) ≡ 0
len-more [] ys h g = g
len-more (x ∷ xs) ys h g = by (is_pending x) (λ k. len-more xs ys k g) h
  where
    by : (b : Bool) → (len is_pending xs ≡ 0 → len is_pending (xs ++ ys) ≡ 0) → one_more_if b (len is_pending xs) ≡ 0 → one_more_if b (len is_pending (xs ++ ys)) ≡ 0
    by true ih k = (cc)
    by false ih k = ih k

new-settled : (n s c : ℕ) (dels : List Stamp) (by : Option Stamp) (props : PropertyList) (bs : List ElementContent) → len is_pending (new_elements n (Acked s c) dels by props bs) ≡ 0
new-settled n s c dels by props [] = refl
new-settled n s c dels by props (b ∷ bs) = new-settled (n + 1) s c dels by props bs

segments-settled : (n : ℕ) (segs : List SegRec) → len is_pending (segment_items n segs) ≡ 0
segments-settled n [] = refl
segments-settled n (s ∷ segs) =
    len-more (new_elements n (stamp_of s.ins) (map stamp_of s.dels) (Some (stamp_of s.by)) s.props (segment_bodies s.body)) (segment_items (n + length (segment_bodies s.body)) segs)
    (new-settled n s.ins.seq s.ins.conn (map stamp_of s.dels) (Some (stamp_of s.by)) s.props (segment_bodies s.body)) (segments-settled (n + length (segment_bodies s.body)) segs)

runs-settled : (n : ℕ) (runs : List RunRec) → len is_pending (run_items n runs) ≡ 0
runs-settled n [] = refl
runs-settled n (r ∷ runs) =
    len-more (new_elements n (stamp_of r.ins) (map stamp_of r.dels) None [] (replicate r.count GridUnit)) (run_items (n + r.count) runs)
    (new-settled n r.ins.seq r.ins.conn (map stamp_of r.dels) None [] (replicate r.count GridUnit)) (runs-settled (n + r.count) runs)

count-as : (m p n : ℕ) → p ≡ 0 → m ≡ n → m + p ≡ n
count-as m p n h g = omega (arith, h, g)

nameless-length : (xs ys : List ListElement) → map nameless xs ≡ map nameless ys → length xs ≡ length ys
nameless-length [] [] h = refl
nameless-length [] (y ∷ ys) h = (cc)
nameless-length (x ∷ xs) [] h = (cc)
nameless-length (x ∷ xs) (y ∷ ys) h = ap suc (nameless-length xs ys (cc))

-- ---- documents

module _ (sum : SumDoc) (whole : Document) (gives : GivesDocument sum whole) where
  abbrev given : Document
  given = doc_of sum

  low : given.minimum ≡ whole.minimum
  low = ap (λ (i : IndexedDocument). i.minimum) gives

  trimmed-here : (list : List ListElement) (of : Sequence) → map nameless list ≡ map nameless (retain_map (λ e. not (is_collectable whole.minimum e)) (trim_element whole.minimum) of.items)
      → list_all (is_trimmed given.minimum) (map nameless list) ≡ true
  trimmed-here list of h =
      subst (λ n. list_all (is_trimmed n) (map nameless list) ≡ true) (sym low)
      (subst (λ xs. list_all (is_trimmed whole.minimum) xs ≡ true) (sym h) (trimmed-list whole.minimum of.items))

  text-trimmed : list_all (is_trimmed given.minimum) (map nameless given.text.items) ≡ true
  text-trimmed = trimmed-here given.text.items whole.text (ap (λ (i : IndexedDocument). i.text) gives)

  rows-trimmed : list_all (is_trimmed given.minimum) (map nameless given.rows.items) ≡ true
  rows-trimmed = trimmed-here given.rows.items whole.rows (ap (λ (i : IndexedDocument). i.rows) gives)

  cols-trimmed : list_all (is_trimmed given.minimum) (map nameless given.cols.items) ≡ true
  cols-trimmed = trimmed-here given.cols.items whole.cols (ap (λ (i : IndexedDocument). i.cols) gives)

  abbrev with_lists : Sequence → Sequence → Sequence → List Cell → Document
  with_lists text rows cols cells = record given { text = text; rows = rows; cols = cols; cells = cells }

  kept-indexed : (kept : Document) → KeepsDocument (client_over given) kept → indexed kept ≡ indexed given
  kept-indexed kept k =
      let alive = cells-alive given.rows.items given.cols.items (runs-numbered 0 sum.rows) (runs-numbered 0 sum.cols) sum.cells in
      ap indexed k.rest
      ∙ (ap (λ s. indexed (with_lists s kept.rows kept.cols kept.cells)) (list-whole kept.text given.text k.text text-trimmed)
      ∙ (ap (λ s. indexed (with_lists given.text s kept.cols kept.cells)) (list-whole kept.rows given.rows k.rows rows-trimmed)
      ∙ (ap (λ s. indexed (with_lists given.text given.rows s kept.cells)) (list-whole kept.cols given.cols k.cols cols-trimmed)
      ∙ ap (λ cs. record (indexed given) { cells = cs }) (grid-same given.rows.items given.cols.items kept.cells given.cells k.cells alive given.cols.items 0 given.rows.items))))

  held-given : held_in given ≡ elements_in (trim whole)
  held-given =
      let text = count-as (length given.text.items) (len is_pending given.text.items) _ (segments-settled 0 sum.text) (nameless-length given.text.items (trim whole).text.items (ap (λ (i : IndexedDocument). i.text) gives)) in
      let rows = count-as (length given.rows.items) (len is_pending given.rows.items) _ (runs-settled 0 sum.rows) (nameless-length given.rows.items (trim whole).rows.items (ap (λ (i : IndexedDocument). i.rows) gives)) in
      let cols = count-as (length given.cols.items) (len is_pending given.cols.items) _ (runs-settled 0 sum.cols) (nameless-length given.cols.items (trim whole).cols.items (ap (λ (i : IndexedDocument). i.cols) gives)) in
      ap (λ n. let h : HeldCounts = record { text = n; rows = (held_in given).rows; cols = (held_in given).cols } in h) text
      ∙ (ap (λ n. let h : HeldCounts = record { text = length (trim whole).text.items; rows = n; cols = (held_in given).cols } in h) rows
      ∙ ap (λ n. let h : HeldCounts = record { text = length (trim whole).text.items; rows = length (trim whole).rows.items; cols = n } in h) cols)

  -- a replica that starts over what the summary gives
  pub keeps-trimmed : (r : ReplicaState) (conns : ℕ) → StartsOver r (doc_of sum) conns → KeepsTrimmed r whole
  keeps-trimmed r conns over =
      let s = over.runs.client in
      record {
        doc = sym (ap (λ (c : IndexedClient). c.doc) s.shows) ∙ (kept-indexed s.kept.doc s.keeps.doc ∙ gives);
        held = over.held ∙ held-given;
      }
