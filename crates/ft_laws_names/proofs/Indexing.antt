-- Two well named clients differ in names alone just where they are indexed alike.
use Rattle.std.proofs.Common.{◌≡◌, ℕ, ◌+◌, ◌≤◌, ◌<◌, Bool, true, false, not, ◌||◌, nat_eq, List, [], ◌∷◌, ◌++◌, Option, Some, None, refl, sym, ◌∙◌, ap, subst, map, arith}
use Rattle.std.specs.List.{list_all, list_any}
use Rattle.std.proofs.lemmas.Bool.Decides.{nat_tests}
use Rattle.ft_sumdoc.specs.declared.summary.CellRec.{CellRec}
use Rattle.ft_base.specs.declared.stamps.Stamp.{Stamp}
use Rattle.ft_base.specs.declared.stamps.Stamp.TheVariants.{Acked, Local}
use Rattle.ft_base.specs.declared.elements.Element.{Element as ElementStamps}
use Rattle.ft_base.specs.Scan.{len, rank}
use Rattle.ft_base.specs.Visibility.{is_acked}
use Rattle.ft_base.proofs.Booleans.{both}
use Rattle.ft_props.specs.Properties.{ValueBytes}
use Rattle.ft_props.specs.Element.{ElementId, ListElement, NamelessElement, PendingId, SequencedId, has_id, id, nameless, removal_stamp}
use Rattle.ft_props.specs.Steps.{Sequence}
use Rattle.ft_op.specs.declared.operations.CellOp.TheVariants.{SpliceIn, SpliceOut, Set}
use Rattle.ft_op.specs.Operation.{OnGrid, OnIntervals, OnText, SubOperation}
use Rattle.ft_op.specs.Intervals.{Interval, NamedElements}
use Rattle.ft_op.specs.Cells.{Cell, cell_value}
use Rattle.ft_op.specs.Document.{Document}
use Rattle.ft_op.specs.Stages.{Stage}
use Rattle.ft_msg.specs.Client.{NaiveClient, PendingEdit}
use Rattle.ft_msg.specs.Content.{all_cells, cell_record, row_cells}
use Rattle.ft_msg.specs.Indexed.{IndexedClient, IndexedDocument, IndexedEdit, IndexedInterval, IndexedStage, PlacePair, indexed, indexed_client, indexed_edit, indexed_interval, indexed_stage, place_in_list, places_of}
use Rattle.ft_laws_agreement.proofs.SlidEnds.{true-false}
use Rattle.ft_laws_names.specs.WellNamed.{AreNamedBefore, AreSettledIn, AreStagesNamed, AreThere, HasNoCellsAhead, IsSettledIn, IsWellNamed, IsWellNumbered, StandsIn, has_odd_removal}
use Rattle.ft_laws_names.proofs.Beside.{beside-rank, ends, next, same-map}
use Rattle.ft_laws_names.proofs.ClientsAlike.{ClientsAlike, stages-flat}
use Rattle.ft_laws_names.proofs.DocumentsAlike.{DocsAlike, PartsAlike, RowsAlike}
use Rattle.ft_laws_names.proofs.IntervalsAlike.{IntervalAlike, IntervalsBeside, SettledAlike, away, on_sequenced, settled-beside}
use Rattle.ft_laws_names.proofs.ListSteps.{ListsAlike}
use Rattle.ft_laws_names.proofs.LocalAlike.{StageAlike, StageNames, StagesBeside}
use Rattle.ft_laws_names.proofs.RejoinAlike.{EditAlike, EditsBeside, stages_in}
use Rattle.ft_laws_names.proofs.Twins.{BesideList, EndsAlike, EndsBeside, IsTwin, Named, StandAlike, at_names, detached, ends-beside, from-rank, loose, none-more, on, same-of}

-- ---- from names to places

pub place-alike : {xs ys : List ListElement} {o p : Option ElementId} → EndsBeside xs ys o p → place_in_list xs o ≡ place_in_list ys p
place-alike loose = refl
place-alike (at_names {a = a} {b = b} h) = ap Some (beside-rank (has_id a) (has_id b) (λ x y q. q.1) (λ _. true) (λ _. true) (λ x y q. refl) h)

pub list-indexed : {xs ys : List ListElement} → BesideList IsTwin xs ys → map nameless xs ≡ map nameless ys
list-indexed h = same-map nameless nameless (λ x y t. same-of nameless (λ e n. refl) x y t) h

interval-indexed : {xs ys : List ListElement} (i j : Interval) → IntervalAlike (SettledAlike xs ys) i j → indexed_interval xs i ≡ indexed_interval ys j
interval-indexed i j r = rw (r.label, r.id, r.props, place-alike (settled-beside r.start), place-alike (settled-beside r.end)) refl

row-indexed : (i : ℕ) (cells others : List Cell) (a b : ElementId) (j : ℕ) {cols vs : List ListElement} → RowsAlike cols vs cells others a b
    → row_cells cells [] i a j cols ≡ row_cells others [] i b j vs
row-indexed i cells others a b j ends = refl
row-indexed i cells others a b j (next {x = x} {y = y} {xs = xs} {ys = ys} q qs) =
    ap (λ v. cell_record i j v ++ row_cells cells [] i a (j + 1) xs) q.1 ∙ ap (λ cs. cell_record i j (cell_value b (id y) others) ++ cs) (row-indexed i cells others a b (j + 1) qs)

pub cells-indexed : (cells others : List Cell) (cols vs : List ListElement) (i : ℕ) {xs ys : List ListElement}
    → BesideList (Named (RowsAlike cols vs cells others)) xs ys → all_cells cells [] cols i xs ≡ all_cells others [] vs i ys
cells-indexed cells others cols vs i ends = refl
cells-indexed cells others cols vs i (next {x = x} {y = y} {xs = xs} {ys = ys} q qs) =
    ap (λ cs. cs ++ all_cells cells [] cols (i + 1) xs) (row-indexed i cells others (id x) (id y) 0 q.1)
    ∙ ap (λ cs. row_cells others [] i (id y) 0 vs ++ cs) (cells-indexed cells others cols vs (i + 1) qs)

pub document-indexed : (last : ℕ) (p q : Document) → DocsAlike last p q → indexed p ≡ indexed q
document-indexed last p q h =
    rw (
      list-indexed h.parts.text.twins,
      list-indexed h.parts.rows.twins,
      list-indexed h.parts.cols.twins,
      same-map (indexed_interval p.text.items) (indexed_interval q.text.items) (λ i j r. interval-indexed i j r) h.intervals,
      cells-indexed p.cells q.cells p.cols.items q.cols.items 0 h.parts.cells,
      h.parts.skipped,
      h.parts.other,
      h.parts.number,
      h.parts.minimum,
    ) refl

stage-places : (p q : Document) (o : SubOperation) (a b : NamedElements) → StageNames p q o a b → places_of p o a ≡ places_of q o b
stage-places p q (OnText op) a b n = rw (n.0, n.1) refl
stage-places p q (OnIntervals op) a b n = rw (place-alike (ends-beside n.first), place-alike (ends-beside n.second)) refl
stage-places p q (OnGrid (SpliceIn target i count)) a b n = rw (n.0, n.1) refl
stage-places p q (OnGrid (SpliceOut target i j)) a b n = rw (n.0, n.1) refl
stage-places p q (OnGrid (Set i j value)) a b n = rw (place-alike (ends-beside n.0), place-alike (ends-beside n.1)) refl

stage-indexed : (p q : Document) (t u : Stage) → StageAlike p q t u → indexed_stage p t ≡ indexed_stage q u
stage-indexed p q t u s =
    ap (λ w. record { stage = t.stage; sub_operation = t.sub_operation; places = w }) (stage-places p q t.sub_operation t.names u.names s.names) ∙ ap (indexed_stage q) (sym s.rest)

edit-indexed : (p q : Document) (e f : PendingEdit) → EditAlike p q e f → indexed_edit p e ≡ indexed_edit q f
edit-indexed p q e f r = rw (same-map (indexed_stage p) (indexed_stage q) (λ t u s. stage-indexed p q t u s) r.stages, r.ref_seq, r.sent) refl

pub client-indexed : (x y : NaiveClient) → ClientsAlike x y → indexed_client x ≡ indexed_client y
client-indexed x y h =
    ap (λ d. record (indexed_client x) { doc = d }) (document-indexed x.last_stage x.doc y.doc h.doc)
    ∙ ap (λ es. record (indexed_client x) { doc = indexed y.doc; pending = es })
    (same-map (indexed_edit x.doc) (indexed_edit y.doc) (λ e f r. edit-indexed x.doc y.doc e f r) h.pending)
    ∙ ap indexed_client (sym h.rest)

-- ---- what the relation says of each

stands-in : {xs ys : List ListElement} {o p : Option ElementId} → EndsAlike xs ys o p → StandsIn xs o
stands-in detached = tt
stands-in (on s) = s.there

settled-in : {xs ys : List ListElement} {o p : Option ElementId} → SettledAlike xs ys o p → IsSettledIn xs o
settled-in away = tt
settled-in (on_sequenced s) = s.there

all-settled : {xs ys : List ListElement} {is js : List Interval} → IntervalsBeside (SettledAlike xs ys) is js → AreSettledIn xs is
all-settled ends = tt
all-settled (next r rs) = ((settled-in r.start, settled-in r.end), all-settled rs)

are-there : (p q : Document) (o : SubOperation) (a b : NamedElements) → StageNames p q o a b → AreThere p o a
are-there p q (OnText op) a b n = n.0
are-there p q (OnIntervals op) a b n = (stands-in n.first, stands-in n.second)
are-there p q (OnGrid (SpliceIn target i count)) a b n = n.0
are-there p q (OnGrid (SpliceOut target i j)) a b n = n.0
are-there p q (OnGrid (Set i j value)) a b n = (stands-in n.0, stands-in n.1)

stages-named : (p q : Document) {ts us : List Stage} → StagesBeside p q ts us → AreStagesNamed p ts
stages-named p q ends = tt
stages-named p q (next {x = t} {y = u} s ss) = ((are-there p q t.sub_operation t.names u.names s.names, s.before), stages-named p q ss)

pub well-named : (x y : NaiveClient) → ClientsAlike x y → IsWellNamed x
well-named x y h = record {
  text = h.doc.parts.text.left;
  rows = h.doc.parts.rows.left;
  cols = h.doc.parts.cols.left;
  intervals = all-settled h.doc.intervals;
  cells = h.doc.parts.left;
  stages = stages-named x.doc y.doc (stages-flat x.doc y.doc h.pending);
  own = h.own;
  rise = h.rise;
}

-- ---- from places to names

all-acked : (e : ListElement) → has_odd_removal e ≡ false → list_all is_acked e.dels ≡ true
all-acked e h = shown (list_all is_acked e.dels) h
  where
    shown : (b : Bool) → not b ≡ false → b ≡ true
    shown true g = refl
    shown false g = (cc)

same-removals : (ds es : List Stamp) (o p : Option ℕ) → list_all is_acked ds ≡ true → list_all is_acked es ≡ true → ds ++ removal_stamp o
    ≡ es ++ removal_stamp p → (ds ≡ es) × (o ≡ p)
same-removals [] [] None None a b h = (refl, refl)
same-removals [] [] (Some k) (Some j) a b h =
    let same : k ≡ j = (cc) in
    (refl, ap Some same)
same-removals [] [] None (Some j) a b h = (cc)
same-removals [] [] (Some k) None a b h = (cc)
same-removals [] (Acked s c ∷ es) None p a b h = (cc)
same-removals [] (Acked s c ∷ es) (Some k) p a b h = (cc)
same-removals [] (Local j ∷ es) o p a b h = (cc)
same-removals (Acked s c ∷ ds) [] o None a b h = (cc)
same-removals (Acked s c ∷ ds) [] o (Some k) a b h = (cc)
same-removals (Local j ∷ ds) [] o p a b h = (cc)
same-removals (d ∷ ds) (e ∷ es) o p a b h =
    let x = both (is_acked d) (list_all is_acked ds) a in
    let y = both (is_acked e) (list_all is_acked es) b in
    let first : d ≡ e = (cc) in
    let rest : ds ++ removal_stamp o ≡ es ++ removal_stamp p = (cc) in
    let r = same-removals ds es o p x.1 y.1 rest in
    (ap (λ i. i ∷ ds) first ∙ ap (λ is. e ∷ is) r.0, r.1)

element-twin : (x y : ListElement) → has_odd_removal x ≡ false → has_odd_removal y ≡ false → nameless x ≡ nameless y → IsTwin x y
element-twin x y a b h =
    let stamps = ap (λ (e : NamelessElement). e.stamps) h in
    let r = same-removals x.dels y.dels x.removal_stage y.removal_stage (all-acked x a) (all-acked y b) (ap (λ (s : ElementStamps). s.dels) stamps) in
    sym (rw (
      ap (λ (e : NamelessElement). e.content) h,
      ap (λ (s : ElementStamps). s.ins) stamps,
      r.0,
      r.1,
      ap (λ (e : NamelessElement). e.by) h,
      ap
          (λ (e : NamelessElement). e.props) h,
      ap (λ (e : NamelessElement). e.pending) h,
    ) refl)

pub list-twins : (xs ys : List ListElement) → len has_odd_removal xs ≡ 0 → len has_odd_removal ys ≡ 0 → map nameless xs ≡ map nameless ys → BesideList IsTwin xs ys
list-twins [] [] a b h = ends
list-twins [] (y ∷ ys) a b h = (cc)
list-twins (x ∷ xs) [] a b h = (cc)
list-twins (x ∷ xs) (y ∷ ys) a b h =
    let p = none-more (has_odd_removal x) (len has_odd_removal xs) a in
    let q = none-more (has_odd_removal y) (len has_odd_removal ys) b in
    let first : nameless x ≡ nameless y = (cc) in
    let rest : map nameless xs ≡ map nameless ys = (cc) in
    next (element-twin x y p.0 q.0 first) (list-twins xs ys p.1 q.1 rest)

pub lists-alike : (last : ℕ) (l m : Sequence) → IsWellNumbered last l → IsWellNumbered last m → map nameless l.items ≡ map nameless m.items → ListsAlike last l m
lists-alike last l m a b h = record { left = a; right = b; twins = list-twins l.items m.items a.removals b.removals h }

module _ (last : ℕ) (l m : Sequence) (h : ListsAlike last l m) where
  stand-of : (a b : ElementId) → 1 ≤ len (has_id a) l.items → rank (has_id a) (λ _. true) l.items ≡ rank (has_id b) (λ _. true) m.items → StandAlike l.items m.items a b
  stand-of a b t r = record { there = t; twins = from-rank a b h.left.once h.right.once h.twins r }

  some-rank : {i j : ℕ} → Some i ≡ Some j → i ≡ j
  some-rank e = (cc)

  ends-of : (o p : Option ElementId) → StandsIn l.items o → place_in_list l.items o ≡ place_in_list m.items p → EndsAlike l.items m.items o p
  ends-of None None t r = detached
  ends-of (Some a) (Some b) t r = on (stand-of a b t (some-rank r))
  ends-of None (Some b) t r = (cc)
  ends-of (Some a) None t r = (cc)

  settled-of : (o p : Option ElementId) → IsSettledIn l.items o → IsSettledIn m.items p → place_in_list l.items o ≡ place_in_list m.items p → SettledAlike l.items m.items o p
  settled-of None None t u r = away
  settled-of (Some (SequencedId i)) (Some (SequencedId j)) t u r = on_sequenced (stand-of (SequencedId i) (SequencedId j) t (some-rank r))
  settled-of (Some (PendingId k i)) p t u r = absurd t
  settled-of o (Some (PendingId k i)) t u r = absurd u
  settled-of None (Some (SequencedId j)) t u r = (cc)
  settled-of (Some (SequencedId i)) None t u r = (cc)

  pub intervals-of : (is js : List Interval) → AreSettledIn l.items is → AreSettledIn m.items js → map (indexed_interval l.items) is
      ≡ map (indexed_interval m.items) js → IntervalsBeside (SettledAlike l.items m.items) is js
  intervals-of [] [] a b g = ends
  intervals-of [] (j ∷ js) a b g = (cc)
  intervals-of (i ∷ is) [] a b g = (cc)
  intervals-of (i ∷ is) (j ∷ js) a b g =
      let first : indexed_interval l.items i ≡ indexed_interval m.items j = (cc) in
      let rest : map (indexed_interval l.items) is ≡ map (indexed_interval m.items) js = (cc) in
      next (record {
        label = ap (λ (x : IndexedInterval). x.label) first;
        id = ap (λ (x : IndexedInterval). x.id) first;
        start = settled-of i.start j.start a.0.0 b.0.0 (ap (λ (x : IndexedInterval). x.ends.first) first);
        end = settled-of i.end j.end a.0.1 b.0.1 (ap (λ (x : IndexedInterval). x.ends.second) first);
        props = ap (λ (x : IndexedInterval). x.props) first;
      }) (intervals-of is js a.1 b.1 rest)

-- ---- cells

-- two lists split by one test
split-by : (test : CellRec → Bool) (us vs ws zs : List CellRec) → list_all test us ≡ true → list_all test vs ≡ true → list_any test ws ≡ false
    → list_any test zs ≡ false → us ++ ws ≡ vs ++ zs → (us ≡ vs) × (ws ≡ zs)
split-by test [] [] ws zs a b c d h = (refl, h)
split-by test [] (v ∷ vs) [] zs a b c d h = (cc)
split-by test [] (v ∷ vs) (w ∷ ws) zs a b c d h =
    let same : w ≡ v = (cc) in
    absurd (true-false (sym (ap test same ∙ (both (test v) (list_all test vs) b).0) ∙ first (test w) (list_any test ws) c))
  where
    first : (i j : Bool) → i || j ≡ false → i ≡ false
    first true j g = (cc)
    first false j g = refl
split-by test (u ∷ us) [] ws [] a b c d h = (cc)
split-by test (u ∷ us) [] ws (z ∷ zs) a b c d h =
    let same : u ≡ z = (cc) in
    absurd (true-false (sym (both (test u) (list_all test us) a).0 ∙ ap test same ∙ first (test z) (list_any test zs) d))
  where
    first : (i j : Bool) → i || j ≡ false → i ≡ false
    first true j g = (cc)
    first false j g = refl
split-by test (u ∷ us) (v ∷ vs) ws zs a b c d h =
    let same : u ≡ v = (cc) in
    let rest : us ++ ws ≡ vs ++ zs = (cc) in
    let r = split-by test us vs ws zs (both (test u) (list_all test us) a).1 (both (test v) (list_all test vs) b).1 c d rest in
    (ap (λ i. i ∷ us) same ∙ ap (λ is. v ∷ is) r.0, r.1)

none-append : (test : CellRec → Bool) (us vs : List CellRec) → list_any test us ≡ false → list_any test vs ≡ false → list_any test (us ++ vs) ≡ false
none-append test [] vs a b = b
none-append test (u ∷ us) vs a b = step (test u) a (λ g. none-append test us vs g b)
  where
    step : (i : Bool) → i || list_any test us ≡ false → (list_any test us ≡ false → list_any test (us ++ vs) ≡ false) → i || list_any test (us ++ vs) ≡ false
    step true g ih = (cc)
    step false g ih = ih g

all-append : (test : CellRec → Bool) (us vs : List CellRec) → list_all test us ≡ true → list_all test vs ≡ true → list_all test (us ++ vs) ≡ true
all-append test [] vs a b = b
all-append test (u ∷ us) vs a b = let p = both (test u) (list_all test us) a in rw (p.0, all-append test us vs p.1 b) refl

same-number : (n : ℕ) → nat_eq n n ≡ true
same-number n = grind (arith, nat_tests)

above : (i j : ℕ) → i < j → nat_eq j i ≡ false
above i j l = grind (arith, nat_tests)

row-passes : (i : ℕ) (cells : List Cell) (a : ElementId) (j : ℕ) (cols : List ListElement) → list_all (λ (c : CellRec). nat_eq c.row i) (row_cells cells [] i a j cols) ≡ true
row-passes i cells a j [] = refl
row-passes i cells a j (col ∷ cols) = all-append (λ (c : CellRec). nat_eq c.row i) (cell_record i j (cell_value a (id col) cells))
    (row_cells cells [] i a (j + 1) cols) (here (cell_value a (id col) cells)) (row-passes i cells a (j + 1) cols)
  where
    here : (v : Option ValueBytes) → list_all (λ (c : CellRec). nat_eq c.row i) (cell_record i j v) ≡ true
    here None = refl
    here (Some v) = rw (same-number i) refl

pub row-misses : (k i : ℕ) → k < i → (cells : List Cell) (a : ElementId) (j : ℕ) (cols : List ListElement)
    → list_any (λ (c : CellRec). nat_eq c.row k) (row_cells cells [] i a j cols) ≡ false
row-misses k i l cells a j [] = refl
row-misses k i l cells a j (col ∷ cols) = none-append (λ (c : CellRec). nat_eq c.row k) (cell_record i j (cell_value a (id col) cells))
    (row_cells cells [] i a (j + 1) cols) (here (cell_value a (id col) cells)) (row-misses k i l cells a (j + 1) cols)
  where
    here : (v : Option ValueBytes) → list_any (λ (c : CellRec). nat_eq c.row k) (cell_record i j v) ≡ false
    here None = refl
    here (Some v) = rw (above k i l) refl

pub rows-miss : (k i : ℕ) → k < i → (cells : List Cell) (cols rows : List ListElement) → list_any (λ (c : CellRec). nat_eq c.row k) (all_cells cells [] cols i rows) ≡ false
rows-miss k i l cells cols [] = refl
rows-miss k i l cells cols (row ∷ rows) = none-append (λ (c : CellRec). nat_eq c.row k) (row_cells cells [] i (id row) 0 cols)
    (all_cells cells [] cols (i + 1) rows) (row-misses k i l cells (id row) 0 cols) (rows-miss k (i + 1) (omega arith) cells cols rows)

pub cols-miss : (i k j : ℕ) → k < j → (cells : List Cell) (a : ElementId) (cols : List ListElement)
    → list_any (λ (c : CellRec). nat_eq c.col k) (row_cells cells [] i a j cols) ≡ false
cols-miss i k j l cells a [] = refl
cols-miss i k j l cells a (col ∷ cols) = none-append (λ (c : CellRec). nat_eq c.col k) (cell_record i j (cell_value a (id col) cells))
    (row_cells cells [] i a (j + 1) cols) (here (cell_value a (id col) cells)) (cols-miss i k (j + 1) (omega arith) cells a cols)
  where
    here : (v : Option ValueBytes) → list_any (λ (c : CellRec). nat_eq c.col k) (cell_record i j v) ≡ false
    here None = refl
    here (Some v) = rw (above k j l) refl

cell-passes : (i j : ℕ) (v : Option ValueBytes) → list_all (λ (c : CellRec). nat_eq c.col j) (cell_record i j v) ≡ true
cell-passes i j None = refl
cell-passes i j (Some v) = rw (same-number j) refl

same-value : (i j : ℕ) (v w : Option ValueBytes) → cell_record i j v ≡ cell_record i j w → v ≡ w
same-value i j None None h = refl
same-value i j None (Some w) h = (cc)
same-value i j (Some v) None h = (cc)
same-value i j (Some v) (Some w) h = ap (λ (cs : List CellRec). first cs) h
  where
    first : List CellRec → Option ValueBytes
    first [] = None
    first (c ∷ cs) = Some c.value

row-of : (i : ℕ) (cells others : List Cell) (a b : ElementId) (j : ℕ) {cols vs : List ListElement} → BesideList IsTwin cols vs → row_cells cells [] i a j cols
    ≡ row_cells others [] i b j vs → RowsAlike cols vs cells others a b
row-of i cells others a b j ends h = ends
row-of i cells others a b j (next {x = x} {y = y} {xs = xs} {ys = ys} t ts) h =
    let v = cell_value a (id x) cells in
    let w = cell_value b (id y) others in
    let s = split-by (λ (c : CellRec). nat_eq c.col j) (cell_record i j v) (cell_record i j w) (row_cells cells [] i a (j + 1) xs)
    (row_cells others [] i b (j + 1) ys) (cell-passes i j v) (cell-passes i j w) (cols-miss i j (j + 1) (omega arith) cells a xs)
    (cols-miss i j (j + 1) (omega arith) others b ys) h in
    next (t, same-value i j v w s.0) (row-of i cells others a b (j + 1) ts s.1)

pub cells-of-index : (i : ℕ) (cells others : List Cell) (cols vs : List ListElement) → BesideList IsTwin cols vs → {xs ys : List ListElement}
    → BesideList IsTwin xs ys → all_cells cells [] cols i xs ≡ all_cells others [] vs i ys → BesideList (Named (RowsAlike cols vs cells others)) xs ys
cells-of-index i cells others cols vs k ends h = ends
cells-of-index i cells others cols vs k (next {x = x} {y = y} {xs = xs} {ys = ys} t ts) h =
    let s = split-by (λ (c : CellRec). nat_eq c.row i) (row_cells cells [] i (id x) 0 cols) (row_cells others [] i (id y) 0 vs)
    (all_cells cells [] cols (i + 1) xs) (all_cells others [] vs (i + 1) ys)
    (row-passes i cells (id x) 0 cols) (row-passes i others (id y) 0 vs) (rows-miss i (i + 1) (omega arith) cells cols xs) (rows-miss i (i + 1) (omega arith) others vs ys) h in
    next (t, row-of i cells others (id x) (id y) 0 k s.0) (cells-of-index (i + 1) cells others cols vs k ts s.1)

-- ---- stages

module _ (last : ℕ) (p q : Document) (h : PartsAlike last p q) where
  names-of : (o : SubOperation) (a b : NamedElements) → AreThere p o a → AreThere q o b → places_of p o a ≡ places_of q o b → StageNames p q o a b
  names-of (OnText op) a b t u g = (t, u)
  names-of (OnIntervals op) a b t u g = record {
    first = ends-of last p.text q.text h.text a.first b.first t.0 (ap (λ (x : PlacePair). x.first) g);
    second =
        ends-of last p.text q.text h.text a.second b.second t.1 (ap (λ (x : PlacePair). x.second) g);
  }
  names-of (OnGrid (SpliceIn target i count)) a b t u g = (t, u)
  names-of (OnGrid (SpliceOut target i j)) a b t u g = (t, u)
  names-of (OnGrid (Set i j value)) a b t u g = (
    ends-of last p.rows q.rows h.rows a.first b.first t.0 (ap (λ (x : PlacePair). x.first) g),
    ends-of last p.cols
        q.cols h.cols a.second b.second t.1 (ap (λ (x : PlacePair). x.second) g),
  )

  stage-of : (t : Stage) (k : ℕ) (o : SubOperation) (n : NamedElements) → AreThere p t.sub_operation t.names → AreThere q o n
      → AreNamedBefore t.stage t.sub_operation t.names → AreNamedBefore k o n → t.stage ≡ k → t.sub_operation ≡ o → places_of p t.sub_operation t.names ≡ places_of q o n
      → StageAlike p q t (record { stage = k; sub_operation = o; names = n })
  stage-of t k o n a z b c e f g = record {
    rest = rw (e, f) refl;
    names = names-of t.sub_operation t.names n a (subst (λ i. AreThere q i n) (sym f) z) (g ∙ ap (λ i. places_of q i n) (sym f));
    before = b;
    other = subst (λ i. AreNamedBefore i t.sub_operation n) (sym e) (subst (λ i. AreNamedBefore k i n) (sym f) c);
  }

  stages-of-index : (ts us : List Stage) → AreStagesNamed p ts → AreStagesNamed q us → map (indexed_stage p) ts ≡ map (indexed_stage q) us → StagesBeside p q ts us
  stages-of-index [] [] a b g = ends
  stages-of-index [] (u ∷ us) a b g = (cc)
  stages-of-index (t ∷ ts) [] a b g = (cc)
  stages-of-index (t ∷ ts) (u ∷ us) a b g =
      let first : indexed_stage p t ≡ indexed_stage q u = (cc) in
      let rest : map (indexed_stage p) ts ≡ map (indexed_stage q) us = (cc) in
      next (stage-of t u.stage u.sub_operation u.names a.0.0 b.0.0 a.0.1 b.0.1 (ap (λ (x : IndexedStage). x.stage) first)
      (ap (λ (x : IndexedStage). x.sub_operation) first) (ap (λ (x : IndexedStage). x.places) first)) (stages-of-index ts us a.1 b.1 rest)

  split-named : (d : Document) (ts us : List Stage) → AreStagesNamed d (ts ++ us) → AreStagesNamed d ts × AreStagesNamed d us
  split-named d [] us a = (tt, a)
  split-named d (t ∷ ts) us a = let r = split-named d ts us a.1 in ((a.0, r.0), r.1)

  pub edits-of-index : (es fs : List PendingEdit) → AreStagesNamed p (stages_in es) → AreStagesNamed q (stages_in fs) → map (indexed_edit p) es
      ≡ map (indexed_edit q) fs → EditsBeside p q es fs
  edits-of-index [] [] a b g = ends
  edits-of-index [] (f ∷ fs) a b g = (cc)
  edits-of-index (e ∷ es) [] a b g = (cc)
  edits-of-index (e ∷ es) (f ∷ fs) a b g =
      let first : indexed_edit p e ≡ indexed_edit q f = (cc) in
      let rest : map (indexed_edit p) es ≡ map (indexed_edit q) fs = (cc) in
      let i = split-named p e.stages (stages_in es) a in
      let j = split-named q f.stages (stages_in fs) b in
      next (record {
        stages = stages-of-index e.stages f.stages i.0 j.0 (ap (λ (x : IndexedEdit). x.stages) first);
        ref_seq = ap
            (λ (x : IndexedEdit). x.ref_seq) first;
        sent = ap (λ (x : IndexedEdit). x.sent) first;
      }) (edits-of-index es fs i.1 j.1 rest)

-- ---- clients

pub parts-of-index : (last : ℕ) (p q : Document) → ListsAlike last p.text q.text → ListsAlike last p.rows q.rows → ListsAlike last p.cols q.cols
    → (h : HasNoCellsAhead p) (g : HasNoCellsAhead q) → indexed p ≡ indexed q → PartsAlike last p q
parts-of-index last p q text rows cols h g e = record {
  text = text;
  rows = rows;
  cols = cols;
  cells = cells-of-index 0 p.cells q.cells p.cols.items q.cols.items cols.twins rows.twins (ap (λ (d : IndexedDocument). d.cells) e);
  left = h;
  right = g;
  skipped = ap (λ (d : IndexedDocument). d.skipped) e;
  other = ap (λ (d : IndexedDocument). d.other) e;
  number = ap (λ (d : IndexedDocument). d.number) e;
  minimum = ap (λ (d : IndexedDocument). d.minimum) e;
}

-- two well named clients that are indexed alike differ in names alone
pub indexed-alike : (x y : NaiveClient) → IsWellNamed x → IsWellNamed y → indexed_client x ≡ indexed_client y → ClientsAlike x y
indexed-alike x y a b e =
    let doc = ap (λ (c : IndexedClient). c.doc) e in
    let last = ap (λ (c : IndexedClient). c.last_stage) e in
    let text = lists-alike x.last_stage x.doc.text y.doc.text a.text (subst (λ n. IsWellNumbered n y.doc.text) (sym last) b.text) (ap (λ (d : IndexedDocument). d.text) doc) in
    let rows = lists-alike x.last_stage x.doc.rows y.doc.rows a.rows (subst (λ n. IsWellNumbered n y.doc.rows) (sym last) b.rows) (ap (λ (d : IndexedDocument). d.rows) doc) in
    let cols = lists-alike x.last_stage x.doc.cols y.doc.cols a.cols (subst (λ n. IsWellNumbered n y.doc.cols) (sym last) b.cols) (ap (λ (d : IndexedDocument). d.cols) doc) in
    let parts = parts-of-index x.last_stage x.doc y.doc text rows cols a.cells b.cells doc in
    record {
      rest = sym (rw (
        ap (λ (c : IndexedClient). c.link) e,
        ap (λ (c : IndexedClient). c.conns) e,
        last,
        ap (λ (c : IndexedClient). c.next_client_seq) e,
        ap
            (λ (c : IndexedClient). c.queue) e,
      ) refl);
      doc = record {
        parts = parts;
        intervals = intervals-of x.last_stage x.doc.text y.doc.text text x.doc.intervals y.doc.intervals a.intervals b.intervals
            (ap (λ (d : IndexedDocument). d.intervals) doc);
      };
      pending = edits-of-index x.last_stage x.doc y.doc parts x.pending y.pending a.stages b.stages (ap (λ (c : IndexedClient). c.pending) e);
      own = a.own;
      rise = a.rise;
    }

pub alike-itself : (x : NaiveClient) → IsWellNamed x → ClientsAlike x x
alike-itself x a = indexed-alike x x a a refl
