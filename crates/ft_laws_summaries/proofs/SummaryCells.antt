-- The cells that the summary of an idle client gives are those of its trimmed document, by the places of their rows and
-- columns.
use Rattle.std.proofs.Common.{◌≡◌, ℕ, zero, suc, ◌+◌, Bool, true, false, cond, not, ◌&&◌, ◌||◌, List, [], ◌∷◌, ◌++◌, append_assoc, filter, find, map, Option, Some, None, option_map, refl, sym, ◌∙◌, ap, arith}
use Rattle.std.specs.List.{list_all, list_any}
use Rattle.std.specs.Option.{option_or}
use Rattle.ft_base.proofs.Booleans.{all_four, both}
use Rattle.ft_base.specs.declared.stamps.Stamp.{Stamp}
use Rattle.ft_base.specs.Scan.{at, retain_map}
use Rattle.ft_base.specs.Visibility.{is_acked, is_present}
use Rattle.ft_sumdoc.specs.declared.summary.CellRec.{CellRec}
use Rattle.ft_props.specs.Properties.{ValueBytes}
use Rattle.ft_props.specs.Element.{ElementId, ListElement, NamelessElement, PendingId, SequencedId, has_sequenced_removal, id, is_unremoved, nameless, removal_stamp, same_id, seen}
use Rattle.ft_props.specs.Compaction.{is_collectable, is_insertion_at_or_below, trim_element, trim_list, with_universal_insertion}
use Rattle.ft_props.specs.Steps.{Sequence}
use Rattle.ft_props.proofs.RebuiltList.{or_right}
use Rattle.ft_op.specs.Cells.{Cell, cell_value, is_cell, is_null}
use Rattle.ft_op.specs.Document.{Document}
use Rattle.ft_msg.specs.Content.{all_cells, cell_record, row_cells, shown}
use Rattle.ft_msg.specs.Summary.{cell_at, cells_of, run_items, trim}
use Rattle.ft_msg.specs.SummaryOf.{unit_runs}
use Rattle.ft_laws_agreement.proofs.CompactedScans.{id-universal}
use Rattle.ft_laws_agreement.proofs.SlidEnds.{same_id-eq, same_id-refl}
use Rattle.ft_laws_summaries.proofs.SummaryLists.{is_empty, is_none, is_of_text, is_plain_unit, is_settled, runs-back}
use Rattle.ft_laws_summaries.proofs.SummaryIntervals.{AreNumbered, runs-numbered, settled-seen}

-- ---- what is shown of cells goes by the names of rows and columns

-- the cells of a row from column j on, with the values of its columns
abbrev row_by : (ElementId → Option ValueBytes) → ℕ → ℕ → List ElementId → List CellRec
row_by f i j [] = []
row_by f i j (b ∷ cols) = cell_record i j (f b) ++ row_by f i (j + 1) cols

-- the cells of rows from row i on, with the values of each row and column
abbrev grid_by : (ElementId → ElementId → Option ValueBytes) → List ElementId → ℕ → List ElementId → List CellRec
grid_by f cols i [] = []
grid_by f cols i (a ∷ rows) = row_by (f a) i 0 cols ++ grid_by f cols (i + 1) rows

row-names : (cells : List Cell) (i : ℕ) (a : ElementId) (j : ℕ) (cols : List ListElement)
    → row_cells cells [] i a j cols ≡ row_by (λ b. cell_value a b cells) i j (map id cols)
row-names cells i a j [] = refl
row-names cells i a j (e ∷ cols) = ap (λ cs. cell_record i j (cell_value a (id e) cells) ++ cs) (row-names cells i a (j + 1) cols)

grid-names : (cells : List Cell) (cols : List ListElement) (i : ℕ) (rows : List ListElement)
    → all_cells cells [] cols i rows ≡ grid_by (λ a b. cell_value a b cells) (map id cols) i (map id rows)
grid-names cells cols i [] = refl
grid-names cells cols i (e ∷ rows) =
    ap (λ cs. cs ++ all_cells cells [] cols (i + 1) rows) (row-names cells i (id e) 0 cols)
    ∙ ap (λ cs. row_by (λ b. cell_value (id e) b cells) i 0 (map id cols) ++ cs) (grid-names cells cols (i + 1) rows)

row-renamed : (f : ElementId → Option ValueBytes) (g : ElementId → ElementId) (i j : ℕ) (cols : List ElementId)
    → row_by f i j (map g cols) ≡ row_by (λ b. f (g b)) i j cols
row-renamed f g i j [] = refl
row-renamed f g i j (b ∷ cols) = ap (λ cs. cell_record i j (f (g b)) ++ cs) (row-renamed f g i (j + 1) cols)

grid-renamed : (f : ElementId → ElementId → Option ValueBytes) (h g : ElementId → ElementId) (cols : List ElementId) (i : ℕ) (rows : List ElementId)
    → grid_by f (map g cols) i (map h rows) ≡ grid_by (λ a b. f (h a) (g b)) cols i rows
grid-renamed f h g cols i [] = refl
grid-renamed f h g cols i (a ∷ rows) =
    ap (λ cs. cs ++ grid_by f (map g cols) (i + 1) (map h rows)) (row-renamed (f (h a)) g i 0 cols)
    ∙ ap (λ cs. row_by (λ b. f (h a) (g b)) i 0 cols ++ cs) (grid-renamed f h g cols (i + 1) rows)

-- where the values of all its rows and columns are the same
module _ (f g : ElementId → ElementId → Option ValueBytes) (row col : ElementId → Bool)
    (same : (a b : ElementId) → row a ≡ true → col b ≡ true → f a b ≡ g a b) where
  row-same : (a : ElementId) → row a ≡ true → (i j : ℕ) (cols : List ElementId) → list_all col cols ≡ true → row_by (f a) i j cols ≡ row_by (g a) i j cols
  row-same a h i j [] k = refl
  row-same a h i j (b ∷ cols) k =
      let p = both (col b) (list_all col cols) k in
      ap (λ v. cell_record i j v ++ row_by (f a) i (j + 1) cols) (same a b h p.0) ∙ ap (λ cs. cell_record i j (g a b) ++ cs) (row-same a h i (j + 1) cols p.1)

  grid-same : (cols : List ElementId) → list_all col cols ≡ true → (i : ℕ) (rows : List ElementId) → list_all row rows ≡ true → grid_by f cols i rows ≡ grid_by g cols i rows
  grid-same cols k i [] h = refl
  grid-same cols k i (a ∷ rows) h =
      let p = both (row a) (list_all row rows) h in
      ap (λ cs. cs ++ grid_by f cols (i + 1) rows) (row-same a p.0 i 0 cols k) ∙ ap (λ cs. row_by (g a) i 0 cols ++ cs) (grid-same cols k (i + 1) rows p.1)

-- ---- cells with names

-- the cell of two names, if it has a value
abbrev named_cell : ElementId → ElementId → Option ValueBytes → List Cell
named_cell a b None = []
named_cell a b (Some v) = record { row = a; col = b; value = v } ∷ []

-- the cells of a row's name and the names of columns
abbrev named_row : (ElementId → Option ValueBytes) → ElementId → List ElementId → List Cell
named_row f a [] = []
named_row f a (b ∷ cols) = named_cell a b (f b) ++ named_row f a cols

-- the cells of the names of rows and columns
abbrev named_cells : (ElementId → ElementId → Option ValueBytes) → List ElementId → List ElementId → List Cell
named_cells f cols [] = []
named_cells f cols (a ∷ rows) = named_row (f a) a cols ++ named_cells f cols rows

no-value : (t : Bool) → cond {A = Option ValueBytes} t None None ≡ None
no-value true = refl
no-value false = refl

-- of two values, each there under its test, the first one, which is the second where it is there
either-value : (o p : Option ValueBytes) (t u : Bool) → (t ≡ true → o ≡ p) → option_or (cond t o None) (cond u p None) ≡ cond (t || u) p None
either-value o p false u h = refl
either-value o p true u h = ap (λ q. option_or q (cond u p None)) (h refl) ∙ by p
  where
    by : (q : Option ValueBytes) → option_or q (cond u q None) ≡ q
    by None = no-value u
    by (Some v) = refl

module _ (f : ElementId → ElementId → Option ValueBytes) (a b : ElementId) where
  value-append : (xs ys : List Cell) → cell_value a b (xs ++ ys) ≡ option_or (cell_value a b xs) (cell_value a b ys)
  value-append [] ys = refl
  value-append (c ∷ xs) ys = by (is_cell a b c) (value-append xs ys)
    where
      by : (t : Bool) → cell_value a b (xs ++ ys) ≡ option_or (cell_value a b xs) (cell_value a b ys)
          → option_map (λ (d : Cell). d.value) (cond t (Some c) (find (is_cell a b) (xs ++ ys)))
          ≡ option_or (option_map (λ (d : Cell). d.value) (cond t (Some c) (find (is_cell a b) xs))) (cell_value a b ys)
      by true h = refl
      by false h = h

  value-cell : (x y : ElementId) (o : Option ValueBytes) → cell_value a b (named_cell x y o) ≡ cond (same_id a x && same_id b y) o None
  value-cell x y None = sym (no-value (same_id a x && same_id b y))
  value-cell x y (Some v) = by (same_id a x && same_id b y)
    where
      by : (t : Bool) → option_map (λ (d : Cell). d.value) (cond t (Some (record { row = x; col = y; value = v })) None) ≡ cond t (Some v) None
      by true = refl
      by false = refl

  -- the value of a column that stands in the row
  value-row : (x : ElementId) (cols : List ElementId) → cell_value a b (named_row (f x) x cols) ≡ cond (same_id a x && list_any (same_id b) cols) (f x b) None
  value-row x [] = sym (ap (λ t. cond t (f x b) None) (never (same_id a x)))
    where
      never : (t : Bool) → t && false ≡ false
      never true = refl
      never false = refl
  value-row x (y ∷ cols) =
      value-append (named_cell x y (f x y)) (named_row (f x) x cols)
      ∙ (ap (λ o. option_or o (cell_value a b (named_row (f x) x cols))) (value-cell x y (f x y))
      ∙ (ap (option_or (cond (same_id a x && same_id b y) (f x y) None)) (value-row x cols)
      ∙ (either-value (f x y) (f x b) (same_id a x && same_id b y) (same_id a x && list_any (same_id b) cols)
      (λ h. ap (f x) (sym (same_id-eq b y (both (same_id a x) (same_id b y) h).1)))
      ∙ ap (λ t. cond t (f x b) None) (joined (same_id a x) (same_id b y) (list_any (same_id b) cols)))))
    where
      joined : (s t u : Bool) → (s && t) || (s && u) ≡ s && (t || u)
      joined true t u = refl
      joined false t u = refl

  -- the value of a row and a column that stand there
  value-named : (cols rows : List ElementId) → cell_value a b (named_cells f cols rows) ≡ cond (list_any (same_id a) rows && list_any (same_id b) cols) (f a b) None
  value-named cols [] = refl
  value-named cols (x ∷ rows) =
      value-append (named_row (f x) x cols) (named_cells f cols rows)
      ∙ (ap (λ o. option_or o (cell_value a b (named_cells f cols rows))) (value-row x cols)
      ∙ (ap (option_or (cond (same_id a x && list_any (same_id b) cols) (f x b) None)) (value-named cols rows)
      ∙ (either-value (f x b) (f a b) (same_id a x && list_any (same_id b) cols) (list_any (same_id a) rows && list_any (same_id b) cols)
      (λ h. ap (λ c. f c b) (sym (same_id-eq a x (both (same_id a x) (list_any (same_id b) cols) h).0)))
      ∙ ap (λ t. cond t (f a b) None) (joined (same_id a x) (list_any (same_id a) rows) (list_any (same_id b) cols)))))
    where
      joined : (s t u : Bool) → (s && u) || (t && u) ≡ (s || t) && u
      joined true true true = refl
      joined true true false = refl
      joined true false true = refl
      joined true false false = refl
      joined false t u = refl

-- ---- cells at places

-- the second list stands in the first from the i-th on that passes
abbrev StandsAt : (ListElement → Bool) → ℕ → List ListElement → List ListElement → Type 0
StandsAt test i whole xs = (k : ℕ) → at test (i + k) whole ≡ at (λ e. true) k xs

module _ (test : ListElement → Bool) (i : ℕ) (whole : List ListElement) (x : ListElement) (xs : List ListElement) (h : StandsAt test i whole (x ∷ xs)) where
  stands-first : at test i whole ≡ Some x
  stands-first = ap (λ n. at test n whole) (none i) ∙ h 0
    where
      none : (j : ℕ) → j ≡ j + 0
      none j = omega arith

  stands-next : StandsAt test (i + 1) whole xs
  stands-next k = ap (λ n. at test n whole) (next i k) ∙ h (suc k)
    where
      next : (j n : ℕ) → j + 1 + n ≡ j + suc n
      next j n = omega arith

-- the k-th that passes is the k-th of those that pass
at-passing : (test : ListElement → Bool) (k : ℕ) (xs : List ListElement) → at test k xs ≡ at (λ e. true) k (filter test xs)
at-passing test k [] = refl
at-passing test zero (x ∷ xs) = by (test x) (at-passing test zero xs)
  where
    by : (t : Bool) → at test zero xs ≡ at (λ e. true) zero (filter test xs)
        → cond t (Some x) (at test zero xs) ≡ at (λ e. true) zero (cond t (x ∷ filter test xs) (filter test xs))
    by true h = refl
    by false h = h
at-passing test (suc k) (x ∷ xs) = by (test x) (at-passing test k xs) (at-passing test (suc k) xs)
  where
    by : (t : Bool) → at test k xs ≡ at (λ e. true) k (filter test xs) → at test (suc k) xs ≡ at (λ e. true) (suc k) (filter test xs)
        → at test (cond t k (suc k)) xs ≡ at (λ e. true) (suc k) (cond t (x ∷ filter test xs) (filter test xs))
    by true h g = h
    by false h g = g

from-first : (k : ℕ) → 0 + k ≡ k
from-first k = omega arith

stands-passing : (test : ListElement → Bool) (xs : List ListElement) → StandsAt test 0 xs (filter test xs)
stands-passing test xs k = ap (λ n. at test n xs) (from-first k) ∙ at-passing test k xs

cells-append : (rows cols : List ListElement) (xs ys : List CellRec) → cells_of rows cols (xs ++ ys) ≡ cells_of rows cols xs ++ cells_of rows cols ys
cells-append rows cols [] ys = refl
cells-append rows cols (c ∷ xs) ys =
    ap (λ cs. cell_at (at is_unremoved c.row rows) (at is_unremoved c.col cols) c ++ cs) (cells-append rows cols xs ys)
    ∙ sym (append_assoc (cell_at (at is_unremoved c.row rows) (at is_unremoved c.col cols) c) (cells_of rows cols xs) (cells_of rows cols ys))

-- cells at the places of rows and columns are the cells of their names
module _ (rows cols : List ListElement) where
  cell-placed : (i j : ℕ) (x y : ListElement) (o : Option ValueBytes) → at is_unremoved i rows ≡ Some x → at is_unremoved j cols ≡ Some y
      → cells_of rows cols (cell_record i j o) ≡ named_cell (id x) (id y) o
  cell-placed i j x y None g h = refl
  cell-placed i j x y (Some v) g h = rw (g, h) refl

  row-placed : (f : ElementId → Option ValueBytes) (i : ℕ) (x : ListElement) → at is_unremoved i rows ≡ Some x → (j : ℕ) (ys : List ListElement)
      → StandsAt is_unremoved j cols ys → cells_of rows cols (row_by f i j (map id ys)) ≡ named_row f (id x) (map id ys)
  row-placed f i x g j [] h = refl
  row-placed f i x g j (y ∷ ys) h =
      cells-append rows cols (cell_record i j (f (id y))) (row_by f i (j + 1) (map id ys))
      ∙ (ap (λ cs. cs ++ cells_of rows cols (row_by f i (j + 1) (map id ys))) (cell-placed i j x y (f (id y)) g (stands-first is_unremoved j cols y ys h))
      ∙ ap (λ cs. named_cell (id x) (id y) (f (id y)) ++ cs) (row-placed f i x g (j + 1) ys (stands-next is_unremoved j cols y ys h)))

  grid-placed : (f : ElementId → ElementId → Option ValueBytes) (ys : List ListElement) → StandsAt is_unremoved 0 cols ys → (i : ℕ) (xs : List ListElement)
      → StandsAt is_unremoved i rows xs → cells_of rows cols (grid_by f (map id ys) i (map id xs)) ≡ named_cells f (map id ys) (map id xs)
  grid-placed f ys g i [] h = refl
  grid-placed f ys g i (x ∷ xs) h =
      cells-append rows cols (row_by (f (id x)) i 0 (map id ys)) (grid_by f (map id ys) (i + 1) (map id xs))
      ∙ (ap (λ cs. cs ++ cells_of rows cols (grid_by f (map id ys) (i + 1) (map id xs))) (row-placed (f (id x)) i x (stands-first is_unremoved i rows x xs h) 0 ys g)
      ∙ ap (λ cs. named_row (f (id x)) (id x) (map id ys) ++ cs) (grid-placed f ys g (i + 1) xs (stands-next is_unremoved i rows x xs h)))

-- ---- rows or columns that are read back

-- a list that is read back from the runs of another: what its names stand for, and that each one is an unremoved element's
-- or stands for a removed one
record ReadBack (removed : ElementId → Bool) (name : ElementId → ElementId) (xs ys : List ListElement) : Type 0 where
  names : map name (map id ys) ≡ map id xs
  shown_names : map name (map id (filter is_unremoved ys)) ≡ map id (filter (seen 0) xs)
  known : list_all (λ a. list_any (same_id a) (map id (filter is_unremoved ys)) || removed (name a)) (map id ys) ≡ true

-- the name of the element, if there is one
abbrev name_or : ElementId → Option ListElement → ElementId
name_or a None = a
name_or a (Some e) = id e

-- the name of the element that stands at the place of that number
abbrev name_at : List ListElement → ElementId → ElementId
name_at xs (SequencedId n) = name_or (SequencedId n) (at (λ e. true) n xs)
name_at xs (PendingId k n) = PendingId k n

names-back : (whole : List ListElement) (n : ℕ) (xs ys : List ListElement) → AreNumbered n ys → map nameless ys ≡ map nameless xs → StandsAt (λ e. true) n whole xs
    → map (name_at whole) (map id ys) ≡ map id xs
names-back whole n [] [] h e s = refl
names-back whole n [] (y ∷ ys) h e s = (cc)
names-back whole n (x ∷ xs) [] h e s = (cc)
names-back whole n (x ∷ xs) (y ∷ ys) h e s =
    let rest : map nameless ys ≡ map nameless xs = (cc) in
    let first : name_at whole (id y) ≡ id x = ap (name_at whole) h.0 ∙ ap (name_or (SequencedId n)) (stands-first (λ e. true) n whole x xs s) in
    ap (λ a. a ∷ map (name_at whole) (map id ys)) first ∙ ap (λ others. id x ∷ others) (names-back whole (n + 1) xs ys h.1 rest (stands-next (λ e. true) n whole x xs s))

unit-settled : (e : ListElement) → is_plain_unit e ≡ true → is_settled e ≡ true
unit-settled e h = (both (is_settled e) (is_none e.by && is_empty e.props && not (is_of_text e.content)) h).0

shown_names-back : (name : ElementId → ElementId) (xs ys : List ListElement) → list_all is_plain_unit xs ≡ true → map nameless ys ≡ map nameless xs
    → map name (map id ys) ≡ map id xs → map name (map id (filter is_unremoved ys)) ≡ map id (filter (seen 0) xs)
shown_names-back name [] [] h e g = refl
shown_names-back name [] (y ∷ ys) h e g = (cc)
shown_names-back name (x ∷ xs) [] h e g = (cc)
shown_names-back name (x ∷ xs) (y ∷ ys) h e g =
    let p = both (is_plain_unit x) (list_all is_plain_unit xs) h in
    let alike : nameless y ≡ nameless x = (cc) in
    let rest : map nameless ys ≡ map nameless xs = (cc) in
    let named : name (id y) ≡ id x = (cc) in
    let others : map name (map id ys) ≡ map id xs = (cc) in
    by (is_unremoved y) (seen 0 x) (ap (λ (n : NamelessElement). is_present is_acked n.stamps) alike ∙ sym (settled-seen x (unit-settled x p.0))) named
    (shown_names-back name xs ys p.1 rest others)
  where
    by : (s t : Bool) → s ≡ t → name (id y) ≡ id x → map name (map id (filter is_unremoved ys)) ≡ map id (filter (seen 0) xs)
        → map name (map id (cond s (y ∷ filter is_unremoved ys) (filter is_unremoved ys))) ≡ map id (cond t (x ∷ filter (seen 0) xs) (filter (seen 0) xs))
    by true true c n ih = ap (λ a. a ∷ map name (map id (filter is_unremoved ys))) n ∙ ap (λ others. id x ∷ others) ih
    by false false c n ih = ih
    by true false c n ih = (cc)
    by false true c n ih = (cc)

-- whether the element is unremoved, or removed in the whole list
abbrev is_known : List ListElement → ListElement → Bool
is_known whole e = not (list_any is_acked e.dels) || has_sequenced_removal whole (id e)

-- removed elements that a trimmed list keeps are removed in the list
trim-known : (min : ℕ) (whole xs : List ListElement) → ((a : ElementId) → has_sequenced_removal xs a ≡ true → has_sequenced_removal whole a ≡ true)
    → list_all (is_known whole) (retain_map (λ e. not (is_collectable min e)) (trim_element min) xs) ≡ true
trim-known min whole [] h = refl
trim-known min whole (e ∷ xs) h = by (not (is_collectable min e)) (is_insertion_at_or_below min e.ins) refl (trim-known min whole xs later)
  where
    later : (a : ElementId) → has_sequenced_removal xs a ≡ true → has_sequenced_removal whole a ≡ true
    later a k = h a (or_right (same_id a (id e) && list_any is_acked e.dels) (has_sequenced_removal xs a) k)

    here : (t : Bool) → list_any is_acked e.dels ≡ t → not t || has_sequenced_removal whole (id e) ≡ true
    here true g = h (id e) (rw (same_id-refl (id e), g) refl)
    here false g = refl

    itself : is_known whole e ≡ true
    itself = here (list_any is_acked e.dels) refl

    by : (s t : Bool) → is_insertion_at_or_below min e.ins ≡ t → list_all (is_known whole) (retain_map (λ e. not (is_collectable min e)) (trim_element min) xs) ≡ true
        → list_all (is_known whole) (cond s (cond t (with_universal_insertion e) e ∷ retain_map (λ e. not (is_collectable min e)) (trim_element min) xs)
        (retain_map (λ e. not (is_collectable min e)) (trim_element min) xs)) ≡ true
    by false t c ih = ih
    by true false c ih = rw (itself, ih) refl
    by true true c ih = rw (ap (λ a. not (list_any is_acked e.dels) || has_sequenced_removal whole a) (id-universal min e c) ∙ itself, ih) refl

-- a unit that isn't unremoved is removed
unit-removed : (e : ListElement) → is_plain_unit e ≡ true → is_unremoved e ≡ false → list_any is_acked e.dels ≡ true
unit-removed e h u =
    let p = both (is_settled e) (is_none e.by && is_empty e.props && not (is_of_text e.content)) h in
    let q = all_four (is_acked e.ins) (list_all is_acked e.dels) (is_none e.removal_stage) (is_empty e.pending) p.0 in
    by e.removal_stage q.2 (is_acked e.ins) q.0 u
  where
    same : (dels : List Stamp) → list_any is_acked (dels ++ []) ≡ list_any is_acked dels
    same [] = refl
    same (t ∷ dels) = ap (λ b. is_acked t || b) (same dels)

    by : (m : Option ℕ) → is_none m ≡ true → (i : Bool) → i ≡ true → i && not (list_any is_acked (e.dels ++ removal_stamp m)) ≡ false → list_any is_acked e.dels ≡ true
    by (Some k) n i j f = (cc)
    by None n false j f = (cc)
    by None n true j f = sym (same e.dels) ∙ shown (list_any is_acked (e.dels ++ [])) f
      where
        shown : (t : Bool) → not t ≡ false → t ≡ true
        shown true g = refl
        shown false g = (cc)

known-back : (whole there : List ListElement) (name : ElementId → ElementId) (xs ys : List ListElement) → list_all is_plain_unit xs ≡ true → list_all (is_known whole) xs ≡ true
    → map nameless ys ≡ map nameless xs → map name (map id ys) ≡ map id xs
    → ((a : ElementId) → list_any (same_id a) (map id (filter is_unremoved ys)) ≡ true → list_any (same_id a) (map id there) ≡ true)
    → list_all (λ a. list_any (same_id a) (map id there) || has_sequenced_removal whole (name a)) (map id ys) ≡ true
known-back whole there name [] [] h k e g f = refl
known-back whole there name [] (y ∷ ys) h k e g f = (cc)
known-back whole there name (x ∷ xs) [] h k e g f = (cc)
known-back whole there name (x ∷ xs) (y ∷ ys) h k e g f =
    let p = both (is_plain_unit x) (list_all is_plain_unit xs) h in
    let q = both (is_known whole x) (list_all (is_known whole) xs) k in
    let alike : nameless y ≡ nameless x = (cc) in
    let rest : map nameless ys ≡ map nameless xs = (cc) in
    let named : name (id y) ≡ id x = (cc) in
    let others : map name (map id ys) ≡ map id xs = (cc) in
    rw (
      first (is_unremoved y) refl (sym (ap (λ (n : NamelessElement). is_present is_acked n.stamps) alike)) p.0 q.0 named,
      known-back whole there name xs ys p.1 q.1 rest others (λ a i. f a (later (is_unremoved y) a i)),
    ) refl
  where
    later : (t : Bool) (a : ElementId) → list_any (same_id a) (map id (filter is_unremoved ys)) ≡ true
        → list_any (same_id a) (map id (cond t (y ∷ filter is_unremoved ys) (filter is_unremoved ys))) ≡ true
    later true a i = or_right (same_id a (id y)) (list_any (same_id a) (map id (filter is_unremoved ys))) i
    later false a i = i

    here : (t : Bool) → is_unremoved y ≡ t → t ≡ true → list_any (same_id (id y)) (map id (cond t (y ∷ filter is_unremoved ys) (filter is_unremoved ys))) ≡ true
    here true c d = rw (same_id-refl (id y)) refl
    here false c d = (cc)

    left : (t u : Bool) → t ≡ true → t || u ≡ true
    left true u i = refl
    left false u i = (cc)

    gone : (t : Bool) → t ≡ true → not t || has_sequenced_removal whole (id x) ≡ true → has_sequenced_removal whole (id x) ≡ true
    gone true i j = j
    gone false i j = (cc)

    first : (t : Bool) → is_unremoved y ≡ t → is_unremoved x ≡ is_unremoved y → is_plain_unit x ≡ true → is_known whole x ≡ true → name (id y) ≡ id x
        → list_any (same_id (id y)) (map id there) || has_sequenced_removal whole (name (id y)) ≡ true
    first true c same u i n =
        left (list_any (same_id (id y)) (map id there)) (has_sequenced_removal whole (name (id y))) (f (id y) (here (is_unremoved y) refl c))
    first false c same u i n =
        or_right (list_any (same_id (id y)) (map id there)) (has_sequenced_removal whole (name (id y)))
        (ap (has_sequenced_removal whole) n ∙ gone (list_any is_acked x.dels) (unit-removed x u (same ∙ c)) i)

list-back : (min : ℕ) (list : Sequence) → list_all is_plain_unit (trim_list min list).items ≡ true
    → ReadBack (has_sequenced_removal list.items) (name_at (trim_list min list).items) (trim_list min list).items (run_items 0 (unit_runs (trim_list min list).items))
list-back min list h =
    let xs = (trim_list min list).items in
    let ys = run_items 0 (unit_runs (trim_list min list).items) in
    let same : map nameless ys ≡ map nameless xs = runs-back xs h in
    let names : map (name_at xs) (map id ys) ≡ map id xs = names-back xs 0 xs ys (runs-numbered 0 (unit_runs xs)) same (λ k. ap (λ n. at (λ e. true) n xs) (from-first k)) in
    record {
      names = names;
      shown_names = shown_names-back (name_at xs) xs ys h same names;
      known = known-back list.items (filter is_unremoved ys) (name_at xs) xs ys h (trim-known min list.items list.items (λ a i. i)) same names (λ a i. i);
    }

-- ---- the cells

-- a cell that isn't kept has no value
none-kept : (a b : ElementId) (keep : Cell → Bool) → ((c : Cell) → is_cell a b c ≡ true → keep c ≡ false) → (cells : List Cell) → cell_value a b (filter keep cells) ≡ None
none-kept a b keep h [] = refl
none-kept a b keep h (c ∷ cells) = by (is_cell a b c) (keep c) refl refl (none-kept a b keep h cells)
  where
    by : (s t : Bool) → is_cell a b c ≡ s → keep c ≡ t → cell_value a b (filter keep cells) ≡ None → cell_value a b (cond t (c ∷ filter keep cells) (filter keep cells)) ≡ None
    by s false e g ih = ih
    by true true e g ih = let no : keep c ≡ false = h c e in (cc)
    by false true e g ih = ap (λ i. option_map (λ (d : Cell). d.value) (cond i (Some c) (find (is_cell a b) (filter keep cells)))) e ∙ ih

-- cells on rows and columns that are read back
module _ {no_row no_col : ElementId → Bool} {name_row name_col : ElementId → ElementId} {xs ys us vs : List ListElement}
    (rows : ReadBack no_row name_row xs ys) (cols : ReadBack no_col name_col us vs) (cells : List Cell)
    (none_row : (a b : ElementId) → no_row a ≡ true → cell_value a b cells ≡ None) (none_col : (a b : ElementId) → no_col b ≡ true → cell_value a b cells ≡ None) where
  -- the value of the cell that two names of the lists that are read back stand for
  abbrev value_of : ElementId → ElementId → Option ValueBytes
  value_of a b = cell_value (name_row a) (name_col b) cells

  -- the cells that are read back
  abbrev read_cells : List Cell
  read_cells = named_cells value_of (map id (filter is_unremoved vs)) (map id (filter is_unremoved ys))

  value-back : (a b : ElementId) → list_any (same_id a) (map id (filter is_unremoved ys)) || no_row (name_row a) ≡ true
      → list_any (same_id b) (map id (filter is_unremoved vs)) || no_col (name_col b) ≡ true → cell_value a b read_cells ≡ value_of a b
  value-back a b h g =
      value-named value_of a b (map id (filter is_unremoved vs)) (map id (filter is_unremoved ys))
      ∙ by (list_any (same_id a) (map id (filter is_unremoved ys))) (list_any (same_id b) (map id (filter is_unremoved vs))) h g
    where
      by : (s t : Bool) → s || no_row (name_row a) ≡ true → t || no_col (name_col b) ≡ true → cond (s && t) (value_of a b) None ≡ value_of a b
      by true true i j = refl
      by false t i j = sym (none_row (name_row a) (name_col b) i)
      by true false i j = sym (none_col (name_row a) (name_col b) j)

  shown-placed : cells_of ys vs (all_cells cells [] (filter (seen 0) us) 0 (filter (seen 0) xs)) ≡ read_cells
  shown-placed =
      ap (cells_of ys vs) (grid-names cells (filter (seen 0) us) 0 (filter (seen 0) xs)
      ∙ (ap (λ ns. grid_by (λ a b. cell_value a b cells) ns 0 (map id (filter (seen 0) xs))) (sym cols.shown_names)
      ∙ (ap (grid_by (λ a b. cell_value a b cells) (map name_col (map id (filter is_unremoved vs))) 0) (sym rows.shown_names)
      ∙ grid-renamed (λ a b. cell_value a b cells) name_row name_col (map id (filter is_unremoved vs)) 0 (map id (filter is_unremoved ys)))))
      ∙ grid-placed ys vs value_of (filter is_unremoved vs) (stands-passing is_unremoved vs) 0 (filter is_unremoved ys) (stands-passing is_unremoved ys)

  grid-read : all_cells (cells_of ys vs (all_cells cells [] (filter (seen 0) us) 0 (filter (seen 0) xs))) [] vs 0 ys ≡ all_cells cells [] us 0 xs
  grid-read =
      ap (λ cs. all_cells cs [] vs 0 ys) shown-placed
      ∙ (grid-names read_cells vs 0 ys
      ∙ (grid-same (λ a b. cell_value a b read_cells) value_of (λ a. list_any (same_id a) (map id (filter is_unremoved ys)) || no_row (name_row a))
      (λ b. list_any (same_id b) (map id (filter is_unremoved vs)) || no_col (name_col b)) value-back (map id vs) cols.known 0 (map id ys) rows.known
      ∙ (sym (grid-renamed (λ a b. cell_value a b cells) name_row name_col (map id vs) 0 (map id ys))
      ∙ (ap (λ ns. grid_by (λ a b. cell_value a b cells) ns 0 (map name_row (map id ys))) cols.names
      ∙ (ap (grid_by (λ a b. cell_value a b cells) (map id us) 0) rows.names
      ∙ sym (grid-names cells us 0 xs))))))

-- whether a trimmed document keeps the cell
abbrev is_kept : Document → Cell → Bool
is_kept doc c = not (is_null c.value) && not (has_sequenced_removal doc.rows.items c.row) && not (has_sequenced_removal doc.cols.items c.col)

-- the cells of a summary's document
pub cells-back : (doc : Document) → list_all is_plain_unit (trim doc).rows.items ≡ true → list_all is_plain_unit (trim doc).cols.items ≡ true
    → all_cells (cells_of (run_items 0 (unit_runs (trim doc).rows.items)) (run_items 0 (unit_runs (trim doc).cols.items)) (shown (trim doc)).cells) []
    (run_items 0 (unit_runs (trim doc).cols.items)) 0 (run_items 0 (unit_runs (trim doc).rows.items))
    ≡ all_cells (trim doc).cells [] (trim doc).cols.items 0 (trim doc).rows.items
cells-back doc h g =
    grid-read (list-back doc.minimum doc.rows h) (list-back doc.minimum doc.cols g) (trim doc).cells
    (λ a b i. none-kept a b (is_kept doc) (λ c e. by_row a b c i (both (same_id a c.row) (same_id b c.col) e)) doc.cells)
    (λ a b i. none-kept a b (is_kept doc) (λ c e. by_col a b c i (both (same_id a c.row) (same_id b c.col) e)) doc.cells)
  where
    dropped : (s t u : Bool) → t ≡ true → s && not t && not u ≡ false
    dropped true true u h = refl
    dropped false t u h = refl
    dropped true false u h = (cc)

    dropped_last : (s t u : Bool) → u ≡ true → s && not t && not u ≡ false
    dropped_last true true true h = refl
    dropped_last true false true h = refl
    dropped_last false t u h = refl
    dropped_last s t false h = (cc)

    by_row : (a b : ElementId) (c : Cell) → has_sequenced_removal doc.rows.items a ≡ true → (same_id a c.row ≡ true) × (same_id b c.col ≡ true) → is_kept doc c ≡ false
    by_row a b c i p = dropped (not (is_null c.value)) (has_sequenced_removal doc.rows.items c.row) (has_sequenced_removal doc.cols.items c.col)
        (ap (has_sequenced_removal doc.rows.items) (sym (same_id-eq a c.row p.0)) ∙ i)

    by_col : (a b : ElementId) (c : Cell) → has_sequenced_removal doc.cols.items b ≡ true → (same_id a c.row ≡ true) × (same_id b c.col ≡ true) → is_kept doc c ≡ false
    by_col a b c i p = dropped_last (not (is_null c.value)) (has_sequenced_removal doc.rows.items c.row) (has_sequenced_removal doc.cols.items c.col)
        (ap (has_sequenced_removal doc.cols.items) (sym (same_id-eq b c.col p.1)) ∙ i)
