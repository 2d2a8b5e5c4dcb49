-- What is shown of the document that well-formed messages make is as a valid summary has it: the ends and the order of
-- intervals, the places, the order and the values of cells.
use Rattle.std.proofs.Common.{◌≡◌, ℕ, suc, ◌+◌, ◌≤◌, ◌<◌, true, ◌&&◌, nat_lt, List, [], ◌∷◌, ◌++◌, length, map, find, pos, Option, Some, None, option_map, refl, ◌∙◌, subst, arith}
use Rattle.std.specs.List.{AllByRecursion, list_all}
use Rattle.std.proofs.lemmas.Bool.Decides.{nat_tests}
use Rattle.ft_base.proofs.Booleans.{both}
use Rattle.ft_base.specs.Scan.{at, len, rank}
use Rattle.ft_props.specs.Properties.{ValueBytes}
use Rattle.ft_props.specs.Element.{ElementId, ListElement, has_id, id, is_unremoved, seen}
use Rattle.ft_props.specs.Slide.{end_number}
use Rattle.ft_op.specs.Cells.{Cell, cell_value, is_cell}
use Rattle.ft_op.specs.Intervals.{Interval}
use Rattle.ft_sumdoc.specs.declared.summary.CellRec.{CellRec}
use Rattle.ft_sumdoc.specs.Cells.{is_place_before}
use Rattle.ft_sumdoc.specs.Forms.{is_before_first, rises}
use Rattle.ft_sumdoc.specs.Intervals.{are_shown_ends}
use Rattle.ft_sumdoc.specs.Valid.{IsCell, IsInterval, IsValue, is_cell_before, is_interval_before}
use Rattle.ft_msg.specs.Content.{all_cells, cell_record, interval_record, row_cells}
use Rattle.ft_laws_agreement.specs.Sequencing.{Each, are_ends_in}
use Rattle.ft_laws_agreement.specs.Trimming.{are_distinct_elements, has_ends_on, is_end_on}
use Rattle.ft_laws_agreement.proofs.SettledNames.{at-rank}
use Rattle.ft_laws_summaries.proofs.Lists.{each-found}
use Rattle.ft_laws_summaries.proofs.OrderedEnds.{AreInOrder, at-below, rank-leads}
use Rattle.ft_laws_summaries.proofs.SummaryIntervals.{distinct-once, plain-rank}
use Rattle.ft_laws_summaries.proofs.SummaryLists.{is_plain}
use Rattle.ft_laws_summaries.proofs.ValidIntervals.{IsValidInterval, is_before, rises-map}

-- ---- intervals

-- two places in order
places-shown : (p q n : ℕ) → p ≤ q → q < n → are_shown_ends n (record { start = pos p; end = pos q }) ≡ true
places-shown p q n l h = grind (arith, nat_tests)

module _ (xs : List ListElement) (plain : list_all is_plain xs ≡ true) (distinct : are_distinct_elements xs ≡ true) where
  -- an end is the place of an unremoved element
  end-below : (a : ElementId) → is_end_on xs (Some a) ≡ true → rank (has_id a) is_unremoved xs < len is_unremoved xs
  end-below a h = by (at is_unremoved (rank (has_id a) is_unremoved xs) xs) refl (at-rank is_unremoved a xs (distinct-once xs a distinct) h)
    where
      by : (o : Option ListElement) → at is_unremoved (rank (has_id a) is_unremoved xs) xs ≡ o → option_map id o ≡ Some a
          → rank (has_id a) is_unremoved xs < len is_unremoved xs
      by None g k = (cc)
      by (Some e) g k = at-below is_unremoved (rank (has_id a) is_unremoved xs) xs e g

  ends-shown : (a b : Option ElementId) → are_ends_in xs a b ≡ true → AreInOrder xs a b → is_end_on xs b ≡ true
      → are_shown_ends (len is_unremoved xs) (record { start = end_number 0 xs a; end = end_number 0 xs b }) ≡ true
  ends-shown None None t o h = refl
  ends-shown (Some a) (Some b) t o h =
      let low = rank-leads is_unremoved a b xs o in
      let high = end-below b h in
      let first = plain-rank (has_id a) xs plain in
      let second = plain-rank (has_id b) xs plain in
      places-shown (rank (has_id a) (seen 0) xs) (rank (has_id b) (seen 0) xs) (len is_unremoved xs) (omega (arith, low, first, second)) (omega (arith, high, second))
  ends-shown None (Some b) t o h = (cc)
  ends-shown (Some a) None t o h = (cc)

  pub intervals-shown : (is : List Interval) → Each (IsValidInterval xs) is → list_all (has_ends_on xs) is ≡ true
      → AllByRecursion (IsInterval (len is_unremoved xs)) (map (interval_record 0 xs) is)
  intervals-shown [] v h = tt
  intervals-shown (i ∷ is) v h =
      let p = both (has_ends_on xs i) (list_all (has_ends_on xs) is) h in
      let end = (both (is_end_on xs i.start) (is_end_on xs i.end) p.0).1 in
      ((ends-shown i.start i.end v.0.there v.0.order end, v.0.props), intervals-shown is v.1 p.1)

  pub intervals-rise : (is : List Interval) → rises is_before is ≡ true → rises is_interval_before (map (interval_record 0 xs) is) ≡ true
  intervals-rise is h = rises-map (interval_record 0 xs) is_before is_interval_before (λ i j. refl) is ∙ h

-- ---- cells

all-joined : {A : Type 0} (P : A → Type 0) (xs ys : List A) → AllByRecursion P xs → AllByRecursion P ys → AllByRecursion P (xs ++ ys)
all-joined P [] ys h g = g
all-joined P (x ∷ xs) ys h g = (h.0, all-joined P xs ys h.1 g)

module _ (cells : List Cell) where
  value-valid : (row col : ElementId) (v : ValueBytes) → Each (λ (c : Cell). IsValue c.value) cells → cell_value row col cells ≡ Some v → IsValue v
  value-valid row col v h g = by (find (is_cell row col) cells) refl g
    where
      by : (o : Option Cell) → find (is_cell row col) cells ≡ o → option_map (λ (c : Cell). c.value) o ≡ Some v → IsValue v
      by None e k = (cc)
      by (Some c) e k =
          let same : c.value ≡ v = (cc) in
          subst IsValue same (each-found (λ (a : Cell). IsValue a.value) (is_cell row col) cells c e h).0

  row-valid : (rows cols i j : ℕ) (row : ElementId) (ys : List ListElement) → i < rows → j + length ys ≤ cols → Each (λ (c : Cell). IsValue c.value) cells
      → AllByRecursion (IsCell rows cols) (row_cells cells [] i row j ys)
  row-valid rows cols i j row [] l k h = tt
  row-valid rows cols i j row (y ∷ ys) l k h = by (cell_value row (id y) cells) refl (row-valid rows cols i (j + 1) row ys l (omega (arith, k)) h)
    where
      here : i < rows → j + suc (length ys) ≤ cols → nat_lt i rows && nat_lt j cols ≡ true
      here a b = grind (arith, nat_tests)

      by : (o : Option ValueBytes) → cell_value row (id y) cells ≡ o → AllByRecursion (IsCell rows cols) (row_cells cells [] i row (j + 1) ys)
          → AllByRecursion (IsCell rows cols) (cell_record i j o ++ row_cells cells [] i row (j + 1) ys)
      by None e ih = ih
      by (Some v) e ih = ((here l k, value-valid row (id y) v h e), ih)

  pub cells-valid : (rows cols i : ℕ) (xs ys : List ListElement) → i + length xs ≤ rows → length ys ≤ cols → Each (λ (c : Cell). IsValue c.value) cells
      → AllByRecursion (IsCell rows cols) (all_cells cells [] ys i xs)
  cells-valid rows cols i [] ys l k h = tt
  cells-valid rows cols i (x ∷ xs) ys l k h =
      all-joined (IsCell rows cols) (row_cells cells [] i (id x) 0 ys) (all_cells cells [] ys (i + 1) xs)
      (row-valid rows cols i 0 (id x) ys (omega (arith, l)) (omega (arith, k)) h) (cells-valid rows cols (i + 1) xs ys (omega (arith, l)) k h)

  -- a cell of row i from column j on, or of a later row
  abbrev IsInRow : ℕ → ℕ → CellRec → Type 0
  IsInRow i j c = (c.row ≡ i) × (j ≤ c.col)

  row-columns : (i j : ℕ) (row : ElementId) (ys : List ListElement) → AllByRecursion (IsInRow i j) (row_cells cells [] i row j ys)
  row-columns i j row [] = tt
  row-columns i j row (y ∷ ys) = by (cell_value row (id y) cells) (more (row_cells cells [] i row (j + 1) ys) (row-columns i (j + 1) row ys))
    where
      more : (cs : List CellRec) → AllByRecursion (IsInRow i (j + 1)) cs → AllByRecursion (IsInRow i j) cs
      more [] h = tt
      more (c ∷ cs) h = ((h.0.0, let l = h.0.1 in omega (arith, l)), more cs h.1)

      by : (o : Option ValueBytes) → AllByRecursion (IsInRow i j) (row_cells cells [] i row (j + 1) ys)
          → AllByRecursion (IsInRow i j) (cell_record i j o ++ row_cells cells [] i row (j + 1) ys)
      by None ih = ih
      by (Some v) ih = ((refl, omega arith), ih)

  later-rows : (i : ℕ) (xs ys : List ListElement) → AllByRecursion (λ (c : CellRec). i ≤ c.row) (all_cells cells [] ys i xs)
  later-rows i [] ys = tt
  later-rows i (x ∷ xs) ys =
      all-joined (λ (c : CellRec). i ≤ c.row) (row_cells cells [] i (id x) 0 ys) (all_cells cells [] ys (i + 1) xs)
      (here (row_cells cells [] i (id x) 0 ys) (row-columns i 0 (id x) ys)) (more (all_cells cells [] ys (i + 1) xs) (later-rows (i + 1) xs ys))
    where
      here : (cs : List CellRec) → AllByRecursion (IsInRow i 0) cs → AllByRecursion (λ (c : CellRec). i ≤ c.row) cs
      here [] h = tt
      here (c ∷ cs) h = (let e = h.0.0 in omega (arith, e), here cs h.1)

      more : (cs : List CellRec) → AllByRecursion (λ (c : CellRec). i + 1 ≤ c.row) cs → AllByRecursion (λ (c : CellRec). i ≤ c.row) cs
      more [] h = tt
      more (c ∷ cs) h = (let l = h.0 in omega (arith, l), more cs h.1)

  first-in_row : (i j : ℕ) (v : ValueBytes) (cs : List CellRec) → AllByRecursion (IsInRow i (j + 1)) cs
      → is_before_first is_cell_before (record { row = i; col = j; value = v }) cs ≡ true
  first-in_row i j v [] h = refl
  first-in_row i j v (c ∷ cs) h = before c.row c.col h.0.0 h.0.1
    where
      before : (r k : ℕ) → r ≡ i → j + 1 ≤ k → is_place_before i j r k ≡ true
      before r k e l = grind (arith, nat_tests)

  row-rises : (i j : ℕ) (row : ElementId) (ys : List ListElement) → rises is_cell_before (row_cells cells [] i row j ys) ≡ true
  row-rises i j row [] = refl
  row-rises i j row (y ∷ ys) = by (cell_value row (id y) cells) (row-rises i (j + 1) row ys)
    where
      by : (o : Option ValueBytes) → rises is_cell_before (row_cells cells [] i row (j + 1) ys) ≡ true
          → rises is_cell_before (cell_record i j o ++ row_cells cells [] i row (j + 1) ys) ≡ true
      by None ih = ih
      by (Some v) ih = rw (first-in_row i j v (row_cells cells [] i row (j + 1) ys) (row-columns i (j + 1) row ys), ih) refl

  -- cells of a row before those of later rows
  rows-joined : (i : ℕ) (cs ds : List CellRec) → AllByRecursion (IsInRow i 0) cs → AllByRecursion (λ (d : CellRec). i + 1 ≤ d.row) ds → rises is_cell_before cs ≡ true
      → rises is_cell_before ds ≡ true → rises is_cell_before (cs ++ ds) ≡ true
  rows-joined i [] ds h g a b = b
  rows-joined i (c ∷ cs) ds h g a b =
      let p = both (is_before_first is_cell_before c cs) (rises is_cell_before cs) a in
      rw (first cs ds p.0 g, rows-joined i cs ds h.1 g p.1 b) refl
    where
      before : (r k s m : ℕ) → r ≡ i → i + 1 ≤ s → is_place_before r k s m ≡ true
      before r k s m e l = grind (arith, nat_tests)

      first : (es fs : List CellRec) → is_before_first is_cell_before c es ≡ true → AllByRecursion (λ (d : CellRec). i + 1 ≤ d.row) fs
          → is_before_first is_cell_before c (es ++ fs) ≡ true
      first (e ∷ es) fs q l = q
      first [] [] q l = refl
      first [] (f ∷ fs) q l = before c.row c.col f.row f.col h.0.0 l.0

  pub cells-rise : (i : ℕ) (xs ys : List ListElement) → rises is_cell_before (all_cells cells [] ys i xs) ≡ true
  cells-rise i [] ys = refl
  cells-rise i (x ∷ xs) ys =
      rows-joined i (row_cells cells [] i (id x) 0 ys) (all_cells cells [] ys (i + 1) xs) (row-columns i 0 (id x) ys) (later-rows (i + 1) xs ys)
      (row-rises i 0 (id x) ys) (cells-rise (i + 1) xs ys)
