-- The first value at each place of a row is what its definition shows.
use Rattle.std.proofs.Common.{◌≡◌, ℕ, ◌+◌, ◌<◌, Bool, true, false, cond, ◌&&◌, List, [], ◌∷◌, ◌++◌, Option, Some, None, refl, sym, ◌∙◌, ap, arith, append_assoc, filter, find, map, option_map}
use Rattle.std.proofs.lemmas.Bool.Decides.{nat_tests}
use Rattle.ft_props.specs.Element.{ElementId, ListElement, id, same_id, seen}
use Rattle.ft_props.specs.Properties.{ValueBytes}
use Rattle.ft_op.specs.Cells.{Cell, is_cell}
use Rattle.ft_sumdoc.specs.declared.summary.CellRec.{CellRec}
use Rattle.ft_msg.specs.Content.{all_cells, cell_record, row_cells, stage_view}
use Rattle.ft_plain_lists.specs.PlacedCells.{first_records, is_last, placed_at, placed_cells}

-- the last place, if there was one, is below j
abbrev pub IsBelow : Option ℕ → ℕ → Type 0
IsBelow None j = Unit {0}
IsBelow (Some k) j = k < j

not_last : (last : Option ℕ) (j : ℕ) → IsBelow last j → is_last last j ≡ false
not_last None j h = refl
not_last (Some k) j h = grind (arith, nat_tests)

below_next : (last : Option ℕ) (j : ℕ) → IsBelow last j → IsBelow last (j + 1)
below_next None j h = tt
below_next (Some k) j h = omega arith

same_place : (j : ℕ) → is_last (Some j) j ≡ true
same_place j = grind (arith, nat_tests)

-- further values at the last place are left out
left_out : (i j : ℕ) (cells : List Cell) (rest : List (ℕ × ValueBytes)) → first_records i (Some j) (map (placed_at j) cells ++ rest) ≡ first_records i (Some j) rest
left_out i j [] rest = refl
left_out i j (cell ∷ cells) rest =
    ap (λ b. cond b [] (record { row = i; col = j; value = cell.value } ∷ []) ++ first_records i (Some j) (map (placed_at j) cells ++ rest)) (same_place j)
    ∙ left_out i j cells rest

-- of the cells that pass, the first one is shown
module _ (p : Cell → Bool) (i j : ℕ) (rest : List (ℕ × ValueBytes)) (shown : List CellRec)
    (others : (l : Option ℕ) → IsBelow l (j + 1) → first_records i l rest ≡ shown) where
  column : (last : Option ℕ) → IsBelow last j → (cells : List Cell)
      → first_records i last (map (placed_at j) (filter p cells) ++ rest) ≡ cell_record i j (option_map (λ cell. cell.value) (find p cells)) ++ shown
  column last h [] = others last (below_next last j h)
  column last h (cell ∷ cells) = step (p cell) (column last h cells)
    where
      here : first_records i last (map (placed_at j) (cell ∷ filter p cells) ++ rest) ≡ record { row = i; col = j; value = cell.value } ∷ shown
      here =
          ap (λ b. cond b [] (record { row = i; col = j; value = cell.value } ∷ []) ++ first_records i (Some j) (map (placed_at j) (filter p cells) ++ rest)) (not_last last j h)
          ∙ ap (λ cs. record { row = i; col = j; value = cell.value } ∷ cs) (left_out i j (filter p cells) rest ∙ others (Some j) (omega arith))

      step : (b : Bool) → first_records i last (map (placed_at j) (filter p cells) ++ rest) ≡ cell_record i j (option_map (λ c. c.value) (find p cells)) ++ shown
          → first_records i last (map (placed_at j) (cond b (cell ∷ filter p cells) (filter p cells)) ++ rest)
          ≡ cell_record i j (option_map (λ c. c.value) (cond b (Some cell) (find p cells))) ++ shown
      step true later = here
      step false later = later

row-from : (cells : List Cell) (i : ℕ) (row : ElementId) (j : ℕ) (cols : List ListElement) (last : Option ℕ) → IsBelow last j
    → first_records i last (placed_cells cells row j cols) ≡ row_cells cells [] i row j cols
row-from cells i row j [] last h = refl
row-from cells i row j (col ∷ cols) last h =
    column (is_cell row (id col)) i j (placed_cells cells row (j + 1) cols) (row_cells cells [] i row (j + 1) cols)
    (λ l below. row-from cells i row (j + 1) cols l below) last h cells

-- the values of a row, without those behind another at their place, are its shown cells
pub row-placed : (cells : List Cell) (i : ℕ) (row : ElementId) (cols : List ListElement)
    → first_records i None (placed_cells cells row 0 cols) ≡ row_cells cells [] i row 0 cols
row-placed cells i row cols = row-from cells i row 0 cols None tt

-- the cells of a column that belong to a row
filter-both : (row col : ElementId) (cells : List Cell) → filter (λ cell. same_id row cell.row) (filter (λ cell. same_id col cell.col) cells) ≡ filter (is_cell row col) cells
filter-both row col [] = refl
filter-both row col (cell ∷ cells) = step (same_id row cell.row) (same_id col cell.col) refl (filter-both row col cells)
  where
    step : (a b : Bool) → same_id row cell.row ≡ a → filter (λ c. same_id row c.row) (filter (λ c. same_id col c.col) cells) ≡ filter (is_cell row col) cells
        → filter (λ c. same_id row c.row) (cond b (cell ∷ filter (λ c. same_id col c.col) cells) (filter (λ c. same_id col c.col) cells))
        ≡ cond (a && b) (cell ∷ filter (is_cell row col) cells) (filter (is_cell row col) cells)
    step true true e ih =
        ap (λ t. cond t (cell ∷ filter (λ c. same_id row c.row) (filter (λ c. same_id col c.col) cells)) (filter (λ c. same_id row c.row) (filter (λ c. same_id col c.col) cells))) e
        ∙ ap (λ cs. cell ∷ cs) ih
    step false true e ih =
        ap (λ t. cond t (cell ∷ filter (λ c. same_id row c.row) (filter (λ c. same_id col c.col) cells)) (filter (λ c. same_id row c.row) (filter (λ c. same_id col c.col) cells))) e
        ∙ ih
    step true false e ih = ih
    step false false e ih = ih

-- ---- the steps of the passes over the columns and the rows

module _ {A : Type 0} (of : ℕ → List ListElement → List A) (stage : ℕ) (e : ListElement) (xs ys : List ListElement) (i k : ℕ) (old new all : List A)
    (at_front : ys ≡ e ∷ xs) (before : old ++ of i (stage_view stage ys) ≡ all) where
  -- what the element and the rest add
  there : (b : Bool) → seen stage e ≡ b → old ++ of i (cond b (e ∷ stage_view stage xs) (stage_view stage xs)) ≡ all
  there b test = ap (λ t. old ++ of i (cond t (e ∷ stage_view stage xs) (stage_view stage xs))) (sym test) ∙ ap (λ zs. old ++ of i (stage_view stage zs)) (sym at_front) ∙ before

  -- one that isn't seen adds nothing
  pub step-unseen : false ≡ seen stage e → k ≡ i → new ≡ old → new ++ of k (stage_view stage xs) ≡ all
  step-unseen test place same = ap (λ zs. zs ++ of k (stage_view stage xs)) same ∙ ap (λ n. old ++ of n (stage_view stage xs)) place ∙ there false (sym test)

  -- one that is seen adds its part
  step-seen : (part : List A) → true ≡ seen stage e → k ≡ i + 1 → of i (e ∷ stage_view stage xs) ≡ part ++ of (i + 1) (stage_view stage xs) → new ≡ old ++ part
      → new ++ of k (stage_view stage xs) ≡ all
  step-seen part test place split added =
      ap (λ zs. zs ++ of k (stage_view stage xs)) added ∙ ap (λ n. (old ++ part) ++ of n (stage_view stage xs)) place
      ∙ append_assoc old part (of (i + 1) (stage_view stage xs)) ∙ ap (λ zs. old ++ zs) (sym split) ∙ there true (sym test)

-- a column that is seen adds those of its cells that are of the row
pub column-seen : (cells : List Cell) (x : ElementId) (stage : ℕ) (e : ListElement) (xs ys : List ListElement) (j k : ℕ) (old new all : List (ℕ × ValueBytes))
    (column : List Cell) → ys ≡ e ∷ xs → old ++ placed_cells cells x j (stage_view stage ys) ≡ all → true ≡ seen stage e → k ≡ j + 1
    → column ≡ filter (λ cell. same_id (id e) cell.col) cells → new ≡ old ++ map (placed_at j) (filter (λ cell. same_id x cell.row) column)
    → new ++ placed_cells cells x k (stage_view stage xs) ≡ all
column-seen cells x stage e xs ys j k old new all column at_front before test place is added =
    step-seen (placed_cells cells x) stage e xs ys j k old new all at_front before (map (placed_at j) (filter (is_cell x (id e)) cells)) test place refl
    (added ∙ ap (λ cs. old ++ map (placed_at j) (filter (λ cell. same_id x cell.row) cs)) is ∙ ap (λ cs. old ++ map (placed_at j) cs) (filter-both x (id e) cells))

-- a row that is seen adds its shown cells
pub row-seen : (cells : List Cell) (cols : List ListElement) (stage : ℕ) (e : ListElement) (xs ys : List ListElement) (i k : ℕ) (old new all : List CellRec)
    (values : List (ℕ × ValueBytes)) → ys ≡ e ∷ xs → old ++ all_cells cells [] cols i (stage_view stage ys) ≡ all → true ≡ seen stage e → k ≡ i + 1
    → values ≡ placed_cells cells (id e) 0 cols → new ≡ old ++ first_records i None values
    → new ++ all_cells cells [] cols k (stage_view stage xs) ≡ all
row-seen cells cols stage e xs ys i k old new all values at_front before test place is added =
    step-seen (all_cells cells [] cols) stage e xs ys i k old new all at_front before (row_cells cells [] i (id e) 0 cols) test place refl
    (added ∙ ap (λ vs. old ++ first_records i None vs) is ∙ ap (λ cs. old ++ cs) (row-placed cells i (id e) cols))
