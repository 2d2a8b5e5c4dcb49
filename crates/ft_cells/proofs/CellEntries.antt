-- The entries of cells: what a table of them holds after one entry was written or taken out.
use Rattle.std.proofs.Common.{◌≡◌, ℕ, Bool, true, false, cond, ◌&&◌, not, nat_eq, List, Option, Some, None, refl, sym, ◌∙◌, ap, arith}
use Rattle.std.specs.Ordering.{is_eq}
use Rattle.std.specs.BTreeMap as tree
use Rattle.std.specs.BTreeMap.{BTreeMap, is_at}
use Rattle.std.specs.Map.{lookup}
use Rattle.std.specs.Option.{unwrap_or}
use Rattle.std.proofs.lemmas.Bool.Decides.{nat_tests}
use Rattle.ft_cells.specs.declared.crossings.Crossing.{Crossing}
use Rattle.ft_cells.specs.CellTables.{CellState, CellTable, cell_in, changed_cell, crossing, crossing_cmp, empty_cell}
use Rattle.ft_cells.specs.Indexed.{table_of}

-- places that compare equal are the same
pub same_place : (row col r c : ℕ) → is_eq (crossing_cmp (crossing row col) (crossing r c)) ≡ (nat_eq r row && nat_eq c col)
same_place row col r c = grind (arith, nat_tests)

same_row : (row col r c : ℕ) → (nat_eq r row && nat_eq c col) ≡ true → r ≡ row
same_row row col r c h = grind (arith, nat_tests)

same_col : (row col r c : ℕ) → (nat_eq r row && nat_eq c col) ≡ true → c ≡ col
same_col row col r c h = grind (arith, nat_tests)

pub same_crossing : (row col r c : ℕ) → (nat_eq r row && nat_eq c col) ≡ true → crossing row col ≡ crossing r c
same_crossing row col r c h = ap (λ i. crossing i col) (sym (same_row row col r c h)) ∙ ap (λ j. crossing r j) (sym (same_col row col r c h))

pub changed : (table : CellTable) (row col r c : ℕ) (f : CellState → CellState) (old new written : Option CellState)
    → new ≡ cond (is_eq (crossing_cmp (crossing row col) (crossing r c))) written old
    → cell_in old ≡ table r c
    → cell_in written ≡ f (table row col)
    → cell_in new ≡ changed_cell row col f table r c
changed table row col r c f old new written is before there =
    ap cell_in (is ∙ ap (λ b. cond b written old) (same_place row col r c)) ∙ step (nat_eq r row && nat_eq c col) refl
  where
    step : (b : Bool) → (nat_eq r row && nat_eq c col) ≡ b → cell_in (cond b written old) ≡ cond b (f (table r c)) (table r c)
    step true e = there ∙ ap f (ap (λ i. table i col) (sym (same_row row col r c e)) ∙ ap (λ j. table r j) (sym (same_col row col r c e)))
    step false e = before

-- the entries are those of before with this cell at the place
pub changed_entries : (m : BTreeMap Crossing CellState) (row col r c : ℕ) (f : CellState → CellState)
    (written new : List (Crossing × CellState)) (cell : CellState)
    → new ≡ written
    → lookup (is_at (crossing_cmp (crossing r c))) written ≡ cond (is_at (crossing_cmp (crossing row col)) (crossing r c)) (Some cell) (tree.get crossing_cmp m (crossing r c))
    → cell ≡ f (table_of m row col)
    → cell_in (lookup (is_at (crossing_cmp (crossing r c))) new) ≡ changed_cell row col f (table_of m) r c
changed_entries m row col r c f written new cell same is there =
    ap (λ es. cell_in (lookup (is_at (crossing_cmp (crossing r c))) es)) same
    ∙ changed (table_of m) row col r c f (tree.get crossing_cmp m (crossing r c)) _ (Some cell) is refl there

-- the cell was written at the place as it was
pub same_entries : (m : BTreeMap Crossing CellState) (row col r c : ℕ) (written new : List (Crossing × CellState)) (cell : CellState)
    → new ≡ written
    → lookup (is_at (crossing_cmp (crossing r c))) written ≡ cond (is_at (crossing_cmp (crossing row col)) (crossing r c)) (Some cell) (tree.get crossing_cmp m (crossing r c))
    → cell ≡ table_of m row col
    → cell_in (lookup (is_at (crossing_cmp (crossing r c))) new) ≡ table_of m r c
same_entries m row col r c written new cell same is there = changed_entries m row col r c (λ x. x) written new cell same is there ∙ step (nat_eq r row && nat_eq c col)
  where
    step : (b : Bool) → cond b (table_of m r c) (table_of m r c) ≡ table_of m r c
    step true = refl
    step false = refl

-- the cell of an entry, or a new one
pub or_new : (old entry : Option CellState) (fresh here : CellState) → fresh ≡ empty_cell → entry ≡ old → here ≡ unwrap_or entry fresh → here ≡ cell_in old
or_new old entry fresh here none is read = read ∙ ap (λ o. unwrap_or o fresh) is ∙ step old
  where
    step : (o : Option CellState) → unwrap_or o fresh ≡ cell_in o
    step (Some cell) = refl
    step None = none

-- ---- a place that is taken out

pub place_left : (row col r c : ℕ) (old new : Bool) → new ≡ cond (is_eq (crossing_cmp (crossing col row) (crossing c r))) false old
    → new ≡ (old && not (nat_eq r row && nat_eq c col))
place_left row col r c old new is = is ∙ ap (λ b. cond b false old) (same_place col row c r) ∙ step (nat_eq c col) (nat_eq r row) old
  where
    step : (x y z : Bool) → cond (x && y) false z ≡ (z && not (y && x))
    step true true true = refl
    step true true false = refl
    step true false true = refl
    step true false false = refl
    step false true true = refl
    step false true false = refl
    step false false true = refl
    step false false false = refl
