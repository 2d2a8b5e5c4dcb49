-- The cells of a summary: their form and their order.
use Rattle.std.specs.Prelude.{ℕ, Bool, not, is_some, ◌&&◌, ◌||◌, nat_eq, nat_lt, List, [], ◌∷◌, Option, None}
use Rattle.serde_json.specs.Data.{Data}
use Rattle.serde_json.specs.Find.{as_null}
use Rattle.ft_json.specs.Reading.{count, items}
use Rattle.ft_sumdoc.specs.Forms.{◌>>=◌, each_of, rises, where_true}

-- a cell as an array gives it, its value not yet read
pub record GivenCell : Type 0 where
  pub row : ℕ
  pub col : ℕ
  pub value : Data

-- whether the first row and column stand before the second
abbrev pub is_place_before : ℕ → ℕ → ℕ → ℕ → Bool
is_place_before row col other_row other_col = nat_lt row other_row || (nat_eq row other_row && nat_lt col other_col)

abbrev pub is_given_cell_before : GivenCell → GivenCell → Bool
is_given_cell_before c d = is_place_before c.row c.col d.row d.col

-- the cell of three values: row, column, a value that isn't null
abbrev pub cell_of_three : ℕ → ℕ → List Data → Option GivenCell
cell_of_three rows cols (r ∷ c ∷ value ∷ []) = do
  row ← count r
  col ← count c
  where_true (nat_lt row rows && nat_lt col cols && not (is_some (as_null value))) (record { row = row; col = col; value = value })
cell_of_three rows cols _ = None

-- the cell that a value is, of so many rows and columns
abbrev pub cell_form : ℕ → ℕ → Data → Option GivenCell
cell_form rows cols d = items d >>= cell_of_three rows cols

-- the cells that an array is, rising by row and column
abbrev pub cells_form : ℕ → ℕ → Data → Option (List GivenCell)
cells_form rows cols d = do
  ds ← items d
  cs ← each_of (cell_form rows cols) ds
  where_true (rises is_given_cell_before cs) cs
