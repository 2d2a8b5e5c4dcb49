-- Placed values as the definitions have them.
use Rattle.std.specs.Prelude.{ℕ}
use Rattle.ft_props.specs.Properties.{ValueBytes}
use Rattle.std.specs.Borrow.{Bor}
use Rattle.ft_op.specs.Cells.{Cell}
use Rattle.ft_plain_lists.specs.declared.cells.placed.PlacedValue.{PlacedValue}

-- the place and the value
abbrev pub placed_value : PlacedValue → ℕ × ValueBytes
placed_value v = (v.col, v.value.now)

-- the cell behind a reference
abbrev pub cell_behind : Bor Cell → Cell
cell_behind cell = cell.now
