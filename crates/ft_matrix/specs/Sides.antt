-- The rows or the columns of a grid, as a splice is for the ones or the others. No public clause cites this module.
use Rattle.std.specs.Prelude.{ℕ, ◌+◌}
use Rattle.std.specs.Borrow.{Lends, Fml, MutBor}
use Rattle.ft_op.specs.declared.operations.Target.{Target}
use Rattle.ft_op.specs.declared.operations.Target.TheVariants.{Rows, Cols}
use Rattle.ft_perm.specs.Vectors.{VectorState}
use Rattle.ft_perm.specs.contracts.vectors.Vector as vector
use Rattle.ft_matrix.specs.declared.grid.Grid.{Grid}
use Rattle.ft_matrix.specs.contracts.grid.Grid as grid

-- the rows, or the columns
abbrev pub units_at : Target → Grid → VectorState
units_at Rows g = g.rows
units_at Cols g = g.cols

-- the grid with others
abbrev pub with_units_at : Target → Grid → VectorState → Grid
with_units_at Rows g v = record g { rows = v }
with_units_at Cols g v = record g { cols = v }

-- the grid where so many more were sequenced
abbrev pub with_more_made : Target → ℕ → Grid → Grid
with_more_made Rows n g = record g { rows_made = g.rows_made + n }
with_more_made Cols n g = record g { cols_made = g.cols_made + n }

-- the grid has the last value written
abbrev pub lends_units : Target → MutBor Grid → MutBor VectorState → Fml
lends_units target s r = Lends grid.the_row vector.the_row s r (with_units_at target s.now)
