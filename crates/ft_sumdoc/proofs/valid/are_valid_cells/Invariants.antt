use Rattle.std.proofs.Common.{◌↔◌, drop}
use Rattle.std.specs.List.{AllByRecursion}
use Rattle.ft_sumdoc.specs.Valid.{IsCell}
use Rattle.ft_sumdoc.proofs.valid.are_valid_cells.Given as goal

-- the cells that are left decide
abbrev pub invariant-loop-cell : goal.invariant-loop-cell
invariant-loop-cell l = AllByRecursion (IsCell l.rows l.cols) (drop l.cell-index l.cells) ↔ AllByRecursion (IsCell l.rows l.cols) l.cells
