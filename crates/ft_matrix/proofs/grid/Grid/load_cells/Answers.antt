use Rattle.std.proofs.Common.{ap}
use Rattle.ft_block.specs.declared.leaves.LenView.TheVariants.{Stage}
use Rattle.ft_cells.specs.CellTables.{cell_at}
use Rattle.ft_perm.specs.Vectors.{seen_handles}
use Rattle.ft_matrix.specs.declared.grid.Grid.{Grid}
use Rattle.ft_matrix.specs.Loaded.{loaded_cells}
use Rattle.ft_matrix.proofs.LoadedCells.{loads-all, loads-next}
use Rattle.ft_matrix.proofs.grid.Grid.load_cells.Goals as goal

pub loop-cell-preserved : goal.loop-cell-preserved
loop-cell-preserved c = record {
  table = loads-next c.args.self.now c.loop-cell.self c.load_cell.new.cells
      (loaded_cells (seen_handles (Stage 0) c.args.self.now.rows.tree) (seen_handles (Stage 0) c.args.self.now.cols.tree) c.args.cells.now (cell_at c.args.self.now.cells))
      c.args.cells.now c.loop-cell.cell-index c.cell-item.result c.cell-item.is c.loop-cell-test.true c.loop-cell.invariant.rest
      c.in_ok-load_cell.ensures c.loop-cell.invariant.table;
  rest = ap (λ (g : Grid). record g { cells = c.load_cell.new.cells }) c.loop-cell.invariant.rest;
}

pub returns : goal.returns
returns c = loads-all c.args.self.now c.loop-cell.self c.args.cells.now c.loop-cell.cell-index c.loop-cell-test.false c.loop-cell.invariant.rest c.loop-cell.invariant.table
