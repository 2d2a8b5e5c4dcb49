use Rattle.std.proofs.Common.{◌≡◌, ℕ, drop}
use Rattle.ft_block.specs.declared.leaves.LenView.TheVariants.{Stage}
use Rattle.ft_cells.specs.CellTables.{cell_at}
use Rattle.ft_perm.specs.Vectors.{seen_handles}
use Rattle.ft_matrix.specs.Loaded.{loaded_cells}
use Rattle.ft_matrix.proofs.grid.Grid.load_cells.Given as goal

abbrev pub invariant-loop-cell : goal.invariant-loop-cell
invariant-loop-cell l =
    let old = l.initial.self in
    record {
      table : (r c : ℕ) → loaded_cells (seen_handles (Stage 0) old.rows.tree) (seen_handles (Stage 0) old.cols.tree) (drop l.cell-index l.cells) (cell_at l.self.cells) r c
          ≡ loaded_cells (seen_handles (Stage 0) old.rows.tree) (seen_handles (Stage 0) old.cols.tree) l.cells (cell_at old.cells) r c;
      rest : l.self ≡ record old { cells = l.self.cells };
    }
