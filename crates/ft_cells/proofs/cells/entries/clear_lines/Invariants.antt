use Rattle.std.proofs.Common.{◌≡◌, ℕ, false}
use Rattle.std.specs.BTreeMap.{btree_map_len}
use Rattle.ft_cells.specs.CellTables.{is_among}
use Rattle.ft_cells.specs.Indexed.{IsColumned, table_of}
use Rattle.ft_cells.proofs.cells.entries.clear_lines.Given as goal

abbrev pub invariant-loop-place : goal.invariant-loop-place
invariant-loop-place l = record {
  others : (r c : ℕ) → is_among l.row l.count r ≡ false → table_of l.cells r c ≡ table_of l.initial.cells r c;
  columned : IsColumned (table_of l.cells) l.columns;
}

abbrev pub decreases-loop-place : goal.decreases-loop-place
decreases-loop-place l = btree_map_len l.cells
