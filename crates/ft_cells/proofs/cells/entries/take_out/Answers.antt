use Rattle.std.proofs.Common.{refl, None}
use Rattle.std.specs.BTreeMap as tree
use Rattle.ft_cells.specs.CellTables.{crossing, crossing_cmp, empty_cell}
use Rattle.ft_cells.specs.Indexed.{table_of}
use Rattle.ft_cells.proofs.CellEntries.{changed, place_left}
use Rattle.ft_cells.proofs.cells.entries.take_out.Goals as goal

pub returns-clause-cells : goal.returns-clause-cells
returns-clause-cells c = λ r d.
    changed (table_of c.args.cells.now) c.args.row c.args.col r d (λ _. empty_cell) (tree.get crossing_cmp c.args.cells.now (crossing r d)) _ None
    (c.remove.ensures.updates.0 (crossing r d)) refl refl

pub returns-clause-columns : goal.returns-clause-columns
returns-clause-columns c = λ r d. place_left c.args.row c.args.col r d _ _ (c.remove-5.ensures.updates.0 (crossing d r))
