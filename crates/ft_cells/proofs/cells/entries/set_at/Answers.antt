use Rattle.std.proofs.Common.{rules, ◌∙◌, ap}
use Rattle.std.specs.BTreeMap as tree
use Rattle.ft_cells.specs.CellTables.{crossing, crossing_cmp, with_acked}
use Rattle.ft_cells.proofs.CellEntries.{changed_entries, or_new}
use Rattle.ft_cells.proofs.cells.entries.set_at.Goals as goal

pub returns-clause-ok : goal.returns-clause-ok
returns-clause-ok c = λ r d.
    let cell = c.set_acked.new.self in
    changed_entries c.args.cells.now c.args.place.line c.args.place.across r d (with_acked c.args.value) _ _ cell (search rules)
    ((c.in_ok-cells.ensures.update.0 cell).0 (crossing r d))
    (c.set_acked.ensures ∙ ap (with_acked c.args.value)
    (or_new (tree.get crossing_cmp c.args.cells.now c.args.place) _ c.new.result c.or_insert-cell.result.now c.new.ensures c.in_ok-cells.ensures.value
    c.or_insert-cell.ensures.value))
