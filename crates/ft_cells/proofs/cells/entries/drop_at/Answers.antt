use Rattle.std.proofs.Common.{Some, refl, sym, ◌∙◌, ap}
use Rattle.std.specs.Prelude.{IsSome, is_some}
use Rattle.std.specs.BTreeMap as tree
use Rattle.ft_cells.specs.CellTables.{cell_in, crossing, crossing_cmp, without_write}
use Rattle.ft_cells.specs.Indexed.{table_of}
use Rattle.ft_cells.proofs.CellEntries.{changed}
use Rattle.ft_cells.proofs.cells.entries.drop_at.Goals as goal

pub returns-in-Some : goal.returns-in-Some
returns-in-Some c = λ r d.
    let cells = c.args.cells.now in
    let cell = c.drop_pending.new.self in
    let there : IsSome (tree.get crossing_cmp cells c.args.place) = ap is_some (sym c.in-Some.ensures.value) in
    changed (table_of cells) c.args.place.line c.args.place.across r d (without_write c.args.stage) (tree.get crossing_cmp cells (crossing r d)) _ (Some cell)
    (((c.get_mut.follows.holds cell).3 there).0 (crossing r d)) refl
    (c.drop_pending.ensures ∙ ap (λ o. without_write c.args.stage (cell_in o)) c.in-Some.ensures.value)
