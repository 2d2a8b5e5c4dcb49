use Rattle.std.proofs.Common.{Some, refl, sym, ◌∙◌, ap}
use Rattle.std.specs.Prelude.{IsSome, is_some}
use Rattle.std.specs.BTreeMap as tree
use Rattle.ft_cells.specs.CellTables.{acked_write, cell_in, crossing, crossing_cmp}
use Rattle.ft_cells.specs.Indexed.{table_of}
use Rattle.ft_cells.proofs.CellEntries.{changed}
use Rattle.ft_cells.proofs.cells.entries.ack_at.Goals as goal

pub returns-in-Some : goal.returns-in-Some
returns-in-Some c = λ r d.
    let cells = c.args.cells.now in
    let cell = c.ack.new.self in
    let there : IsSome (tree.get crossing_cmp cells c.args.place) = ap is_some (sym c.in-Some.ensures.value) in
    changed (table_of cells) c.args.place.line c.args.place.across r d (acked_write c.args.stage) (tree.get crossing_cmp cells (crossing r d)) _ (Some cell)
    (((c.get_mut.follows.holds cell).3 there).0 (crossing r d)) refl
    (c.ack.ensures ∙ ap (λ o. acked_write c.args.stage (cell_in o)) c.in-Some.ensures.value)
