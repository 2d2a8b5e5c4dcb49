use Rattle.std.proofs.Common.{refl}
use Rattle.ft_cells.proofs.PlacesOnLines.{no_entry-empty, no_entry-other}
use Rattle.ft_cells.proofs.crossings.first_cell.Goals as goal

pub returns-in_err-place-clause-none : goal.returns-in_err-place-clause-none
returns-in_err-place-clause-none c =
    rw c.from_residual.ensures (no_entry-empty c.args.cells.now c.range.result c.args.line (c.range.ensures.in_range tt) c.args.count c.in_err-place.ensures.steps.0)

pub returns-else-place-line-clause-none : goal.returns-else-place-line-clause-none
returns-else-place-line-clause-none c =
    no_entry-other c.args.cells.now c.range.result c.args.line (c.range.ensures.in_range tt) c.args.count (c.in_ok-place.place.now, c.in_ok-place.field-0-1.now)
    (rw c.in_ok-place.ensures.steps refl) c.if-place-line.false
