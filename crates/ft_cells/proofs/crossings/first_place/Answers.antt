use Rattle.std.proofs.Common.{refl}
use Rattle.ft_cells.proofs.PlacesOnLines.{no_place-empty, no_place-other}
use Rattle.ft_cells.proofs.crossings.first_place.Goals as goal

pub returns-in_err-place-clause-none : goal.returns-in_err-place-clause-none
returns-in_err-place-clause-none c =
    rw c.from_residual.ensures (no_place-empty c.args.places.now c.range.result c.args.line (c.range.ensures.in_range tt) c.args.count c.in_err-place.ensures.steps.0)

pub returns-else-place-line-clause-none : goal.returns-else-place-line-clause-none
returns-else-place-line-clause-none c =
    no_place-other c.args.places.now c.range.result c.args.line (c.range.ensures.in_range tt) c.args.count c.in_ok-place.place.now
    (rw c.in_ok-place.ensures.steps refl) c.if-place-line.false
