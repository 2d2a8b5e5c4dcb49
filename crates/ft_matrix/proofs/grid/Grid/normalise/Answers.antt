use Rattle.std.proofs.Common.{refl}
use Rattle.ft_matrix.specs.Units.{units_of}
use Rattle.ft_matrix.proofs.PendingRuns.{side-by-side}
use Rattle.ft_matrix.proofs.RebuiltGrids.{rebuilds-grid}
use Rattle.ft_matrix.proofs.SoundVectors.{ok-with, on-ok}
use Rattle.ft_matrix.proofs.grid.Grid.normalise.Goals as goal

pub rebuild_units-requires-clause-side : goal.rebuild_units-requires-clause-side
rebuild_units-requires-clause-side c = side-by-side (units_of c.args.self.now.rows) c.requires.pending_rows.together

pub rebuild_units-requires-2-clause-side : goal.rebuild_units-requires-2-clause-side
rebuild_units-requires-2-clause-side c = side-by-side (units_of c.args.self.now.cols) c.requires.pending_cols.together

pub returns : goal.returns
returns c = ok-with _ c.rebuild_units-2.result c.rebuild_units-2.ensures.sound (λ s. ok-with _ c.rebuild_units-2.result c.rebuild_units-2.ensures.rebuilds (λ r.
    on-ok c.rebuild_units-2.result (rebuilds-grid c.args.self.now (record c.args.self.now { rows = c.rebuild_units.new.units; cols = c.rebuild_units-2.new.units }) c.requires refl
    c.in_ok-rebuild_units.ensures.sound s c.in_ok-rebuild_units.ensures.rebuilds r)))
