use Rattle.std.proofs.Common.{take}
use Rattle.ft_matrix.proofs.LoadedUnits.{UnitsSoFar}
use Rattle.ft_matrix.proofs.summaries.load_units.Given as goal

abbrev pub invariant-loop-run : goal.invariant-loop-run
invariant-loop-run l = UnitsSoFar (take l.run-index l.runs) l.made l.initial.units l.units
