use Rattle.std.proofs.Common.{◌≡◌, ◌+◌, ◌≤◌, drop}
use Rattle.ft_sumdoc.specs.Runs.{unit_count, unremoved_units}
use Rattle.ft_sumdoc.proofs.summary_reading.shown_units.Given as goal

-- the units of what was passed, and those of the rest, are all; those of the rest are few enough
abbrev pub invariant-loop-run : goal.invariant-loop-run
invariant-loop-run l = record {
  shown : l.units + unremoved_units (drop l.run-index l.runs) ≡ unremoved_units l.runs;
  few : l.units + unit_count (drop l.run-index l.runs) ≤ unit_count l.runs;
}
