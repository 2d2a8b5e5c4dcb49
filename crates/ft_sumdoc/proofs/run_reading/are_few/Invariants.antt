use Rattle.std.proofs.Common.{◌≡◌, ◌^◌, nat_le, drop, map}
use Rattle.ft_sumdoc.specs.Items.{run_of}
use Rattle.ft_sumdoc.specs.Runs.{given_units}
use Rattle.ft_sumdoc.proofs.run_reading.are_few.Given as goal

-- whether the rest has at most the units that are left decides
abbrev pub invariant-loop-run : goal.invariant-loop-run
invariant-loop-run l = nat_le (given_units (map run_of (drop l.run-index l.runs))) l.left ≡ nat_le (given_units (map run_of l.runs)) (2 ^ 52)
