use Rattle.std.proofs.Common.{◌≡◌, ◌^◌, nat_le, drop}
use Rattle.ft_sumdoc.specs.Runs.{unit_count}
use Rattle.ft_sumdoc.proofs.valid.has_few_units.Given as goal

-- whether the rest has at most the units that are left decides
abbrev pub invariant-loop-run : goal.invariant-loop-run
invariant-loop-run l = nat_le (unit_count (drop l.run-index l.runs)) l.left ≡ nat_le (unit_count l.runs) (2 ^ 52)
