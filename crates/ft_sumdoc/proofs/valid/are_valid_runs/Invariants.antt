use Rattle.std.proofs.Common.{◌≡◌, drop}
use Rattle.std.specs.List.{list_all}
use Rattle.ft_sumdoc.specs.Items.{bounds_in}
use Rattle.ft_sumdoc.specs.Valid.{is_run}
use Rattle.ft_sumdoc.proofs.valid.are_valid_runs.Given as goal

-- the runs that are left decide
abbrev pub invariant-loop-run : goal.invariant-loop-run
invariant-loop-run l = list_all (is_run (bounds_in l.limits)) (drop l.run-index l.runs) ≡ list_all (is_run (bounds_in l.limits)) l.runs
