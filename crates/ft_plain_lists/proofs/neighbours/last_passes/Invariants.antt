use Rattle.std.proofs.Common.{◌≡◌, reverse, take}
use Rattle.ft_changes.specs.Beside.{first_passes, is_always_seen, is_standing}
use Rattle.ft_plain_lists.proofs.neighbours.last_passes.Given as goal

-- so it is of the elements that were passed
abbrev pub invariant-loop-e : goal.invariant-loop-e
invariant-loop-e l = l.passes ≡ first_passes is_standing is_always_seen (reverse (take l.e-index l.items))
