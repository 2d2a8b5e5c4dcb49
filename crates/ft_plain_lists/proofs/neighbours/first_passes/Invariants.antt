use Rattle.std.proofs.Common.{◌≡◌, drop}
use Rattle.ft_changes.specs.Beside.{first_passes, is_always_seen, is_standing}
use Rattle.ft_plain_lists.proofs.neighbours.first_passes.Given as goal

-- the first that stands in the rest is the first of all
abbrev pub invariant-loop-e : goal.invariant-loop-e
invariant-loop-e l = first_passes is_standing is_always_seen (drop l.e-index l.items) ≡ first_passes is_standing is_always_seen l.items
