use Rattle.std.proofs.Common.{◌≡◌, ◌++◌, drop}
use Rattle.ft_plain_summary.specs.NamedPlaces.{unremoved_names}
use Rattle.ft_plain_summary.proofs.named.unremoved_names.Given as goal

-- the names so far, and those of the rest, are all
abbrev pub invariant-loop-e : goal.invariant-loop-e
invariant-loop-e l = l.names.items ++ unremoved_names (drop l.e-index l.items) ≡ unremoved_names l.items
