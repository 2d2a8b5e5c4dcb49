use Rattle.std.proofs.Common.{◌≡◌, map, take}
use Rattle.ft_string.specs.Loads.{given_property}
use Rattle.ft_string.proofs.summaries.set_of.Given as goal

-- the set has the properties that were gone over
abbrev pub invariant-loop-property : goal.invariant-loop-property
invariant-loop-property l = l.set ≡ map given_property (take l.property-index l.properties)
