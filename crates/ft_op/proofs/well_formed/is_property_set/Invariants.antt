use Rattle.std.proofs.Common.{◌↔◌, drop}
use Rattle.ft_op.specs.WellFormed.{IsPropertySet}
use Rattle.ft_op.proofs.well_formed.is_property_set.Given as goal

-- the values that are left decide
abbrev pub invariant-loop-value : goal.invariant-loop-value
invariant-loop-value l = IsPropertySet (drop l.value-index l.value-items) ↔ IsPropertySet l.set
