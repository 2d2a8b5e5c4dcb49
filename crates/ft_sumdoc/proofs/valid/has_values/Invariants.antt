use Rattle.std.proofs.Common.{◌↔◌, drop}
use Rattle.ft_sumdoc.specs.Valid.{HasValues}
use Rattle.ft_sumdoc.proofs.valid.has_values.Given as goal

-- the values that are left decide
abbrev pub invariant-loop-value : goal.invariant-loop-value
invariant-loop-value l = HasValues (drop l.value-index l.value-items) ↔ HasValues l.props
