use Rattle.std.proofs.Common.{◌↔◌, drop}
use Rattle.ft_op.specs.WellFormed.{AreAdjustments}
use Rattle.ft_op.proofs.well_formed.are_adjustments.Given as goal

-- the adjustments that are left decide
abbrev pub invariant-loop-key : goal.invariant-loop-key
invariant-loop-key l = AreAdjustments l.set (drop l.key-index l.key-items) ↔ AreAdjustments l.set l.adjustments
