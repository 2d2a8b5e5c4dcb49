use Rattle.std.proofs.Common.{None, pos}
use Rattle.std.specs.Prelude.{IsFalse, is_some}
use Rattle.ft_props.specs.Properties.{value_of}
use Rattle.ft_op.specs.TextGrammar.{adjustment_beside}
use Rattle.ft_op.specs.WellFormed.{IsAdjustment}
use Rattle.ft_op.proofs.ReadEntries.{IsReadSoFar}
use Rattle.ft_op.proofs.adjustments.read_adjustments.Given as goal

-- the adjustments of the entries so far
abbrev pub invariant-loop-key : goal.invariant-loop-key
invariant-loop-key l =
    ((goal.iterator-loop-key).can_next l.key-iterator × (goal.iterator-loop-key).is_finite l.key-iterator)
    × IsReadSoFar (adjustment_beside l.set) (λ p. IsFalse (is_some (value_of p.0 l.set)) × IsAdjustment p.1) (record { delta = pos 0; min = None; max = None }) l.adjustments l.key-iterator l.entries.entries
