use Rattle.std.proofs.Common.{None}
use Rattle.ft_op.specs.Reading.{set_value}
use Rattle.ft_op.specs.WellFormed.{IsSetValue}
use Rattle.ft_op.proofs.ReadEntries.{IsReadSoFar}
use Rattle.ft_op.proofs.reading.read_property_set.Given as goal

-- the properties of the entries so far
abbrev pub invariant-loop-key : goal.invariant-loop-key
invariant-loop-key l =
    ((goal.iterator-loop-key).can_next l.key-iterator × (goal.iterator-loop-key).is_finite l.key-iterator)
    × IsReadSoFar (λ _ d. set_value d) (λ p. IsSetValue p.1) None l.set l.key-iterator l.entries.entries
