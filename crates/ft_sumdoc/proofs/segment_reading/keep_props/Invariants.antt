use Rattle.std.proofs.Common.{◌≡◌, true, []}
use Rattle.ft_json.specs.Canonical.{canonical}
use Rattle.ft_json.specs.Objects.{entry_pairs}
use Rattle.ft_op.proofs.ReadEntries.{IsReadSoFar}
use Rattle.ft_sumdoc.specs.Forms.{has_no_null}
use Rattle.ft_sumdoc.specs.Valid.{IsValue}
use Rattle.ft_sumdoc.proofs.segment_reading.keep_props.Given as goal

-- the properties of the entries so far, and no value of the rest is null
abbrev pub invariant-loop-key : goal.invariant-loop-key
invariant-loop-key l =
    ((goal.iterator-loop-key).can_next l.key-iterator × (goal.iterator-loop-key).is_finite l.key-iterator)
    × IsReadSoFar (λ _ d. canonical d) (λ p. IsValue p.1) [] l.props l.key-iterator l.entries.entries
    × (has_no_null (entry_pairs l.key-iterator) ≡ true)
