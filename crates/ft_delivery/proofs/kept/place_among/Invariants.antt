-- behind the keys that were looked at, the first one is still to be found among those that are left
use Rattle.std.proofs.Common.{◌≡◌, ◌+◌, bytes_eq, length, string_bytes}
use Rattle.std.specs.List.{position_from}
use Rattle.indexmap.specs.IndexMap.{keys}
use Rattle.ft_delivery.proofs.kept.place_among.Given as goal

abbrev pub invariant-loop-key : goal.invariant-loop-key
invariant-loop-key g l =
    ((goal.iterator-loop-key g).can_next l.key-iterator × (goal.iterator-loop-key g).is_finite l.key-iterator)
    × (position_from (λ key. bytes_eq l.name (string_bytes key)) l.place l.key-iterator ≡ position_from (λ key. bytes_eq l.name (string_bytes key)) 0 (keys l.kept))
    × (l.place + length l.key-iterator ≡ length (keys l.kept))
