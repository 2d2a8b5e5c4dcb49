use Rattle.std.proofs.Common.{◌≡◌, ◌++◌}
use Rattle.ft_msg.proofs.names.NamesDatum.copy.Given as goal

-- the copy has the names that aren't left
abbrev pub invariant-loop-name : goal.invariant-loop-name
invariant-loop-name l =
    ((goal.iterator-loop-name).can_next l.name-iterator × (goal.iterator-loop-name).is_finite l.name-iterator) × (l.self ≡ l.copy ++ l.name-iterator)
