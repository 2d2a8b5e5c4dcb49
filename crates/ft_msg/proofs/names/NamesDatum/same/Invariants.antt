use Rattle.std.proofs.Common.{◌≡◌, length}
use Rattle.ft_msg.proofs.names.NamesDatum.same.Given as goal

-- the names that are left decide
abbrev pub invariant-loop-name : goal.invariant-loop-name
invariant-loop-name l =
    ((goal.iterator-loop-name).can_next l.name-iterator × (goal.iterator-loop-name).is_finite l.name-iterator)
    × (length l.name-iterator.a ≡ length l.name-iterator.b)
    × (l.name-iterator.a ≡ l.name-iterator.b → l.self ≡ l.other)
    × (l.self ≡ l.other → l.name-iterator.a ≡ l.name-iterator.b)
