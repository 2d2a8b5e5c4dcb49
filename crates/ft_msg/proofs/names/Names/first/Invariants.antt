use Rattle.std.proofs.Common.{◌≡◌, ◌++◌, take}
use Rattle.ft_msg.proofs.names.Names.first.Given as goal

-- those that are copied, and the first of those that are left, are the first of all
abbrev pub invariant-loop-name : goal.invariant-loop-name
invariant-loop-name l =
    ((goal.iterator-loop-name).can_next l.name-iterator × (goal.iterator-loop-name).is_finite l.name-iterator)
    × (l.names ++ take l.name-iterator.n l.name-iterator.iter ≡ take l.count l.self)
