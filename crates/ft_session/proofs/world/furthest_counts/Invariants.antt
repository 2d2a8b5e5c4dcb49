-- the numbers so far, and those of the rest of the members, give those of all
use Rattle.indexmap.specs.IndexMap.{values}
use Rattle.ft_session.proofs.Counting.{StillCounts}
use Rattle.ft_session.proofs.world.furthest_counts.Given as goal

abbrev pub invariant-loop-member : goal.invariant-loop-member
invariant-loop-member g l =
    ((goal.iterator-loop-member g).can_next l.member-iterator × (goal.iterator-loop-member g).is_finite l.member-iterator)
    × StillCounts (values l.members) l.member-iterator l.furthest
