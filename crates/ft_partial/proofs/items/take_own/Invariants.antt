use Rattle.std.proofs.Common.{take}
use Rattle.ft_partial.specs.Elements.{TakesOwn}
use Rattle.ft_partial.specs.EntryLists.{entries_of}
use Rattle.ft_partial.proofs.items.take_own.Given as goal

abbrev pub invariant-loop-i : goal.invariant-loop-i
invariant-loop-i l = TakesOwn (entries_of l.initial.entries) (entries_of l.entries) l.seq l.by l.conn (take l.i l.stamps)
