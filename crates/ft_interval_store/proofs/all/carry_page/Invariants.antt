use Rattle.ft_interval_store.specs.Standing.{IsCarriedInterval}
use Rattle.ft_interval_store.proofs.WrittenLists.{IsWritten}
use Rattle.ft_interval_store.proofs.all.carry_page.Given as goal

-- the intervals so far are carried on, and the others are as they were
abbrev pub invariant-loop-i : goal.invariant-loop-i
invariant-loop-i l = IsWritten (IsCarriedInterval l.tree l.from l.to) l.i-index l.initial.page l.page
