use Rattle.ft_interval_store.specs.Standing.{IsCarriedInterval}
use Rattle.ft_interval_store.proofs.PageLists.{AreAlike}
use Rattle.ft_interval_store.proofs.WrittenLists.{IsWritten}
use Rattle.ft_interval_store.proofs.all.carry_pages.Given as goal

-- the pages so far are carried on, and the others are as they were
abbrev pub invariant-loop-page : goal.invariant-loop-page
invariant-loop-page l = IsWritten (AreAlike (IsCarriedInterval l.tree l.from l.to)) l.page-index l.initial.page-items l.page-items
