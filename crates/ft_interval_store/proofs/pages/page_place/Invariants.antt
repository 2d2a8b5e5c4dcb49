use Rattle.std.proofs.Common.{◌≡◌, ◌+◌}
use Rattle.ft_interval_store.specs.Pages.{count_before}
use Rattle.ft_interval_store.proofs.pages.page_place.Given as goal

-- the elements of the pages so far and those that are left to go
abbrev pub invariant-loop-page : goal.invariant-loop-page
invariant-loop-page g l = count_before l.page l.pages + l.offset ≡ l.place
