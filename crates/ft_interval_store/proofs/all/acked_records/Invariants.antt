use Rattle.std.proofs.Common.{◌≡◌, map, take}
use Rattle.ft_interval_store.specs.Pages.{from_pages}
use Rattle.ft_interval_store.specs.Standing.{acked_record}
use Rattle.ft_interval_store.proofs.all.acked_records.Given as goal

-- the records of the pages so far
abbrev pub invariant-loop-page : goal.invariant-loop-page
invariant-loop-page l = l.records.items ≡ map (acked_record l.tree) (from_pages (take l.page-index l.pages))
