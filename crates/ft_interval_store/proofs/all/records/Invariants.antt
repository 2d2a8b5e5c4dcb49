use Rattle.std.proofs.Common.{◌≡◌, ◌++◌, All, map}
use Rattle.ft_interval_store.specs.Pages.{from_pages}
use Rattle.ft_interval_store.specs.Standing.{HasPlaces, record_at}
use Rattle.ft_interval_store.proofs.all.records.Given as goal

-- what is made so far, and what those of the other pages are shown as, is all
abbrev pub invariant-loop-page : goal.invariant-loop-page
invariant-loop-page l = record {
  on_leaf : All (HasPlaces l.tree) (from_pages l.page-iterator.rest.items);
  made : l.records.items ++ map (record_at l.tree) (from_pages l.page-iterator.rest.items) ≡ map (record_at l.tree) l.fn.all;
}
