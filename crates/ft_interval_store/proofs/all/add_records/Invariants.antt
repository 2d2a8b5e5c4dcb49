use Rattle.std.proofs.Common.{◌≡◌, ◌++◌, All, map}
use Rattle.ft_interval_store.specs.Standing.{HasPlaces, record_at}
use Rattle.ft_interval_store.proofs.all.add_records.Given as goal

-- what is made so far, and what the others are shown as, is all
abbrev pub invariant-loop-i : goal.invariant-loop-i
invariant-loop-i l = record {
  on_leaf : All (HasPlaces l.tree) l.i-iterator.rest.items;
  made : l.records.items ++ map (record_at l.tree) l.i-iterator.rest.items ≡ l.fn.records.items ++ map (record_at l.tree) l.fn.page.items;
}
