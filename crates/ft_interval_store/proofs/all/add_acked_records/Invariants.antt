use Rattle.std.proofs.Common.{◌≡◌, ◌++◌, map, take}
use Rattle.ft_interval_store.specs.Standing.{acked_record}
use Rattle.ft_interval_store.proofs.all.add_acked_records.Given as goal

-- the records so far
abbrev pub invariant-loop-i : goal.invariant-loop-i
invariant-loop-i l = l.records.items ≡ l.fn.records.items ++ map (acked_record l.tree) (take l.i-index l.page)
