use Rattle.std.proofs.Common.{◌≡◌, drop, map}
use Rattle.std.specs.List.{AllByRecursion}
use Rattle.ft_op.specs.Reading.{read_each}
use Rattle.ft_op.proofs.ReadLists.{joined}
use Rattle.ft_sumdoc.proofs.item_reading.keep_each.Given as goal

-- what was kept, then the rest, is what is kept of all
abbrev pub invariant-loop-item : goal.invariant-loop-item
invariant-loop-item g l =
    let kept = g.I.KeptItem.kept in
    let meaning = g.I.KeptItem.meaning in
    record {
      kept : joined l.records (read_each kept (map meaning (drop l.item-index l.items))) ≡ read_each kept (map meaning l.items);
      values : AllByRecursion g.I.KeptItem.IsFormed l.records;
      left : AllByRecursion g.I.KeptItem.IsGiven (map meaning (drop l.item-index l.items));
    }
