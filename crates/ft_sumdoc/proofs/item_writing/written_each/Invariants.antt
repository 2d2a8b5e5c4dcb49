use Rattle.std.proofs.Common.{◌≡◌, map, take}
use Rattle.std.specs.List.{AllByRecursion}
use Rattle.serde_json.specs.View.{view}
use Rattle.ft_sumdoc.proofs.item_writing.written_each.Given as goal

-- what was passed is written
abbrev pub invariant-loop-item : goal.invariant-loop-item
invariant-loop-item g l = record {
  written : map view l.values.items ≡ map g.T.WrittenItem.written (take l.item-index l.items);
  representable : AllByRecursion g.T.WrittenItem.IsRepresentable (take l.item-index l.items);
}
