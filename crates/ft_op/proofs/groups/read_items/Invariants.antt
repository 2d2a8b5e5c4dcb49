use Rattle.std.proofs.Common.{◌≡◌, drop, map}
use Rattle.std.specs.List.{AllByRecursion}
use Rattle.serde_json.specs.View.{view}
use Rattle.ft_op.specs.Reading.{read_each}
use Rattle.ft_op.proofs.ReadLists.{joined}
use Rattle.ft_op.proofs.groups.read_items.Given as goal

-- what was read, then what is read of the items that are left, is what is read of all; and what was read is well formed
abbrev pub invariant-loop-item : goal.invariant-loop-item
invariant-loop-item g l =
    (joined l.ops (read_each g.T.GroupItem.item (map view (drop l.item-index l.items))) ≡ read_each g.T.GroupItem.item (map view l.items)) × AllByRecursion g.T.GroupItem.IsFormed l.ops
