use Rattle.std.proofs.Common.{◌≡◌, take}
use Rattle.ft_base.proofs.lists.ListDatum.copy.Given as goal

-- what was passed is copied
abbrev pub invariant-loop-item : goal.invariant-loop-item
invariant-loop-item g l = l.items.items ≡ take l.item-index l.item-items
