use Rattle.std.proofs.Common.{◌≡◌, take}
use Rattle.ft_plain_lists.proofs.copies.copied_items.Given as goal

-- what was passed is copied
abbrev pub invariant-loop-item : goal.invariant-loop-item
invariant-loop-item g l = l.copies.items ≡ take l.item-index l.items
