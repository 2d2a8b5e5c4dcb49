use Rattle.std.proofs.Common.{◌≡◌, ◌++◌, drop, map}
use Rattle.ft_changes.proofs.items.drop_all.Given as goal

-- what was added, and the drops of the rest, are all
abbrev pub invariant-loop-item : goal.invariant-loop-item
invariant-loop-item g l = l.changes ++ map g.T.ShownItem.dropped (drop l.item-index l.left) ≡ l.initial.changes ++ map g.T.ShownItem.dropped l.left
