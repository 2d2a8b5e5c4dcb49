use Rattle.std.proofs.Common.{◌≡◌, ◌++◌, drop}
use Rattle.ft_changes.specs.Told.{dropped_before, not_before}
use Rattle.ft_changes.proofs.items.drop_before.Given as goal

-- what was added, and the drops of those ahead, are all; and those ahead that stay are those that do
abbrev pub invariant-loop-count : goal.invariant-loop-count
invariant-loop-count g l =
    let T = g.T.ShownItem in
    let rest = drop l.count l.left in
    (l.changes ++ dropped_before T.order T.dropped l.item rest ≡ l.initial.changes ++ dropped_before T.order T.dropped l.item l.left)
    × (not_before T.order l.item rest ≡ not_before T.order l.item l.left)
