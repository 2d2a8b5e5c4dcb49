use Rattle.std.proofs.Common.{◌≡◌, ◌≤◌, ◌++◌, drop, length}
use Rattle.ft_changes.specs.Told.{told_items}
use Rattle.ft_changes.proofs.items.tell_items.Given as goal

-- what was added, and what leads from the rest of those before to the rest of those after, is all
abbrev pub invariant-loop-item : goal.invariant-loop-item
invariant-loop-item g l =
    let T = g.T.ShownItem in
    let told = told_items T.order T.same T.set T.dropped in
    (l.place ≤ length l.before)
    × (l.changes ++ told (drop l.place l.before) (drop l.item-index l.after) ≡ l.initial.changes ++ told l.before l.after)
