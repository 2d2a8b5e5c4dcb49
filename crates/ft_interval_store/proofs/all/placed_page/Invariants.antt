use Rattle.std.proofs.Common.{map, take}
use Rattle.ft_interval_store.specs.Shown.{settled_interval}
use Rattle.ft_interval_store.specs.Standing.{ShowsAll}
use Rattle.ft_interval_store.specs.State.{placed_intervals, text_elements}
use Rattle.ft_interval_store.proofs.all.placed_page.Given as goal

-- the intervals so far
abbrev pub invariant-loop-i : goal.invariant-loop-i
invariant-loop-i l =
    let xs = text_elements l.tree in
    ShowsAll l.tree 0 (map (settled_interval xs 0) (placed_intervals l.tree.refs (take l.i-index l.page))) l.items.items
