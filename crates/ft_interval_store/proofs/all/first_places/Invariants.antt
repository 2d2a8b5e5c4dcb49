use Rattle.std.proofs.Common.{map, take}
use Rattle.ft_interval_store.specs.Pages.{from_pages}
use Rattle.ft_interval_store.specs.Shown.{settled_interval}
use Rattle.ft_interval_store.specs.Standing.{ShowsAll}
use Rattle.ft_interval_store.specs.State.{placed_intervals, text_elements}
use Rattle.ft_interval_store.proofs.all.first_places.Given as goal

-- the intervals of the pages so far
abbrev pub invariant-loop-page : goal.invariant-loop-page
invariant-loop-page l =
    let xs = text_elements l.tree in
    ShowsAll l.tree 0 (map (settled_interval xs 0) (placed_intervals l.tree.refs (from_pages (take l.page-index l.pages)))) l.items
