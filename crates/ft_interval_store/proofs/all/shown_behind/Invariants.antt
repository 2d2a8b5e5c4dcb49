use Rattle.std.proofs.Common.{◌≡◌, ◌-◌, ◌≤◌, ℕ, List, drop, length}
use Rattle.ft_interval_store.specs.declared.intervals.Interval.{Interval}
use Rattle.ft_interval_store.specs.Shown.{last, shown_from}
use Rattle.ft_interval_store.specs.Standing.{ShowsAll}
use Rattle.ft_interval_store.specs.State.{AreLiveOperations, StagesRise, placed_operations, text_elements}
use Rattle.ft_interval_store.proofs.all.shown_behind.Given as goal

-- what the intervals at the present stage show in the end is what those at stage 0 show
abbrev pub invariant-next : goal.invariant-next
invariant-next l =
    let xs = text_elements l.tree in
    let rest = drop l.i l.pending.items in
    record {
      rising : StagesRise l.stage rest;
      fits : l.stage ≤ last;
      live : AreLiveOperations l.tree.refs rest;
      shows : (was : List (Interval ℕ)) → ShowsAll l.tree 0 was l.fn.first
          → (is : List (Interval ℕ)) × ShowsAll l.tree l.stage is l.all
          × (shown_from xs l.stage (placed_operations l.tree.refs rest) is ≡ shown_from xs 0 (placed_operations l.tree.refs l.pending.items) was);
    }

abbrev pub decreases-next : goal.decreases-next
decreases-next l = length l.pending.items - l.i
