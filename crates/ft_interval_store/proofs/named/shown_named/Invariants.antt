use Rattle.std.proofs.Common.{◌≡◌, ◌-◌, ◌≤◌, ℕ, List, drop, length, map}
use Rattle.ft_interval_store.specs.declared.intervals.Interval.{Interval}
use Rattle.ft_interval_store.specs.Intervals.{Name, interval_of}
use Rattle.ft_interval_store.specs.Shown.{last, settled_interval, shown_one_from}
use Rattle.ft_interval_store.specs.Standing.{ShowsAll}
use Rattle.ft_interval_store.specs.State.{AreLiveOperations, StagesRise, placed_intervals, placed_operations, text_elements}
use Rattle.ft_interval_store.proofs.NamedIntervals.{IsOf}
use Rattle.ft_interval_store.proofs.named.shown_named.Given as goal

-- none but of that name are there, and what it shows at the present stage in the end is what it shows from the first
abbrev pub invariant-next : goal.invariant-next
invariant-next l =
    let xs = text_elements l.tree in
    let refs = l.tree.refs in
    let n : Name = (l.label, l.id) in
    let from = map (settled_interval xs 0) (placed_intervals refs l.acked) in
    let rest = drop l.i l.pending.items in
    record {
      rising : StagesRise l.stage rest;
      fits : l.stage ≤ last;
      live : AreLiveOperations refs rest;
      shows : (is : List (Interval ℕ)) × ShowsAll l.tree l.stage is l.all × IsOf n is
          × (shown_one_from xs n l.stage (placed_operations refs rest) (interval_of n is)
          ≡ shown_one_from xs n 0 (placed_operations refs l.pending.items) (interval_of n from));
    }

abbrev pub decreases-next : goal.decreases-next
decreases-next l = length l.pending.items - l.i
