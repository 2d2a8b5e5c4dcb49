use Rattle.std.proofs.Common.{◌≡◌, ◌-◌, ◌≤◌, ℕ, drop, length, Option, option_map}
use Rattle.ft_interval_store.specs.declared.intervals.Interval.{Interval}
use Rattle.ft_interval_store.specs.Ends.{places_of_ends}
use Rattle.ft_interval_store.specs.Intervals.{Name, interval_of}
use Rattle.ft_interval_store.specs.Shown.{last, settled_interval, shown_one_from}
use Rattle.ft_interval_store.specs.Standing.{ShowsEnds}
use Rattle.ft_interval_store.specs.State.{AreLiveOperations, StagesRise, placed_operations, text_elements, with_mapped_ends}
use Rattle.ft_interval_store.proofs.shown.shown_ends.Given as goal

-- what is known of the ends at the present stage shows in the end what it shows from stage 0 on
abbrev pub invariant-next : goal.invariant-next
invariant-next l =
    let xs = text_elements l.tree in
    let n : Name = (l.label, l.id) in
    let rest = drop l.i l.pending.items in
    record {
      rising : StagesRise l.stage rest;
      fits : l.stage ≤ last;
      live : AreLiveOperations l.tree.refs rest;
      shows : (i : Option (Interval ℕ)) × ShowsEnds l.tree l.stage i l.shown
          × (shown_one_from xs n l.stage (placed_operations l.tree.refs rest) i
          ≡ shown_one_from xs n 0 (placed_operations l.tree.refs l.pending.items)
          (option_map (settled_interval xs 0) (option_map (with_mapped_ends (places_of_ends l.tree.refs)) (interval_of n l.acked))));
    }

abbrev pub decreases-next : goal.decreases-next
decreases-next l = length l.pending.items - l.i
