use Rattle.std.proofs.Common.{◌-◌, ◌≤◌, ℕ, List, All, map, take, length}
use Rattle.ft_interval_store.specs.declared.intervals.Interval.{Interval}
use Rattle.ft_interval_store.specs.declared.pending.Operation.{Operation}
use Rattle.ft_interval_store.specs.Gathered.{IsPartOf, is_on_any}
use Rattle.ft_interval_store.specs.Named.{HasNoOther}
use Rattle.ft_interval_store.specs.Shown.{last, settled_interval}
use Rattle.ft_interval_store.specs.Standing.{ShowsAll}
use Rattle.ft_interval_store.specs.State.{placed_intervals, text_elements}
use Rattle.ft_interval_store.proofs.all.places_of_pending.Given as goal

-- those of the operations so far
abbrev pub invariant-next : goal.invariant-next
invariant-next l =
    let from = map (settled_interval (text_elements l.tree) 0) (placed_intervals l.tree.refs l.acked) in
    record {
      part : (is : List (Interval ℕ)) × ShowsAll l.tree 0 is l.all × IsPartOf from is (λ n. is_on_any n (take l.i l.pending.items));
      fits : All (λ (t : Operation). t.stage ≤ last) (take l.i l.pending.items);
      only : HasNoOther (λ n. is_on_any n (take l.i l.pending.items)) l.all;
    }

abbrev pub decreases-next : goal.decreases-next
decreases-next l = length l.pending.items - l.i
