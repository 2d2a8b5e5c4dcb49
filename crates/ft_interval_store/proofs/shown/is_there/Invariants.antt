use Rattle.std.proofs.Common.{◌≡◌, ◌≤◌, Bool, drop, length}
use Rattle.ft_interval_store.specs.Intervals.{Name}
use Rattle.ft_interval_store.specs.Shown.{is_there}
use Rattle.ft_interval_store.proofs.shown.is_there.Given as goal

-- the operations from here on say nothing of the name
abbrev pub invariant-back : goal.invariant-back
invariant-back l =
    let n : Name = (l.label, l.id) in
    record {
      within : l.i ≤ length l.pending.items;
      behind : (b : Bool) → is_there n (drop l.i l.pending.items) b ≡ b;
    }

abbrev pub decreases-back : goal.decreases-back
decreases-back l = l.i
