use Rattle.std.proofs.Common.{◌≡◌, drop}
use Rattle.ft_op.specs.Intervals.{interval_cmp}
use Rattle.ft_plain_lists.specs.Places.{rising_place}
use Rattle.ft_plain_lists.proofs.PlacedItem.{place_from}
use Rattle.ft_plain_lists.proofs.intervals.interval_place.Given as goal

-- the place in all is as many places on as were passed
abbrev pub invariant-loop-i : goal.invariant-loop-i
invariant-loop-i l = place_from l.i (rising_place interval_cmp l.interval (drop l.i l.items)) ≡ rising_place interval_cmp l.interval l.items
