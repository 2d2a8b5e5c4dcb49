use Rattle.std.proofs.Common.{◌≡◌, drop}
use Rattle.ft_plain_lists.specs.Places.{rising_place}
use Rattle.ft_plain_lists.proofs.PlacedItem.{place_from}
use Rattle.ft_shown.proofs.rising.rising_place.Given as goal

-- the place in all is as many places on as were passed
abbrev pub invariant-loop-place : goal.invariant-loop-place
invariant-loop-place g l =
    let order = g.T.ShownItem.order in
    place_from l.place (rising_place order l.item (drop l.place l.items)) ≡ rising_place order l.item l.items
