use Rattle.std.proofs.Common.{◌≡◌, None, drop}
use Rattle.ft_plain_lists.proofs.SettledName.{settled_name_after}
use Rattle.ft_plain_lists.proofs.slides.settled.Given as goal

-- where the end goes over the rest, with the last element before it, is where it goes over all
abbrev pub invariant-loop-i : goal.invariant-loop-i
invariant-loop-i g l =
    let meant = g.M.ElementTest.test l.meant in
    let seen = g.T.ElementTest.test l.seen in
    settled_name_after meant seen l.last (drop l.i l.items) ≡ settled_name_after meant seen None l.items
