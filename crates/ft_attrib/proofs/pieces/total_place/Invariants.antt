use Rattle.std.proofs.Common.{◌≡◌, ◌+◌, drop}
use Rattle.ft_attrib.specs.Totals.{place_of_total}
use Rattle.ft_attrib.proofs.pieces.total_place.Given as goal

abbrev pub invariant-loop-i : goal.invariant-loop-i
invariant-loop-i l = l.i + place_of_total l.conn (drop l.i l.totals) ≡ place_of_total l.conn l.totals
