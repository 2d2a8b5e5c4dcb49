use Rattle.std.proofs.Common.{◌≡◌, ◌+◌, drop}
use Rattle.ft_base.specs.Scan.{place}
use Rattle.ft_plain_lists.proofs.scans.insertion_place.Given as goal

-- the place of all is as many elements on as were passed
abbrev pub invariant-loop-i : goal.invariant-loop-i
invariant-loop-i g l = place (g.T.ElementTest.test l.seen) l.fn.p l.items ≡ l.i + place (g.T.ElementTest.test l.seen) l.left (drop l.i l.items)
