use Rattle.std.proofs.Common.{◌≡◌, drop, option_map}
use Rattle.ft_base.specs.Scan.{at}
use Rattle.ft_props.specs.Element.{id}
use Rattle.ft_plain_lists.proofs.scans.name_at.Given as goal

-- the element that is sought stands in the rest, behind as many as are left to pass
abbrev pub invariant-loop-e : goal.invariant-loop-e
invariant-loop-e g l = option_map id (at (g.T.ElementTest.test l.seen) l.left (drop l.e-index l.items)) ≡ option_map id (at (g.T.ElementTest.test l.seen) l.fn.i l.items)
