use Rattle.std.proofs.Common.{◌≡◌, drop, find}
use Rattle.ft_plain_lists.proofs.slides.first_seen.Given as goal

-- the first of the rest is the first of all
abbrev pub invariant-loop-e : goal.invariant-loop-e
invariant-loop-e g l = find (g.T.ElementTest.test l.seen) (drop l.e-index l.items) ≡ find (g.T.ElementTest.test l.seen) l.items
