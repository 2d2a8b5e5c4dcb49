use Rattle.std.proofs.Common.{arith}
use Rattle.ft_block.proofs.find.child_at.Goals as goal

pub child_from_front-requires-clause-kept : goal.child_from_front-requires-clause-kept
child_from_front-requires-clause-kept g c = c.requires.kept

pub child_from_front-requires-clause-floors : goal.child_from_front-requires-clause-floors
child_from_front-requires-clause-floors g c = c.requires.floors

pub child_from_front-requires-clause-live : goal.child_from_front-requires-clause-live
child_from_front-requires-clause-live g c = c.requires.live

pub child_from_front-requires-clause-low : goal.child_from_front-requires-clause-low
child_from_front-requires-clause-low g c = c.requires.low

pub child_from_back-requires-clause-kept : goal.child_from_back-requires-clause-kept
child_from_back-requires-clause-kept g c = c.requires.kept

pub child_from_back-requires-clause-floors : goal.child_from_back-requires-clause-floors
child_from_back-requires-clause-floors g c = c.requires.floors

pub child_from_back-requires-clause-live : goal.child_from_back-requires-clause-live
child_from_back-requires-clause-live g c = c.requires.live

pub child_from_back-requires-clause-all : goal.child_from_back-requires-clause-all
child_from_back-requires-clause-all g c = c.requires.all

pub child_from_back-requires-clause-low : goal.child_from_back-requires-clause-low
child_from_back-requires-clause-low g c = c.requires.low

pub child_from_back-requires-clause-high : goal.child_from_back-requires-clause-high
child_from_back-requires-clause-high g c = omega (arith, c.if-all-p.false)

pub returns-then-p-all-clause-found : goal.returns-then-p-all-clause-found
returns-then-p-all-clause-found g c = c.child_from_front.ensures.found

pub returns-then-p-all-clause-length : goal.returns-then-p-all-clause-length
returns-then-p-all-clause-length g c = c.child_from_front.ensures.length

pub returns-then-p-all-clause-past : goal.returns-then-p-all-clause-past
returns-then-p-all-clause-past g c = c.child_from_front.ensures.past

pub returns-then-p-all-clause-beyond : goal.returns-then-p-all-clause-beyond
returns-then-p-all-clause-beyond g c = c.child_from_front.ensures.beyond

pub returns-then-p-all-clause-cost : goal.returns-then-p-all-clause-cost
returns-then-p-all-clause-cost g c = c.child_from_front.ensures.cost

pub returns-clause-found : goal.returns-clause-found
returns-clause-found g c = c.child_from_back.ensures.found

pub returns-clause-length : goal.returns-clause-length
returns-clause-length g c = c.child_from_back.ensures.length

pub returns-clause-cost : goal.returns-clause-cost
returns-clause-cost g c = c.child_from_back.ensures.cost
