use Rattle.std.proofs.Common.{arith}
use Rattle.ft_block.proofs.blocks.find_in_stage.Goals as goal

pub find_in-requires-clause-kept : goal.find_in-requires-clause-kept
find_in-requires-clause-kept g c = omega arith

pub returns-clause-found : goal.returns-clause-found
returns-clause-found g c = c.find_in.ensures.found

pub returns-clause-length : goal.returns-clause-length
returns-clause-length g c = c.find_in.ensures.length

pub returns-clause-beyond : goal.returns-clause-beyond
returns-clause-beyond g c = c.find_in.ensures.beyond
