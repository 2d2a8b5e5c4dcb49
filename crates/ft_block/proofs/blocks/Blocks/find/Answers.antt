use Rattle.ft_block.proofs.blocks.Blocks.find.Goals as goal

pub returns-clause-found : goal.returns-clause-found
returns-clause-found g c = c.find_in.ensures.found

pub returns-clause-length : goal.returns-clause-length
returns-clause-length g c = c.find_in.ensures.length

pub returns-clause-beyond : goal.returns-clause-beyond
returns-clause-beyond g c = c.find_in.ensures.beyond

pub returns-clause-cost : goal.returns-clause-cost
returns-clause-cost g c = c.find_in.ensures.cost

pub returns-clause-depth : goal.returns-clause-depth
returns-clause-depth g c = c.find_in.ensures.depth
