use Rattle.ft_block.proofs.blocks.Blocks.find_at_stage.Goals as goal

pub returns-clause-found : goal.returns-clause-found
returns-clause-found g c = c.find_in_stage.ensures.found

pub returns-clause-length : goal.returns-clause-length
returns-clause-length g c = c.find_in_stage.ensures.length

pub returns-clause-beyond : goal.returns-clause-beyond
returns-clause-beyond g c = c.find_in_stage.ensures.beyond
