-- Rows and columns of each client that is made or kept.
use Rattle.ft_laws_names.proofs.KeptGrids.{kept-below, kept-counted, kept-free}
use Rattle.ft_laws_names.proofs.grids.grids.Goals as goal

pub returns-clause-below : goal.returns-clause-below
returns-clause-below c = λ start kept stage h l. kept-below start kept stage h l

pub returns-clause-counted : goal.returns-clause-counted
returns-clause-counted c = λ start kept h. kept-counted start kept h

pub returns-clause-free : goal.returns-clause-free
returns-clause-free c = λ start kept h. kept-free start kept h
