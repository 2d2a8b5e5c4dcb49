-- The reference numbers of each client that is made or kept.
use Rattle.ft_laws_compaction.proofs.FloorSteps.{oldest-has-least, references-kept}
use Rattle.ft_laws_compaction.proofs.numbers.pending_references.Goals as goal

pub returns-clause-rise : goal.returns-clause-rise
returns-clause-rise c = λ start kept h. references-kept start kept h

pub returns-clause-oldest : goal.returns-clause-oldest
returns-clause-oldest c = λ start kept h. oldest-has-least start kept h
