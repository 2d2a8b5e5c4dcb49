-- Both are laws on lists of steps.
use Rattle.ft_laws_compaction.proofs.AllSteps.{compacting-keeps, step-alike}
use Rattle.ft_laws_compaction.proofs.steps.all_steps.Goals as goal

pub returns-clause-alike : goal.returns-clause-alike
returns-clause-alike c = λ steps x kept step run k fits. step-alike steps x kept step run k fits

pub returns-clause-keeps : goal.returns-clause-keeps
returns-clause-keeps c = λ start steps kept sound s fits. compacting-keeps start steps kept sound s fits
