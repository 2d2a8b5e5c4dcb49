-- What is shown of both is one.
use Rattle.ft_laws_compaction.proofs.Runs.{run-facts}
use Rattle.ft_laws_compaction.proofs.SameContent.{show-alike}
use Rattle.ft_laws_compaction.proofs.steps.views.Goals as goal

pub returns : goal.returns
returns c = record { same = λ steps x kept run k. show-alike kept x (run-facts steps x run) k }
