use Rattle.ft_laws_agreement.proofs.ClientsAgree.{run-from-empty}
use Rattle.ft_laws_agreement.proofs.SoundStarts.{empty-sound}
use Rattle.ft_laws_agreement.proofs.SummaryStarts.{reached-run, summary-sound}
use Rattle.ft_laws_agreement.proofs.starts.sound_starts.Goals as goal

pub returns-clause-empty : goal.returns-clause-empty
returns-clause-empty c = empty-sound

pub returns-clause-summary : goal.returns-clause-summary
returns-clause-summary c = summary-sound

pub returns-clause-runs : goal.returns-clause-runs
returns-clause-runs c = λ steps x run. run-from-empty steps x run.made run.bodies

pub returns-clause-reached : goal.returns-clause-reached
returns-clause-reached c = reached-run
