-- Each is a law on one step.
use Rattle.ft_laws_compaction.proofs.KeptSteps.{connects-alike, drops-alike, edits-answer, entries-answer, idles-alike, restarts-alike, sends-alike}
use Rattle.ft_laws_compaction.proofs.steps.answers.Goals as goal

pub returns-clause-edits : goal.returns-clause-edits
returns-clause-edits c = λ steps x kept op run k. edits-answer steps x kept op run k

pub returns-clause-entries : goal.returns-clause-entries
returns-clause-entries c = λ steps x kept entry run k fits. entries-answer steps x kept entry run k fits

pub returns-clause-connects : goal.returns-clause-connects
returns-clause-connects c = λ x kept conn k. connects-alike x kept conn k

pub returns-clause-drops : goal.returns-clause-drops
returns-clause-drops c = λ x kept k. drops-alike x kept k

pub returns-clause-idles : goal.returns-clause-idles
returns-clause-idles c = λ x kept k. idles-alike x kept k

pub returns-clause-sends : goal.returns-clause-sends
returns-clause-sends c = λ x kept k. sends-alike x kept k

pub returns-clause-restarts : goal.returns-clause-restarts
returns-clause-restarts c = λ x kept k h. restarts-alike x kept k h
