-- Each is a law on one step.
use Rattle.ft_laws_names.proofs.MirroredCompaction.{compaction-mirrored}
use Rattle.ft_laws_names.proofs.NamedSteps.{connects-of, drops-of, edits-of, entries-of, idles-of, restarts-of, sends-of}
use Rattle.ft_laws_names.proofs.naming.steps.Goals as goal

pub returns-clause-edits : goal.returns-clause-edits
returns-clause-edits c = λ p q op h. edits-of p q op h

pub returns-clause-entries : goal.returns-clause-entries
returns-clause-entries c = λ p q entry h. entries-of p q entry h

pub returns-clause-connects : goal.returns-clause-connects
returns-clause-connects c = λ p q conn h. connects-of p q conn h

pub returns-clause-drops : goal.returns-clause-drops
returns-clause-drops c = λ p q h. drops-of p q h

pub returns-clause-idles : goal.returns-clause-idles
returns-clause-idles c = λ p q h. idles-of p q h

pub returns-clause-sends : goal.returns-clause-sends
returns-clause-sends c = λ p q h. sends-of p q h

pub returns-clause-restarts : goal.returns-clause-restarts
returns-clause-restarts c = λ p q h e. restarts-of p q h e

pub returns-clause-compactions : goal.returns-clause-compactions
returns-clause-compactions c = λ p q fewer d k shows. compaction-mirrored p q fewer d k shows
