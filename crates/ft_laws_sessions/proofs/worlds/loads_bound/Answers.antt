use Rattle.ft_laws_sessions.proofs.LoadLaws.{counts-within-load, elements-within-load, number-within-load}
use Rattle.ft_laws_sessions.proofs.worlds.loads_bound.Goals as goal

pub returns-clause-number : goal.returns-clause-number
returns-clause-number c = number-within-load

pub returns-clause-elements : goal.returns-clause-elements
returns-clause-elements c = elements-within-load

pub returns-clause-counts : goal.returns-clause-counts
returns-clause-counts c = counts-within-load
