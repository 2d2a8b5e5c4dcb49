-- All are laws on the steps of a client.
use Rattle.ft_laws_agreement.proofs.CountedEntries.{entries-counted}
use Rattle.ft_laws_agreement.proofs.EveryClientReady.{every-client-ready, every-join-changes_nothing, pending-stays-on_top}
use Rattle.ft_laws_agreement.proofs.sequencing.every_client.Goals as goal

pub returns-clause-ready : goal.returns-clause-ready
returns-clause-ready c = λ steps x run. every-client-ready steps x run.made run.bodies

pub returns-clause-counted : goal.returns-clause-counted
returns-clause-counted c = λ steps x run. entries-counted steps x run.made

pub returns-clause-on_top : goal.returns-clause-on_top
returns-clause-on_top c = λ steps x later conn run. pending-stays-on_top steps x later conn run.made run.bodies

pub returns-clause-joins : goal.returns-clause-joins
returns-clause-joins c = λ steps x entry run. every-join-changes_nothing steps x entry run.made run.bodies
