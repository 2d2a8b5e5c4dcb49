use Rattle.ft_laws_agreement.proofs.AfterOwnJoin.{join-changes_nothing, join-sends_again}
use Rattle.ft_laws_agreement.proofs.reconnecting.own_join.Goals as goal

pub returns-clause-changes_nothing : goal.returns-clause-changes_nothing
returns-clause-changes_nothing c = join-changes_nothing

pub returns-clause-sends_again : goal.returns-clause-sends_again
returns-clause-sends_again c = join-sends_again
