-- Both are laws on the steps of a client.
use Rattle.ft_laws_agreement.proofs.ReconnectedClient.{reconnection-agrees, reconnection-keeps-views}
use Rattle.ft_laws_agreement.proofs.agreement.reconnections_agree.Goals as goal

pub returns-clause-views : goal.returns-clause-views
returns-clause-views c = λ steps x entry k run l.
    let s = reconnection-keeps-views steps x entry k run.made run.bodies l in
    record { text = s.text; rows = s.rows; cols = s.cols }

pub returns-clause-pending : goal.returns-clause-pending
returns-clause-pending c = λ steps x entry run. reconnection-agrees steps x entry run.made run.bodies
