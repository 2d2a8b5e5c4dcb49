-- All are laws on the steps of a client.
use Rattle.ft_laws_agreement.proofs.ClientsAgree.{clients-agree-from, idle-clients-agree-from, idle-clients-show-from}
use Rattle.ft_laws_agreement.proofs.CountedEntries.{steps-counted}
use Rattle.ft_laws_agreement.proofs.EveryClientReady.{client-ready-from, join-changes_nothing-from, pending-stays-on_top-from}
use Rattle.ft_laws_agreement.proofs.ReconnectedClient.{reconnection-agrees-from, reconnection-keeps-views-from}
use Rattle.ft_msg.specs.Client.{client_over}
use Rattle.ft_laws_agreement.proofs.starts.clients_from_a_start.Goals as goal

pub returns-clause-pending : goal.returns-clause-pending
returns-clause-pending c = clients-agree-from

pub returns-clause-idle : goal.returns-clause-idle
returns-clause-idle c = idle-clients-agree-from

pub returns-clause-shown : goal.returns-clause-shown
returns-clause-shown c = idle-clients-show-from

pub returns-clause-counted : goal.returns-clause-counted
returns-clause-counted c = λ start steps x run. steps-counted steps (client_over start) x run.made

pub returns-clause-ready : goal.returns-clause-ready
returns-clause-ready c = client-ready-from

pub returns-clause-on_top : goal.returns-clause-on_top
returns-clause-on_top c = pending-stays-on_top-from

pub returns-clause-joins : goal.returns-clause-joins
returns-clause-joins c = join-changes_nothing-from

pub returns-clause-views : goal.returns-clause-views
returns-clause-views c = λ start steps x entry k run l.
    let s = reconnection-keeps-views-from start steps x entry k run l in
    record { text = s.text; rows = s.rows; cols = s.cols }

pub returns-clause-agrees : goal.returns-clause-agrees
returns-clause-agrees c = reconnection-agrees-from
