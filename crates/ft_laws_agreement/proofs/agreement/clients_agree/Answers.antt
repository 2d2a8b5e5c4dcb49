-- All are laws on the steps of a client.
use Rattle.std.proofs.Common.{◌∙◌, ap, sym}
use Rattle.ft_msg.specs.Content.{shown}
use Rattle.ft_msg.specs.Agreed.{agreed}
use Rattle.ft_laws_agreement.proofs.ClientsAgree.{clients-agree, idle-clients-agree, idle-clients-show}
use Rattle.ft_laws_agreement.proofs.agreement.clients_agree.Goals as goal

pub returns-clause-pending : goal.returns-clause-pending
returns-clause-pending c = λ steps x run. clients-agree steps x run.made run.bodies

pub returns-clause-idle : goal.returns-clause-idle
returns-clause-idle c = λ steps x run none. idle-clients-agree steps x run.made run.bodies none

pub returns-clause-shown : goal.returns-clause-shown
returns-clause-shown c = λ steps x run none. idle-clients-show steps x run.made run.bodies none

pub returns-clause-two : goal.returns-clause-two
returns-clause-two c = λ steps others x y run run' same none none'.
    idle-clients-show steps x run.made run.bodies none
    ∙ ap (λ entries. shown (agreed entries)) same
    ∙ sym (idle-clients-show others y run'.made run'.bodies none')
