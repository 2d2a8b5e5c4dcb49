use Rattle.ft_laws_agreement.proofs.ReadyExample.{example-ready}
use Rattle.ft_laws_agreement.proofs.sequencing.ready_client.Goals as goal

pub returns : goal.returns
returns c = record { ready = example-ready }
