use Rattle.ft_laws_agreement.proofs.PendingOnTop.{pending-on_top}
use Rattle.ft_laws_agreement.proofs.SideBySide.{ready-orderly}
use Rattle.ft_laws_agreement.proofs.sequencing.pending_edits.Goals as goal

pub returns-clause-in_order : goal.returns-clause-in_order
returns-clause-in_order c = ready-orderly

pub returns-clause-on_top : goal.returns-clause-on_top
returns-clause-on_top c = λ x log conn ready same. pending-on_top x conn ready log same
