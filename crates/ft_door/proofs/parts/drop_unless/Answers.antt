use Rattle.std.proofs.Common.{subst, sym}
use Rattle.std.specs.Prelude.{IfOk}
use Rattle.ft_msg.specs.declared.faults.LinkFault.{LinkFault}
use Rattle.ft_seqr.specs.declared.refusals.Refusal.TheVariants.{NotConnected}
use Rattle.ft_door.specs.Editors.{AnswersStep, dropped_unless}
use Rattle.ft_door.proofs.parts.drop_unless.Goals as goal

pub returns-else-waits : goal.returns-else-waits
returns-else-waits g c = λ x reached h.
    let state = g.R.Replica.state in
    subst (λ b. IfOk c.lose_link.result (AnswersStep (λ (fault : LinkFault). NotConnected) (state c.args.replica.now) (state c.lose_link.new.replica) (dropped_unless b x)))
    (sym c.if-waits.false) (c.lose_link.ensures.answers x reached h)
