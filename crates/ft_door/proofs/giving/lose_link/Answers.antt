use Rattle.ft_msg.specs.Answers.{link_fault_kind}
use Rattle.ft_msg.specs.Client.{drop_link}
use Rattle.ft_seqr.specs.declared.refusals.Refusal.TheVariants.{NotConnected}
use Rattle.ft_door.proofs.GivenSteps.{given-taken}
use Rattle.ft_door.proofs.giving.lose_link.Goals as goal

pub returns-in-Ok-clause-answers : goal.returns-in-Ok-clause-answers
returns-in-Ok-clause-answers g c =
    let state = g.R.Replica.state in
    given-taken link_fault_kind 0 drop_link (λ fault. NotConnected) (state c.args.replica.now) (state c.drop_link.new.self) c.in-Ok.ensures.answers
