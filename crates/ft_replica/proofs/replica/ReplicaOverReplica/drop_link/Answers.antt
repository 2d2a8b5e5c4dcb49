use Rattle.std.proofs.Common.{subst}
use Rattle.ft_msg.specs.Answers.{Answers, link_fault_kind}
use Rattle.ft_msg.specs.Client.{drop_link}
use Rattle.ft_replica.specs.Kept.{state_of}
use Rattle.ft_replica.proofs.KnownSteps.{drop-known}
use Rattle.ft_replica.proofs.Replicas.{own-served}
use Rattle.ft_replica.proofs.replica.ReplicaOverReplica.drop_link.Goals as goal

pub invariant_of-self : goal.invariant_of-self
invariant_of-self g c =
    let i = c.self.inside in
    let D = g.D.OwnDocument in
    (own-served D.holds D.shown g.met.D.OwnDocument.shows link_fault_kind drop_link i.client c.drop_link.new.self i.nameless c.drop_link.result drop-known c.self.invariant c.drop_link.ensures.answers).keeps

pub returns-clause-answers : goal.returns-clause-answers
returns-clause-answers g c =
    let i = c.self.inside in
    let D = g.D.OwnDocument in
    subst (λ s. Answers link_fault_kind 0 drop_link s (state_of D.shown c.drop_link.new.self) c.drop_link.result) c.self.view_is
    (own-served D.holds D.shown g.met.D.OwnDocument.shows link_fault_kind drop_link i.client c.drop_link.new.self i.nameless c.drop_link.result drop-known c.self.invariant c.drop_link.ensures.answers).answers
