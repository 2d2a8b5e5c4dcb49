use Rattle.std.proofs.Common.{subst}
use Rattle.ft_msg.specs.Answers.{Answers, link_fault_kind}
use Rattle.ft_msg.specs.Client.{noop}
use Rattle.ft_replica.specs.Kept.{state_of}
use Rattle.ft_replica.proofs.KnownSteps.{noop-known}
use Rattle.ft_replica.proofs.Replicas.{own-served}
use Rattle.ft_replica.proofs.replica.ReplicaOverReplica.noop.Goals as goal

pub invariant_of-self : goal.invariant_of-self
invariant_of-self g c =
    let i = c.self.inside in
    let D = g.D.OwnDocument in
    (own-served D.holds D.shown g.met.D.OwnDocument.shows link_fault_kind noop i.client c.noop.new.self i.nameless c.noop.result noop-known c.self.invariant c.noop.ensures).keeps

pub returns : goal.returns
returns g c =
    let i = c.self.inside in
    let D = g.D.OwnDocument in
    subst (λ s. Answers link_fault_kind 0 noop s (state_of D.shown c.noop.new.self) c.noop.result) c.self.view_is
    (own-served D.holds D.shown g.met.D.OwnDocument.shows link_fault_kind noop i.client c.noop.new.self i.nameless c.noop.result noop-known c.self.invariant c.noop.ensures).answers
