use Rattle.std.proofs.Common.{subst}
use Rattle.ft_msg.specs.Answers.{Answers, link_fault_kind}
use Rattle.ft_msg.specs.Client.{connect}
use Rattle.ft_replica.specs.Kept.{state_of}
use Rattle.ft_replica.proofs.KnownSteps.{connect-known}
use Rattle.ft_replica.proofs.Replicas.{own-served}
use Rattle.ft_replica.proofs.replica.ReplicaOverReplica.connect.Goals as goal

pub invariant_of-self : goal.invariant_of-self
invariant_of-self g c =
    let i = c.self.inside in
    let D = g.D.OwnDocument in
    (own-served D.holds D.shown g.met.D.OwnDocument.shows link_fault_kind (λ x. connect x c.args.conn) i.client c.connect.new.self i.nameless c.connect.result (connect-known c.args.conn) c.self.invariant c.connect.ensures).keeps

pub returns : goal.returns
returns g c =
    let i = c.self.inside in
    let D = g.D.OwnDocument in
    subst (λ s. Answers link_fault_kind 0 (λ x. connect x c.args.conn) s (state_of D.shown c.connect.new.self) c.connect.result) c.self.view_is
    (own-served D.holds D.shown g.met.D.OwnDocument.shows link_fault_kind (λ x. connect x c.args.conn) i.client c.connect.new.self i.nameless c.connect.result (connect-known c.args.conn) c.self.invariant c.connect.ensures).answers
