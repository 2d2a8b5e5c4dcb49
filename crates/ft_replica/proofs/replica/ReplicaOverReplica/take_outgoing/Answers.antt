use Rattle.ft_replica.proofs.Replicas.{sent-kept}
use Rattle.ft_replica.proofs.replica.ReplicaOverReplica.take_outgoing.Goals as goal

pub invariant_of-self : goal.invariant_of-self
invariant_of-self g c =
    let i = c.self.inside in
    let D = g.D.OwnDocument in
    sent-kept D.holds D.shown g.met.D.OwnDocument.shows i.client c.take_outgoing.new.self i.nameless c.self.invariant c.take_outgoing.ensures.rest
