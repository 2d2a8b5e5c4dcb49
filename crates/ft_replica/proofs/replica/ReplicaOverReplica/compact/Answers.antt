use Rattle.std.proofs.Common.{Ok, subst}
use Rattle.ft_msg.specs.Answers.{Answers, view_fault_kind}
use Rattle.ft_replica.specs.Kept.{state_of}
use Rattle.ft_replica.specs.Linked.{Anyone}
use Rattle.ft_replica.proofs.ReplicaEntries.{compaction-full, compaction-served}
use Rattle.ft_replica.proofs.Replicas.{kept-runs}
use Rattle.ft_replica.proofs.replica.ReplicaOverReplica.compact.Goals as goal

pub compact-requires : goal.compact-requires
compact-requires g c =
    let i = c.self.inside in
    let D = g.D.OwnDocument in
    λ e. kept-runs D.holds D.shown g.met.D.OwnDocument.shows i.client.client i.client.origin i.nameless Anyone (c.self.invariant e) tt

pub invariant_of-self : goal.invariant_of-self
invariant_of-self g c =
    let i = c.self.inside in
    let D = g.D.OwnDocument in
    (compaction-served D.holds D.shown g.met.D.OwnDocument.shows i.client c.compact.new.self i.nameless c.compact.result c.self.invariant c.compact.ensures.answers).keeps

pub returns-clause-answers : goal.returns-clause-answers
returns-clause-answers g c =
    let i = c.self.inside in
    let D = g.D.OwnDocument in
    subst (λ s. Answers view_fault_kind 0 (λ x. Ok x) s (state_of D.shown c.compact.new.self) c.compact.result) c.self.view_is
    (compaction-served D.holds D.shown g.met.D.OwnDocument.shows i.client c.compact.new.self i.nameless c.compact.result c.self.invariant c.compact.ensures.answers).answers

pub returns-clause-full : goal.returns-clause-full
returns-clause-full g c = λ h.
    let i = c.self.inside in
    let D = g.D.OwnDocument in
    compaction-full D.holds D.shown g.met.D.OwnDocument.shows i.client c.compact.new.self i.nameless c.compact.result c.self.invariant c.compact.ensures.answers (c.compact.ensures.full h)
