use Rattle.std.proofs.Common.{◌||◌, subst}
use Rattle.ft_msg.specs.Answers.{Answers, process_fault_kind}
use Rattle.ft_msg.specs.Process.{process}
use Rattle.ft_replica.specs.Kept.{is_of_nobody, state_of}
use Rattle.ft_replica.specs.Linked.{Anyone}
use Rattle.ft_replica.proofs.ReplicaEntries.{entry-served, nameless-kept, nameless-taken}
use Rattle.ft_replica.proofs.Replicas.{kept-runs}
use Rattle.ft_replica.proofs.replica.ReplicaOverReplica.process.Goals as goal

pub process-answer-requires-clause-known : goal.process-answer-requires-clause-known
process-answer-requires-clause-known g c =
    let i = c.self.inside in
    let D = g.D.OwnDocument in
    λ e. kept-runs D.holds D.shown g.met.D.OwnDocument.shows i.client.client i.client.origin i.nameless Anyone (c.self.invariant e) tt

pub invariant_of-self : goal.invariant_of-self
invariant_of-self g c =
    let i = c.self.inside in
    let D = g.D.OwnDocument in
    let entry = c.args.entry.now in
    let is = c.is_nameless_after-self-inside.result in
    let new = c.process-answer.new.self in
    let said = nameless-taken c.process-answer.result i.nameless (is_of_nobody entry || i.nameless) is c.if-is_ok.ensures.value c.is_nameless_after-self-inside.ensures in
    (entry-served D.holds D.shown g.met.D.OwnDocument.shows i.client new i.nameless entry c.requires c.process-answer.result c.self.invariant c.process-answer.ensures is said).keeps

pub invariant_of-self-else-is_ok : goal.invariant_of-self-else-is_ok
invariant_of-self-else-is_ok g c =
    let i = c.self.inside in
    let D = g.D.OwnDocument in
    let entry = c.args.entry.now in
    let new = c.process-answer.new.self in
    let said = nameless-kept c.process-answer.result i.nameless (is_of_nobody entry || i.nameless) c.if-is_ok.ensures.value in
    (entry-served D.holds D.shown g.met.D.OwnDocument.shows i.client new i.nameless entry c.requires c.process-answer.result c.self.invariant c.process-answer.ensures i.nameless said).keeps

pub returns-then-is_ok : goal.returns-then-is_ok
returns-then-is_ok g c =
    let i = c.self.inside in
    let D = g.D.OwnDocument in
    let entry = c.args.entry.now in
    let is = c.is_nameless_after-self-inside.result in
    let new = c.process-answer.new.self in
    let said = nameless-taken c.process-answer.result i.nameless (is_of_nobody entry || i.nameless) is c.if-is_ok.ensures.value c.is_nameless_after-self-inside.ensures in
    subst (λ s. Answers process_fault_kind entry.origin (λ x. process x entry) s (state_of D.shown new) c.process-answer.result) c.self.view_is
    (entry-served D.holds D.shown g.met.D.OwnDocument.shows i.client new i.nameless entry c.requires c.process-answer.result c.self.invariant c.process-answer.ensures is said).answers

pub returns-else-is_ok : goal.returns-else-is_ok
returns-else-is_ok g c =
    let i = c.self.inside in
    let D = g.D.OwnDocument in
    let entry = c.args.entry.now in
    let new = c.process-answer.new.self in
    let said = nameless-kept c.process-answer.result i.nameless (is_of_nobody entry || i.nameless) c.if-is_ok.ensures.value in
    subst (λ s. Answers process_fault_kind entry.origin (λ x. process x entry) s (state_of D.shown new) c.process-answer.result) c.self.view_is
    (entry-served D.holds D.shown g.met.D.OwnDocument.shows i.client new i.nameless entry c.requires c.process-answer.result c.self.invariant c.process-answer.ensures i.nameless said).answers
