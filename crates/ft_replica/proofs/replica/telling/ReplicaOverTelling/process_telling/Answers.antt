use Rattle.std.proofs.Common.{◌||◌, subst}
use Rattle.std.specs.Prelude.{OnOk}
use Rattle.ft_msg.specs.Answers.{Answers, process_fault_kind}
use Rattle.ft_msg.specs.Process.{process}
use Rattle.ft_changes.specs.Telling.{TellsChanges}
use Rattle.ft_changes.specs.Told.{told_of_entry}
use Rattle.ft_replica.specs.Kept.{is_of_nobody, state_of}
use Rattle.ft_replica.specs.Linked.{Anyone}
use Rattle.ft_replica.proofs.ReplicaEntries.{entry-served, nameless-kept, nameless-taken}
use Rattle.ft_replica.proofs.Replicas.{kept-runs}
use Rattle.ft_replica.proofs.ToldReplicas.{entry-told}
use Rattle.ft_replica.proofs.replica.telling.ReplicaOverTelling.process_telling.Goals as goal

pub process_telling-answer-requires-clause-known : goal.process_telling-answer-requires-clause-known
process_telling-answer-requires-clause-known g c =
    let i = c.self.inside in
    let D = g.D.OwnDocument in
    λ e. kept-runs D.holds D.shown g.met.D.OwnDocument.shows i.client.client i.client.origin i.nameless Anyone (c.self.invariant e) tt

pub invariant_of-self : goal.invariant_of-self
invariant_of-self g c =
    let i = c.self.inside in
    let D = g.D.OwnDocument in
    let entry = c.args.entry.now in
    let is = c.is_nameless_after-self-inside.result in
    let new = c.process_telling-answer.new.self in
    let said = nameless-taken c.process_telling-answer.result i.nameless (is_of_nobody entry || i.nameless) is c.if-is_ok.ensures.value c.is_nameless_after-self-inside.ensures in
    (entry-served D.holds D.shown g.met.D.OwnDocument.shows i.client new i.nameless entry c.requires c.process_telling-answer.result c.self.invariant c.process_telling-answer.ensures.answers is said).keeps

pub invariant_of-self-else-is_ok : goal.invariant_of-self-else-is_ok
invariant_of-self-else-is_ok g c =
    let i = c.self.inside in
    let D = g.D.OwnDocument in
    let entry = c.args.entry.now in
    let new = c.process_telling-answer.new.self in
    let said = nameless-kept c.process_telling-answer.result i.nameless (is_of_nobody entry || i.nameless) c.if-is_ok.ensures.value in
    (entry-served D.holds D.shown g.met.D.OwnDocument.shows i.client new i.nameless entry c.requires c.process_telling-answer.result c.self.invariant c.process_telling-answer.ensures.answers i.nameless said).keeps

pub returns-then-is_ok-clause-answers : goal.returns-then-is_ok-clause-answers
returns-then-is_ok-clause-answers g c =
    let i = c.self.inside in
    let D = g.D.OwnDocument in
    let entry = c.args.entry.now in
    let is = c.is_nameless_after-self-inside.result in
    let new = c.process_telling-answer.new.self in
    let said = nameless-taken c.process_telling-answer.result i.nameless (is_of_nobody entry || i.nameless) is c.if-is_ok.ensures.value c.is_nameless_after-self-inside.ensures in
    subst (λ s. Answers process_fault_kind entry.origin (λ x. process x entry) s (state_of D.shown new) c.process_telling-answer.result) c.self.view_is
    (entry-served D.holds D.shown g.met.D.OwnDocument.shows i.client new i.nameless entry c.requires c.process_telling-answer.result c.self.invariant c.process_telling-answer.ensures.answers is said).answers

pub returns-else-is_ok-clause-answers : goal.returns-else-is_ok-clause-answers
returns-else-is_ok-clause-answers g c =
    let i = c.self.inside in
    let D = g.D.OwnDocument in
    let entry = c.args.entry.now in
    let new = c.process_telling-answer.new.self in
    let said = nameless-kept c.process_telling-answer.result i.nameless (is_of_nobody entry || i.nameless) c.if-is_ok.ensures.value in
    subst (λ s. Answers process_fault_kind entry.origin (λ x. process x entry) s (state_of D.shown new) c.process_telling-answer.result) c.self.view_is
    (entry-served D.holds D.shown g.met.D.OwnDocument.shows i.client new i.nameless entry c.requires c.process_telling-answer.result c.self.invariant c.process_telling-answer.ensures.answers i.nameless said).answers

pub returns-then-is_ok-clause-told : goal.returns-then-is_ok-clause-told
returns-then-is_ok-clause-told g c =
    let i = c.self.inside in
    let D = g.D.OwnDocument in
    let entry = c.args.entry.now in
    let answer = c.process_telling-answer in
    subst (λ s. OnOk answer.result (TellsChanges (λ x. process x entry) (λ x. told_of_entry x entry) s c.args.changes.now answer.new.changes)) c.self.view_is
    (entry-told D.holds D.shown g.met.D.OwnDocument.shows i.client answer.new.self i.nameless c.args.changes.now answer.new.changes entry c.requires answer.result
    c.self.invariant answer.ensures.answers answer.ensures.told)

pub returns-else-is_ok-clause-told : goal.returns-else-is_ok-clause-told
returns-else-is_ok-clause-told g c =
    let i = c.self.inside in
    let D = g.D.OwnDocument in
    let entry = c.args.entry.now in
    let answer = c.process_telling-answer in
    subst (λ s. OnOk answer.result (TellsChanges (λ x. process x entry) (λ x. told_of_entry x entry) s c.args.changes.now answer.new.changes)) c.self.view_is
    (entry-told D.holds D.shown g.met.D.OwnDocument.shows i.client answer.new.self i.nameless c.args.changes.now answer.new.changes entry c.requires answer.result
    c.self.invariant answer.ensures.answers answer.ensures.told)
