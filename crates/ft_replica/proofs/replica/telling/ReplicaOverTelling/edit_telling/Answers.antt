use Rattle.std.proofs.Common.{subst}
use Rattle.std.specs.Prelude.{OnOk}
use Rattle.ft_msg.specs.Answers.{Answers, edit_fault_kind}
use Rattle.ft_msg.specs.Client.{local_edit}
use Rattle.ft_changes.specs.Telling.{TellsChanges}
use Rattle.ft_changes.specs.Told.{told_of_edit}
use Rattle.ft_replica.specs.Kept.{state_of}
use Rattle.ft_replica.specs.Linked.{Anyone}
use Rattle.ft_replica.proofs.KnownSteps.{edit-known}
use Rattle.ft_replica.proofs.Replicas.{kept-runs, own-served}
use Rattle.ft_replica.proofs.ToldReplicas.{edit-tells-on}
use Rattle.ft_replica.proofs.replica.telling.ReplicaOverTelling.edit_telling.Goals as goal

pub edit_telling-requires-clause-known : goal.edit_telling-requires-clause-known
edit_telling-requires-clause-known g c =
    let i = c.self.inside in
    let D = g.D.OwnDocument in
    λ e. kept-runs D.holds D.shown g.met.D.OwnDocument.shows i.client.client i.client.origin i.nameless Anyone (c.self.invariant e) tt

pub invariant_of-self : goal.invariant_of-self
invariant_of-self g c =
    let i = c.self.inside in
    let D = g.D.OwnDocument in
    (own-served D.holds D.shown g.met.D.OwnDocument.shows edit_fault_kind (λ x. local_edit x c.args.op.now) i.client c.edit_telling.new.self i.nameless c.edit_telling.result (edit-known c.args.op.now)
    c.self.invariant c.edit_telling.ensures.answers).keeps

pub returns-clause-answers : goal.returns-clause-answers
returns-clause-answers g c =
    let i = c.self.inside in
    let D = g.D.OwnDocument in
    subst (λ s. Answers edit_fault_kind 0 (λ x. local_edit x c.args.op.now) s (state_of D.shown c.edit_telling.new.self) c.edit_telling.result) c.self.view_is
    (own-served D.holds D.shown g.met.D.OwnDocument.shows edit_fault_kind (λ x. local_edit x c.args.op.now) i.client c.edit_telling.new.self i.nameless c.edit_telling.result (edit-known c.args.op.now)
    c.self.invariant c.edit_telling.ensures.answers).answers

pub returns-clause-told : goal.returns-clause-told
returns-clause-told g c =
    let i = c.self.inside in
    let D = g.D.OwnDocument in
    let op = c.args.op.now in
    subst (λ s. OnOk c.edit_telling.result (TellsChanges (λ x. local_edit x op) (λ x. told_of_edit x op) s c.args.changes.now c.edit_telling.new.changes)) c.self.view_is
    (edit-tells-on D.holds D.shown g.met.D.OwnDocument.shows i.client c.edit_telling.new.self i.nameless c.args.changes.now c.edit_telling.new.changes op c.edit_telling.result
    c.self.invariant c.edit_telling.ensures.answers c.edit_telling.ensures.told)
