use Rattle.std.proofs.Common.{subst}
use Rattle.ft_msg.specs.Answers.{Answers, edit_fault_kind}
use Rattle.ft_msg.specs.Client.{local_edit}
use Rattle.ft_replica.specs.Kept.{state_of}
use Rattle.ft_replica.specs.Linked.{Anyone}
use Rattle.ft_replica.proofs.KnownSteps.{edit-known}
use Rattle.ft_replica.proofs.Replicas.{kept-runs, own-served}
use Rattle.ft_replica.proofs.replica.ReplicaOver.edit_counted.Goals as goal

pub edit-requires-clause-known : goal.edit-requires-clause-known
edit-requires-clause-known g c =
    let i = c.self.inside in
    let D = g.D.OwnDocument in
    λ e. kept-runs D.holds D.shown g.met.D.OwnDocument.shows i.client.client i.client.origin i.nameless Anyone (c.self.invariant e) tt

pub invariant_of-self : goal.invariant_of-self
invariant_of-self g c =
    let i = c.self.inside in
    let D = g.D.OwnDocument in
    (own-served D.holds D.shown g.met.D.OwnDocument.shows edit_fault_kind (λ x. local_edit x c.args.op.now) i.client c.edit.new.self i.nameless c.edit.result (edit-known c.args.op.now) c.self.invariant c.edit.ensures.answers).keeps

pub returns-clause-answers : goal.returns-clause-answers
returns-clause-answers g c =
    let i = c.self.inside in
    let D = g.D.OwnDocument in
    subst (λ s. Answers edit_fault_kind 0 (λ x. local_edit x c.args.op.now) s (state_of D.shown c.edit.new.self) c.edit.result) c.self.view_is
    (own-served D.holds D.shown g.met.D.OwnDocument.shows edit_fault_kind (λ x. local_edit x c.args.op.now) i.client c.edit.new.self i.nameless c.edit.result (edit-known c.args.op.now) c.self.invariant c.edit.ensures.answers).answers
