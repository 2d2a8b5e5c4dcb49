use Rattle.std.proofs.Common.{◌≡◌, ◌+◌, ◌∷◌, ◌++◌, [], ap, subst, sym, refl, rules, ◌∙◌}
use Rattle.std.proofs.lemmas.Result.{err_from_is_err_and}
use Rattle.ft_msg.specs.Answers.{edit_fault_kind}
use Rattle.ft_msg.specs.Client.{local_edit, sent_as}
use Rattle.ft_changes.specs.Told.{told_of_edit}
use Rattle.ft_replica.specs.Linked.{Anyone, KeepsLink, LinkedState, MeansFault, Refuses, RunsForOne, Takes}
use Rattle.ft_replica.specs.Telling.{AddsTold}
use Rattle.ft_replica.specs.Unsent.{with_sent}
use Rattle.ft_replica.proofs.LinkedEdits.{edit-refuses, edit-takes}
use Rattle.ft_replica.proofs.LinkedSteps.{holds-one, state}
use Rattle.ft_replica.proofs.ToldSteps.{went-well}
use Rattle.ft_replica.proofs.linked.LinkedClient.edit_telling.Goals as goal

pub edit_document-requires-clause-known : goal.edit_document-requires-clause-known
edit_document-requires-clause-known g c =
    let i = c.self.inside in
    let holds = g.D.OwnDocument.holds in
    let old = state i.doc i.link i.conns i.last_stage i.outbox i.pending in
    let runs = subst (λ s. RunsForOne holds s Anyone) (sym c.self.view_is) c.requires.known in
    holds-one holds old Anyone (λ p. p.last_stage ≡ i.last_stage) runs (λ p fits rest. sym (ap (λ (s : LinkedState _). s.last_stage) rest))

pub returns-in_err-edit-clause-answers : goal.returns-in_err-edit-clause-answers
returns-in_err-edit-clause-answers g c =
    let i = c.self.inside in
    let holds = g.D.OwnDocument.holds in
    let op = c.args.op.now in
    let fault = c.in_err-edit.field-0.0 in
    let old = state i.doc i.link i.conns i.last_stage i.outbox i.pending in
    let new = state c.edit_document.new.doc i.link i.conns i.last_stage i.outbox i.pending in
    let runs = subst (λ s. RunsForOne holds s Anyone) (sym c.self.view_is) c.requires.known in
    let given = err_from_is_err_and c.from_residual.result c.from_residual.ensures.1 in
    rw (given.1, given.2)
    (subst (λ s. MeansFault (edit_fault_kind fault) (KeepsLink s new) (Refuses holds (λ p. local_edit p op) fault s new)) c.self.view_is
    (edit-refuses holds op old c.edit_document.new.doc fault new runs c.in_err-edit.ensures.answers refl))

pub returns-clause-answers : goal.returns-clause-answers
returns-clause-answers g c =
    let i = c.self.inside in
    let holds = g.D.OwnDocument.holds in
    let op = c.args.op.now in
    let e = c.edit_document.new.doc in
    let count = c.in_ok-edit.edit.stages in
    let answered = c.in_ok-edit.ensures.answers in
    let ref = c.number-ref_seq.result in
    let sent = sent_as i.link i.outbox.next op in
    let old = state i.doc i.link i.conns i.last_stage i.outbox i.pending in
    let new = c.keep_telling.new.self in
    let is : new ≡ state e i.link i.conns (i.last_stage + count) (with_sent sent ref i.outbox)
    (i.pending ++ (record { count = count; ref_seq = ref; sent = sent } ∷ [])) = search rules in
    subst (λ s. Takes holds (λ p. local_edit p op) s new) c.self.view_is
    (edit-takes holds op old e g.D.OwnDocument.shown count ref sent new g.met.D.OwnDocument.shows answered c.number-ref_seq.ensures.told refl is)

pub returns-clause-told : goal.returns-clause-told
returns-clause-told g c =
    let i = c.self.inside in
    let holds = g.D.OwnDocument.holds in
    let op = c.args.op.now in
    let old = state i.doc i.link i.conns i.last_stage i.outbox i.pending in
    subst (λ s. AddsTold holds (λ p. told_of_edit p op) s c.args.changes.now c.keep_telling.new.changes) c.self.view_is
    (λ start low p made l.
    went-well c.keep_telling.result (sym c.if-is_err.ensures.value) c.keep_telling.ensures.added ∙ ap (λ cs. c.args.changes.now ++ cs) (c.in_ok-edit.ensures.told start low p made (sym (ap (λ (s : LinkedState _). s.last_stage) l.rest)) l.document))
