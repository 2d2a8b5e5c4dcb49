use Rattle.std.proofs.Common.{◌≡◌, ◌+◌, ◌∷◌, ◌++◌, [], subst, sym, refl, rules}
use Rattle.std.proofs.lemmas.Result.{err_from_is_err_and}
use Rattle.ft_msg.specs.Answers.{edit_fault_kind}
use Rattle.ft_msg.specs.Client.{local_edit, sent_as}
use Rattle.ft_replica.specs.Linked.{Anyone, KeepsLink, MeansFault, Refuses, RunsForOne, Takes}
use Rattle.ft_replica.specs.Unsent.{with_sent}
use Rattle.ft_replica.proofs.LinkedEdits.{edit-refuses, edit-takes}
use Rattle.ft_replica.proofs.LinkedSteps.{state}
use Rattle.ft_replica.proofs.linked.LinkedClient.edit.Goals as goal

pub returns-in_err-count-clause-answers : goal.returns-in_err-count-clause-answers
returns-in_err-count-clause-answers g c =
    let i = c.self.inside in
    let holds = g.D.OwnDocument.holds in
    let op = c.args.op.now in
    let fault = c.in_err-count.field-0.0 in
    let old = state i.doc i.link i.conns i.last_stage i.outbox i.pending in
    let new = state c.edit.new.self i.link i.conns i.last_stage i.outbox i.pending in
    let runs = subst (λ s. RunsForOne holds s Anyone) (sym c.self.view_is) c.requires.known in
    let given = err_from_is_err_and c.from_residual.result c.from_residual.ensures.1 in
    rw (given.1, given.2)
    (subst (λ s. MeansFault (edit_fault_kind fault) (KeepsLink s new) (Refuses holds (λ p. local_edit p op) fault s new)) c.self.view_is
    (edit-refuses holds op old c.edit.new.self fault new runs c.in_err-count.ensures.answers refl))

pub returns-clause-answers : goal.returns-clause-answers
returns-clause-answers g c =
    let i = c.self.inside in
    let holds = g.D.OwnDocument.holds in
    let op = c.args.op.now in
    let e = c.edit.new.self in
    let count = c.in_ok-count.count in
    let answered = c.in_ok-count.ensures.answers in
    let ref = c.number-ref_seq.result in
    let sent = sent_as i.link i.outbox.next op in
    let old = state i.doc i.link i.conns i.last_stage i.outbox i.pending in
    let new = c.keep_edit.new.self in
    let is : new ≡ state e i.link i.conns (i.last_stage + count) (with_sent sent ref i.outbox)
    (i.pending ++ (record { count = count; ref_seq = ref; sent = sent } ∷ [])) = search rules in
    subst (λ s. Takes holds (λ p. local_edit p op) s new) c.self.view_is
    (edit-takes holds op old e g.D.OwnDocument.shown count ref sent new g.met.D.OwnDocument.shows answered c.number-ref_seq.ensures.told refl is)
