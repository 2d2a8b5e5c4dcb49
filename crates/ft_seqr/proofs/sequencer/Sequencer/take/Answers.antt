use Rattle.std.proofs.Common.{◌≡◌, Ok, subst, sym}
use Rattle.std.proofs.lemmas.Result.{err_from_is_err_and, IfErr-at_err, IfOk-at_ok}
use Rattle.ft_msg.specs.declared.messages.Draft.{Draft}
use Rattle.ft_seqr.specs.Sequencer.{submit}
use Rattle.ft_seqr.specs.SequencerCalls.{AreSmall, Sends}
use Rattle.ft_seqr.proofs.sequencer.Sequencer.take.Goals as goal

pub number_draft-requires-clause-number : goal.number_draft-requires-clause-number
number_draft-requires-clause-number c = IfOk-at_ok _ c.in_ok-sender.ensures.made c.sender.ensures.number

pub number_draft-requires-clause-small : goal.number_draft-requires-clause-small
number_draft-requires-clause-small c =
    subst AreSmall (sym c.in_ok-sender.ensures.value) (IfOk-at_ok (λ _. AreSmall c.args.draft) c.in_ok-sender.ensures.made c.sender.ensures.small)

pub returns-clause-ok : goal.returns-clause-ok
returns-clause-ok c =
    let q = c.args.self.now in
    let conn = c.args.conn in
    let sender = c.in_ok-sender.sender in
    let same = c.in_ok-sender.ensures.value in
    let sends = IfOk-at_ok (Sends q conn c.args.draft) c.in_ok-sender.ensures.made c.sender.ensures.ok in
    subst (λ (d : Draft). submit q conn d ≡ Ok (c.number_draft.new.self, c.number_draft.result)) same
    (c.number_draft.ensures conn (subst (λ (d : Draft). Sends q conn d sender) (sym same) sends))

pub returns-in_err-sender-clause-fault : goal.returns-in_err-sender-clause-fault
returns-in_err-sender-clause-fault c =
    let p = err_from_is_err_and c.from_residual.result c.from_residual.ensures.1 in
    rw (p.1, p.2) (IfErr-at_err _ c.in_err-sender.ensures.err c.sender.ensures.fault)
