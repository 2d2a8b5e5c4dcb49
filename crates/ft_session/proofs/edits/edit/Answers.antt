-- The replica's answer to the edit.
use Rattle.ft_msg.specs.Answers.{edit_fault_kind}
use Rattle.ft_msg.specs.Client.{local_edit}
use Rattle.ft_seqr.specs.Refusals.{refusal_of_edit}
use Rattle.ft_session.proofs.Numbers.{edit-number}
use Rattle.ft_session.proofs.OwnEvents.{by-view, own-refused-as, own-taken}
use Rattle.ft_session.proofs.RefusalKinds.{edit-alike}
use Rattle.ft_session.proofs.edits.edit.Goals as goal

pub returns-in_err-edit-clause-answers : goal.returns-in_err-edit-clause-answers
returns-in_err-edit-clause-answers g c = by-view c.member.view_is
    (own-refused-as edit_fault_kind refusal_of_edit (λ x. local_edit x c.args.op.now) _ c.args.service.now _ c.in_err-edit.field-0.0 c.from_residual.result (edit-alike _) c.in_err-edit.ensures c.from_residual.ensures)

pub returns-clause-answers : goal.returns-clause-answers
returns-clause-answers g c = rw c.nothing.ensures (by-view c.member.view_is
    (own-taken edit_fault_kind refusal_of_edit (λ x. local_edit x c.args.op.now) _ c.args.service.now _ (edit-number c.args.op.now) c.in_ok-edit.ensures))
