-- The replica's answer to the noop.
use Rattle.ft_msg.specs.Answers.{link_fault_kind}
use Rattle.ft_msg.specs.Client.{noop}
use Rattle.ft_seqr.specs.Refusals.{refusal_of_link}
use Rattle.ft_session.proofs.Numbers.{noop-number}
use Rattle.ft_session.proofs.OwnEvents.{by-view, own-refused-as, own-taken}
use Rattle.ft_session.proofs.RefusalKinds.{link-alike}
use Rattle.ft_session.proofs.links.noop.Goals as goal

pub returns-in_err-noop-clause-answers : goal.returns-in_err-noop-clause-answers
returns-in_err-noop-clause-answers g c = by-view c.member.view_is
    (own-refused-as link_fault_kind refusal_of_link noop _ c.args.service.now _ c.in_err-noop.field-0.0 c.from_residual.result (link-alike _) c.in_err-noop.ensures c.from_residual.ensures)

pub returns-clause-answers : goal.returns-clause-answers
returns-clause-answers g c = rw c.nothing.ensures (by-view c.member.view_is (own-taken link_fault_kind refusal_of_link noop _ c.args.service.now _ noop-number c.in_ok-noop.ensures))
