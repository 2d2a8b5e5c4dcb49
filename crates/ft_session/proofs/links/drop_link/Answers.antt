-- The service's answer to the connection that leaves, and the replica's.
use Rattle.std.proofs.Common.{◌∙◌, ap, sym}
use Rattle.ft_msg.specs.declared.views.Numbers.{Numbers}
use Rattle.ft_seqr.specs.Refusals.{refusal_of_link}
use Rattle.ft_seqr.specs.World.{conn_of}
use Rattle.ft_session.proofs.LinkEvents.{drop-offline, drop-refused, drop-taken, drop-wanting}
use Rattle.ft_session.proofs.OwnEvents.{by-view, client-handed, unchanged}
use Rattle.ft_session.proofs.links.drop_link.Goals as goal

pub returns-in_default-clause-answers : goal.returns-in_default-clause-answers
returns-in_default-clause-answers g c = unchanged c.member.view_is
    (drop-offline _ c.args.service.now (ap (λ (n : Numbers). conn_of n.link) (sym c.numbers.ensures.numbers) ∙ sym c.conn_of.ensures ∙ c.in_default.is))

pub returns-in_err-leave-clause-answers : goal.returns-in_err-leave-clause-answers
returns-in_err-leave-clause-answers g c = unchanged c.member.view_is
    (client-handed c.in_err-leave.field-0.0 c.from_residual.result c.from_residual.ensures
    (drop-refused _ c.args.service.now c.in-Some.conn (ap (λ (n : Numbers). conn_of n.link) (sym c.numbers.ensures.numbers) ∙ sym c.conn_of.ensures ∙ c.in-Some.is)
    c.in_err-leave.field-0.0 c.leave.new.self (λ w h. c.in_err-leave.ensures w h)))

pub returns-in_err-drop_link-clause-answers : goal.returns-in_err-drop_link-clause-answers
returns-in_err-drop_link-clause-answers g c = by-view c.member.view_is
    (client-handed (refusal_of_link c.in_err-drop_link.field-0.0) c.from_residual-in_err-drop_link.result c.from_residual-in_err-drop_link.ensures
    (drop-wanting _ c.args.service.now c.in-Some.conn (ap (λ (n : Numbers). conn_of n.link) (sym c.numbers.ensures.numbers) ∙ sym c.conn_of.ensures ∙ c.in-Some.is)
    c.leave.new.self _ c.in_err-drop_link.field-0.0 c.in_err-drop_link.ensures.answers))

pub returns-clause-answers : goal.returns-clause-answers
returns-clause-answers g c = rw c.nothing.ensures (by-view c.member.view_is
    (drop-taken _ c.args.service.now c.in-Some.conn (ap (λ (n : Numbers). conn_of n.link) (sym c.numbers.ensures.numbers) ∙ sym c.conn_of.ensures ∙ c.in-Some.is)
    c.leave.new.self _ (λ w h. c.in_ok-leave.ensures w h) c.in_ok-drop_link.ensures.answers))
