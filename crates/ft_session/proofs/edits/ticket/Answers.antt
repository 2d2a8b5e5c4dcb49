-- All that is wanted is numbered.
use Rattle.std.proofs.Common.{◌∙◌, ap, sym}
use Rattle.ft_msg.specs.declared.views.Numbers.{Numbers}
use Rattle.ft_seqr.specs.World.{conn_of}
use Rattle.ft_session.proofs.OwnEvents.{by-view, client-wants, meets-view, unchanged}
use Rattle.ft_session.proofs.Submissions.{can-send, ticket-none, ticket-offline, ticket-taken}
use Rattle.ft_session.proofs.edits.ticket.Goals as goal

pub returns-in_default-clause-answers : goal.returns-in_default-clause-answers
returns-in_default-clause-answers g c = unchanged c.member.view_is
    (ticket-offline _ c.args.service.now c.args.count (ap (λ (n : Numbers). conn_of n.link) (sym c.numbers.ensures.numbers) ∙ sym c.conn_of.ensures ∙ c.in_default.is))

pub returns-in_default-wanted_count-clause-answers : goal.returns-in_default-wanted_count-clause-answers
returns-in_default-wanted_count-clause-answers g c = unchanged c.member.view_is
    (ticket-none _ c.args.service.now c.args.count c.in-Some.conn (ap (λ (n : Numbers). conn_of n.link) (sym c.numbers.ensures.numbers) ∙ sym c.conn_of.ensures ∙ c.in-Some.is)
    c.queued-have.result c.queued-have.ensures (sym c.wanted_count.ensures ∙ c.in_default-wanted_count.is))

pub submit_oldest-requires : goal.submit_oldest-requires
submit_oldest-requires g c = can-send _ c.args.service.now c.args.count c.in-Some.conn
    (ap (λ (n : Numbers). conn_of n.link) (sym c.numbers.ensures.numbers) ∙ sym c.conn_of.ensures ∙ c.in-Some.is) c.queued-have.result c.in-Some-wanted_count.wanted
    c.queued-have.ensures (sym c.wanted_count.ensures ∙ c.in-Some-wanted_count.is) (meets-view c.member.view_is c.requires)

pub returns-in_err-submit_oldest-clause-answers : goal.returns-in_err-submit_oldest-clause-answers
returns-in_err-submit_oldest-clause-answers g c = client-wants c.in_err-submit_oldest.field-0.0 c.from_residual.result c.from_residual.ensures c.submit_oldest.result (c.in_err-submit_oldest.was)
    (c.in_err-submit_oldest.was ∙ c.in_err-submit_oldest.ensures.memory)

pub returns-clause-answers : goal.returns-clause-answers
returns-clause-answers g c = rw c.nothing.ensures (by-view c.member.view_is
    (ticket-taken _ c.args.service.now c.args.count c.in-Some.conn (ap (λ (n : Numbers). conn_of n.link) (sym c.numbers.ensures.numbers) ∙ sym c.conn_of.ensures ∙ c.in-Some.is)
    c.queued-have.result c.in-Some-wanted_count.wanted c.queued-have.ensures (sym c.wanted_count.ensures ∙ c.in-Some-wanted_count.is) c.submit_oldest.new.service _
    (λ w v h k. c.in_ok-submit_oldest.ensures.service w v h k) c.in_ok-submit_oldest.ensures.replica))
