-- The message is read, and is taken as one that is offered.
use Rattle.std.proofs.Common.{◌∙◌, Err, ap, subst, sym}
use Rattle.ft_msg.specs.Answers.{numbers_of}
use Rattle.ft_seqr.specs.declared.refusals.Refusal.{Refusal}
use Rattle.ft_session.specs.Acts.{offered_client}
use Rattle.ft_session.specs.Worlds.{AnswersClient, MemberState}
use Rattle.ft_session.proofs.Processed.{has-conn, has-none, its-link, offer-offline, offer-read, offer-unread}
use Rattle.ft_session.proofs.deliveries.offer.Goals as goal

pub returns-then-is_none-clause-answers : goal.returns-then-is_none-clause-answers
returns-then-is_none-clause-answers g c = offer-offline c.args.member.now c.args.service.now c.args.read.now
    (its-link c.args.member.now c.args.service.now c.numbers.result (c.numbers.ensures.numbers ∙ ap (λ (m : MemberState). numbers_of m.replica) c.member.view_is) c.conn_of.result c.conn_of.ensures ∙ has-none c.conn_of.result c.is_none.result c.is_none.ensures c.if-is_none.true)

pub returns-in-Err-clause-answers : goal.returns-in-Err-clause-answers
returns-in-Err-clause-answers g c =
    subst (λ (why : Refusal). AnswersClient (λ w d. offered_client w d c.args.read.now) c.args.member.now c.args.member.now c.args.service.now c.args.service.now (Err why)) (sym c.of_cause.ensures)
    (offer-unread c.args.member.now c.args.service.now c.args.read.now (has-conn c.conn_of.result c.is_none.result c.is_none.ensures c.if-is_none.false).0 (its-link c.args.member.now c.args.service.now c.numbers.result (c.numbers.ensures.numbers ∙ ap (λ (m : MemberState). numbers_of m.replica) c.member.view_is) c.conn_of.result c.conn_of.ensures ∙ (has-conn c.conn_of.result c.is_none.result c.is_none.ensures c.if-is_none.false).1) c.in-Err.cause c.in-Err.is)

pub offer_message-requires-clause-linked : goal.offer_message-requires-clause-linked
offer_message-requires-clause-linked g c = record { conn = (has-conn c.conn_of.result c.is_none.result c.is_none.ensures c.if-is_none.false).0; of = (its-link c.args.member.now c.args.service.now c.numbers.result (c.numbers.ensures.numbers ∙ ap (λ (m : MemberState). numbers_of m.replica) c.member.view_is) c.conn_of.result c.conn_of.ensures ∙ (has-conn c.conn_of.result c.is_none.result c.is_none.ensures c.if-is_none.false).1) }

pub returns-in-Ok-clause-answers : goal.returns-in-Ok-clause-answers
returns-in-Ok-clause-answers g c = offer-read c.args.member.now c.args.service.now c.args.read.now (has-conn c.conn_of.result c.is_none.result c.is_none.ensures c.if-is_none.false).0 (its-link c.args.member.now c.args.service.now c.numbers.result (c.numbers.ensures.numbers ∙ ap (λ (m : MemberState). numbers_of m.replica) c.member.view_is) c.conn_of.result c.conn_of.ensures ∙ (has-conn c.conn_of.result c.is_none.result c.is_none.ensures c.if-is_none.false).1) c.in-Ok.message c.in-Ok.is _ c.offer_message.result c.offer_message.ensures.answers
