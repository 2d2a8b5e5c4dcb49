-- The message is the next one, and is as the log has it.
use Rattle.std.proofs.Common.{◌+◌, ◌∷◌, [], ◌∙◌, ap, refl, subst, sym}
use Rattle.std.specs.Prelude.{option_copied}
use Rattle.ft_msg.specs.Answers.{numbers_of}
use Rattle.ft_seqr.specs.World.{conn_of}
use Rattle.ft_delivery.specs.Deliveries.{CanProcess, HasProcessed, Processes, offered_entry}
use Rattle.ft_msg.specs.Client.{NaiveClient}
use Rattle.ft_session.specs.Worlds.{MemberState}
use Rattle.ft_session.proofs.OwnEvents.{client-wants, same-new}
use Rattle.ft_session.proofs.Processed.{can-process_offer, its-number, its-rest, offer-foreign, offer-out_of_order, offer-taken, seq-within}
use Rattle.ft_session.proofs.deliveries.offer_message.Goals as goal

pub returns-then-message-expected-clause-answers : goal.returns-then-message-expected-clause-answers
returns-then-message-expected-clause-answers g c = offer-out_of_order c.args.member.now c.args.service.now c.requires.linked.conn c.requires.linked.of c.args.message.now c.in_ok-expected.expected (c.in_ok-expected.ensures ∙ ap (λ n. n + 1) (its-number c.args.member.now c.args.service.now c.numbers-number.result (c.numbers-number.ensures.numbers ∙ ap (λ (m : MemberState). numbers_of m.replica) c.member.view_is) (conn_of c.numbers-number.result.link) refl)) c.if-message-expected.true

pub ahead_of-requires : goal.ahead_of-requires
ahead_of-requires g c = seq-within c.args.member.now c.args.service.now c.numbers-number.result (c.numbers-number.ensures.numbers ∙ ap (λ (m : MemberState). numbers_of m.replica) c.member.view_is) (conn_of c.numbers-number.result.link) refl c.requires.meets

pub returns-in_default-clause-answers : goal.returns-in_default-clause-answers
returns-in_default-clause-answers g c = offer-foreign c.args.member.now c.args.service.now c.requires.linked.conn c.requires.linked.of c.args.message.now c.in_ok-expected.expected (c.in_ok-expected.ensures ∙ ap (λ n. n + 1) (its-number c.args.member.now c.args.service.now c.numbers-number.result (c.numbers-number.ensures.numbers ∙ ap (λ (m : MemberState). numbers_of m.replica) c.member.view_is) (conn_of c.numbers-number.result.link) refl)) c.if-message-expected.false
    (ap (offered_entry c.args.message.now) (sym (its-rest c.args.member.now c.args.service.now c.numbers-number.result (c.numbers-number.ensures.numbers ∙ ap (λ (m : MemberState). numbers_of m.replica) c.member.view_is) (conn_of c.numbers-number.result.link) refl c.ahead_of.result.now c.ahead_of.ensures)) ∙ sym c.offered_entry.ensures ∙ ap option_copied c.in_default.is)

pub process_one-requires : goal.process_one-requires
process_one-requires g c = subst (λ (m : MemberState). CanProcess m.replica (c.in-Some.entry.now ∷ [])) (sym c.member.view_is)
    (can-process_offer c.args.member.now c.args.service.now c.requires.linked.conn c.requires.linked.of c.args.message.now c.in_ok-expected.expected (c.in_ok-expected.ensures ∙ ap (λ n. n + 1) (its-number c.args.member.now c.args.service.now c.numbers-number.result (c.numbers-number.ensures.numbers ∙ ap (λ (m : MemberState). numbers_of m.replica) c.member.view_is) (conn_of c.numbers-number.result.link) refl)) c.if-message-expected.false c.in-Some.entry.now
    (ap (offered_entry c.args.message.now) (sym (its-rest c.args.member.now c.args.service.now c.numbers-number.result (c.numbers-number.ensures.numbers ∙ ap (λ (m : MemberState). numbers_of m.replica) c.member.view_is) (conn_of c.numbers-number.result.link) refl c.ahead_of.result.now c.ahead_of.ensures)) ∙ sym c.offered_entry.ensures ∙ ap option_copied c.in-Some.is) c.requires.meets)

pub returns-in_err-process_one-clause-answers : goal.returns-in_err-process_one-clause-answers
returns-in_err-process_one-clause-answers g c = client-wants c.in_err-process_one.field-0.0 c.from_residual-in_err-process_one.result c.from_residual-in_err-process_one.ensures c.process_one.result c.in_err-process_one.was
    (c.in_err-process_one.was ∙ c.in_err-process_one.ensures.memory)

pub returns-clause-answers : goal.returns-clause-answers
returns-clause-answers g c = rw c.nothing.ensures (same-new c.member.view_is (g.R.Replica.state c.process_one.new.replica)
    (offer-taken c.args.member.now c.args.service.now c.requires.linked.conn c.requires.linked.of c.args.message.now c.in_ok-expected.expected (c.in_ok-expected.ensures ∙ ap (λ n. n + 1) (its-number c.args.member.now c.args.service.now c.numbers-number.result (c.numbers-number.ensures.numbers ∙ ap (λ (m : MemberState). numbers_of m.replica) c.member.view_is) (conn_of c.numbers-number.result.link) refl)) c.if-message-expected.false c.in-Some.entry.now
    (ap (offered_entry c.args.message.now) (sym (its-rest c.args.member.now c.args.service.now c.numbers-number.result (c.numbers-number.ensures.numbers ∙ ap (λ (m : MemberState). numbers_of m.replica) c.member.view_is) (conn_of c.numbers-number.result.link) refl c.ahead_of.result.now c.ahead_of.ensures)) ∙ sym c.offered_entry.ensures ∙ ap option_copied c.in-Some.is) (g.R.Replica.state c.process_one.new.replica)
    (subst (λ (m : MemberState). (x y : NaiveClient) → Processes m.replica (c.in-Some.entry.now ∷ []) x y → HasProcessed m.replica (g.R.Replica.state c.process_one.new.replica) (c.in-Some.entry.now ∷ []) y) c.member.view_is
    (λ x y p. c.in_ok-process_one.ensures.ok x y p))))
