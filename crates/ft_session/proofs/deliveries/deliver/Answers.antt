-- All that is wanted is processed.
use Rattle.std.proofs.Common.{◌∙◌, ap, sym}
use Rattle.ft_msg.specs.Answers.{numbers_of}
use Rattle.ft_session.specs.Worlds.{MemberState}
use Rattle.ft_session.proofs.OwnEvents.{by-view, client-wants, meets-view, unchanged}
use Rattle.ft_session.proofs.Processed.{deliver-offline, has-conn, has-none, its-link, seq-within, told-can, told-none, told-taken}
use Rattle.ft_session.proofs.deliveries.deliver.Goals as goal

pub returns-then-is_none-clause-answers : goal.returns-then-is_none-clause-answers
returns-then-is_none-clause-answers g c = deliver-offline c.args.member.now c.args.service.now c.args.count
    (its-link c.args.member.now c.args.service.now c.numbers-numbers.result (c.numbers-numbers.ensures.numbers ∙ ap (λ (m : MemberState). numbers_of m.replica) c.member.view_is) c.conn_of.result c.conn_of.ensures ∙ has-none c.conn_of.result c.is_none.result c.is_none.ensures c.if-is_none.true)

pub ahead_of-ahead-requires : goal.ahead_of-ahead-requires
ahead_of-ahead-requires g c = seq-within _ c.args.service.now c.numbers-numbers.result c.numbers-numbers.ensures.numbers c.conn_of.result c.conn_of.ensures (meets-view c.member.view_is c.requires)

pub returns-in_default-clause-answers : goal.returns-in_default-clause-answers
returns-in_default-clause-answers g c = unchanged c.member.view_is
    (told-none _ c.args.service.now c.numbers-numbers.result c.numbers-numbers.ensures.numbers c.conn_of.result c.conn_of.ensures c.ahead_of-ahead.result.now c.ahead_of-ahead.ensures
    (has-conn c.conn_of.result c.is_none.result c.is_none.ensures c.if-is_none.false) c.args.count (sym c.wanted_count.ensures ∙ c.in_default.is))

pub process_all-requires : goal.process_all-requires
process_all-requires g c = told-can _ c.args.service.now c.numbers-numbers.result c.numbers-numbers.ensures.numbers c.conn_of.result c.conn_of.ensures c.ahead_of-ahead.result.now c.ahead_of-ahead.ensures
    (has-conn c.conn_of.result c.is_none.result c.is_none.ensures c.if-is_none.false) c.args.count c.in-Some.wanted (sym c.wanted_count.ensures ∙ c.in-Some.is) (meets-view c.member.view_is c.requires)

pub returns-in_err-process_all-clause-answers : goal.returns-in_err-process_all-clause-answers
returns-in_err-process_all-clause-answers g c = client-wants c.in_err-process_all.field-0.0 c.from_residual.result c.from_residual.ensures c.process_all.result c.in_err-process_all.was
    (c.in_err-process_all.was ∙ c.in_err-process_all.ensures.memory)

pub returns-clause-answers : goal.returns-clause-answers
returns-clause-answers g c = rw c.nothing.ensures (by-view c.member.view_is
    (told-taken _ c.args.service.now c.numbers-numbers.result c.numbers-numbers.ensures.numbers c.conn_of.result c.conn_of.ensures c.ahead_of-ahead.result.now c.ahead_of-ahead.ensures
    (has-conn c.conn_of.result c.is_none.result c.is_none.ensures c.if-is_none.false) c.args.count c.in-Some.wanted (sym c.wanted_count.ensures ∙ c.in-Some.is) _
    (λ x y p. c.in_ok-process_all.ensures.ok x y p)))
