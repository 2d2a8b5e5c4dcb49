-- The replica's answer, and the service's to the connection that joins.
use Rattle.std.proofs.Common.{◌+◌, ◌∙◌, ap, sym, arith}
use Rattle.ft_seqr.specs.Refusals.{refusal_of_link}
use Rattle.ft_seqr.specs.World.{connection_name}
use Rattle.ft_session.specs.Worlds.{MemberState}
use Rattle.ft_session.proofs.LinkEvents.{connect-refused, connect-taken, join-wanting, new-name}
use Rattle.ft_session.proofs.OwnEvents.{by-view, client-handed}
use Rattle.ft_session.proofs.links.connect_as.Goals as goal

pub join-requires-clause-few : goal.join-requires-clause-few
join-requires-clause-few g c = c.requires.few

pub join-requires-clause-new : goal.join-requires-clause-new
join-requires-clause-new g c = new-name c.args.member.now c.args.service.now c.args.connects c.args.name.now c.requires.meets
    (let h = c.requires.few in omega (arith, h)) c.requires.connects c.requires.name

pub returns-in_err-connect-clause-answers : goal.returns-in_err-connect-clause-answers
returns-in_err-connect-clause-answers g c = by-view c.member.view_is
    (client-handed (refusal_of_link c.in_err-connect.field-0.0) c.from_residual.result c.from_residual.ensures
    (connect-refused _ c.args.service.now _ c.args.conn c.in_err-connect.field-0.0 c.requires.next c.in_err-connect.ensures))

pub returns-in_err-join-clause-answers : goal.returns-in_err-join-clause-answers
returns-in_err-join-clause-answers g c = client-handed c.in_err-join.field-0.0 c.from_residual-in_err-join.result c.from_residual-in_err-join.ensures
    (join-wanting _ _ c.args.service.now c.join.new.self c.args.name.now c.in_err-join.field-0.0 (λ w h. c.in_err-join.ensures w h))

pub returns-clause-answers : goal.returns-clause-answers
returns-clause-answers g c = rw c.nothing.ensures (by-view c.member.view_is
    (connect-taken _ c.args.service.now _ c.join.new.self c.args.conn c.args.connects c.args.name.now c.requires.next
    (c.requires.connects ∙ ap (λ (m : MemberState). m.connects + 1) (sym c.member.view_is))
    (c.requires.name ∙ ap (λ (m : MemberState). connection_name m.name c.args.connects) (sym c.member.view_is))
    c.in_ok-connect.ensures (λ w h. c.in_ok-join.ensures w h)))
