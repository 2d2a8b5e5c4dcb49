-- The connection is the next one.
use Rattle.std.proofs.Common.{◌+◌, ◌∙◌, ap}
use Rattle.ft_seqr.specs.World.{connection_name}
use Rattle.ft_session.specs.Worlds.{MemberState}
use Rattle.ft_session.proofs.links.connect.Goals as goal

pub connect_as-requires-clause-meets : goal.connect_as-requires-clause-meets
connect_as-requires-clause-meets g c = c.requires

pub connect_as-requires-clause-next : goal.connect_as-requires-clause-next
connect_as-requires-clause-next g c = c.in_ok-conn.ensures.next

pub connect_as-requires-clause-few : goal.connect_as-requires-clause-few
connect_as-requires-clause-few g c = c.in_ok-conn.ensures.few

pub connect_as-requires-clause-connects : goal.connect_as-requires-clause-connects
connect_as-requires-clause-connects g c = c.in_ok-connects.ensures ∙ ap (λ (m : MemberState). m.connects + 1) c.member.view_is

pub connect_as-requires-clause-name : goal.connect_as-requires-clause-name
connect_as-requires-clause-name g c = c.in_ok-name.ensures ∙ ap (λ (m : MemberState). connection_name m.name c.in_ok-connects.connects)
    c.member.view_is

pub returns-clause-answers : goal.returns-clause-answers
returns-clause-answers g c = c.connect_as.ensures.answers
