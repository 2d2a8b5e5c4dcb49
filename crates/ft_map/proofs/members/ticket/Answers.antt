-- None of the drafts is refused.
use Rattle.std.proofs.Common.{◌∙◌, ap, sym, subst}
use Rattle.ft_seqr.specs.World.{conn_of, wanted_count}
use Rattle.ft_map.specs.MapSession.{NamedMapClient, ticket_client}
use Rattle.ft_map.specs.MapWorlds.{HasNoNack}
use Rattle.ft_map.proofs.Submitting.{all-taken}
use Rattle.ft_map.proofs.members.ticket.Goals as goal

pub submit_oldest-requires : goal.submit_oldest-requires
submit_oldest-requires c =
    let m : NamedMapClient = record { name = c.member.inside.name; connects = c.member.inside.connects; client = c.member.inside.client } in
    all-taken c.args.count c.args.service.now m c.in-Some.conn c.in-Some-wanted_count.wanted (ap conn_of (sym c.link.ensures) ∙ sym c.conn_of.ensures ∙ c.in-Some.is)
    (ap (wanted_count c.args.count) (sym c.queued-have.ensures) ∙ sym c.wanted_count.ensures ∙ c.in-Some-wanted_count.is)
    (subst (λ (x : NamedMapClient). HasNoNack (ticket_client c.args.count c.args.service.now x)) (sym c.member.view_is) c.requires)
