-- What the client of that name answers, the session does.
use Rattle.std.proofs.Common.{◌≡◌, ◌∙◌, Err, List, refl, sym, subst}
use Rattle.std.specs.Map.{values_of}
use Rattle.indexmap.specs.IndexMap.{set_value_at, values}
use Rattle.ft_delivery.proofs.KeptValues.{under-set, values-set}
use Rattle.ft_map.specs.MapSession.{MapSession, NamedMapClient, of_client}
use Rattle.ft_map.specs.MapActs.{turn_of}
use Rattle.ft_map.specs.MapWorlds.{AnswersSession, HasNoNack}
use Rattle.ft_map.proofs.Turns.{answered, turn-taken, unknown}
use Rattle.ft_seqr.specs.declared.refusals.Refusal.TheVariants.{UnknownClient}
use Rattle.ft_map.proofs.world.Session.happen_to.Goals as goal

pub returns-in_default : goal.returns-in_default
returns-in_default c =
    let w : MapSession = record { clients = values c.self.inside.members; service = c.self.inside.service } in (
      refl,
      subst (λ (s : MapSession). of_client s c.args.name.now (turn_of c.args.act) ≡ Err UnknownClient) c.self.view_is
          (unknown w c.args.name.now (turn_of c.args.act) (sym (c.place_of.ensures (λ (d : NamedMapClient). d.name) c.self.invariant) ∙ c.in_default.is)),
    )

pub happen_to_member-requires : goal.happen_to_member-requires
happen_to_member-requires c =
    let w : MapSession = record { clients = values c.self.inside.members; service = c.self.inside.service } in
    let at = sym (c.place_of.ensures (λ (d : NamedMapClient). d.name) c.self.invariant) ∙ c.in-Some.is in
    turn-taken w c.args.name.now (turn_of c.args.act) c.in-Some.place c.index_mut.result.now at c.index_mut.ensures.value
    (subst (λ (s : MapSession). HasNoNack (of_client s c.args.name.now (turn_of c.args.act))) (sym c.self.view_is) c.requires)

pub returns : goal.returns
returns c =
    let w : MapSession = record { clients = values c.self.inside.members; service = c.self.inside.service } in
    let at = sym (c.place_of.ensures (λ (d : NamedMapClient). d.name) c.self.invariant) ∙ c.in-Some.is in
    let after = c.happen_to_member.new.service in
    let changed = set_value_at c.self.inside.members.entries c.in-Some.place c.happen_to_member.new.member in
    subst (λ (s : MapSession). AnswersSession s (record { clients = values_of changed; service = after })
    (of_client s c.args.name.now (turn_of c.args.act)) c.happen_to_member.result)
    c.self.view_is
    (subst (λ (cs : List NamedMapClient). AnswersSession w (record { clients = cs; service = after })
    (of_client w c.args.name.now (turn_of c.args.act)) c.happen_to_member.result)
    (sym (values-set c.in-Some.place c.happen_to_member.new.member c.self.inside.members.entries))
    (answered w c.args.name.now (turn_of c.args.act) c.in-Some.place c.index_mut.result.now at c.index_mut.ensures.value
    c.happen_to_member.new.member after c.happen_to_member.result c.happen_to_member.ensures.answers))

pub invariant_of-self : goal.invariant_of-self
invariant_of-self c =
    under-set (λ (d : NamedMapClient). d.name) c.in-Some.place c.index_mut.result.now c.happen_to_member.new.member c.self.inside.members.entries
    c.index_mut.ensures.value c.happen_to_member.ensures.name c.self.invariant
