-- What stands in the way of a name.
use Rattle.std.proofs.Common.{◌≡◌, ◌∙◌, None, Option, Some, ℕ, is_some, refl, sym, ap, subst, arith}
use Rattle.std.specs.List.{list_any}
use Rattle.std.proofs.lemmas.Map.Entries.{length-values_of}
use Rattle.indexmap.specs.IndexMap.{values}
use Rattle.ft_map.specs.MapSession.{MapSession, NamedMapClient, is_client, name_fault}
use Rattle.ft_map.proofs.Turns.{any_found, fault-full, fault-named, fault-none}
use Rattle.ft_seqr.specs.declared.refusals.Refusal.TheVariants.{ClientLimit, NameInUse}
use Rattle.ft_map.proofs.world.Session.free_name.Goals as goal

pub returns-then-is_some-clause-fault : goal.returns-then-is_some-clause-fault
returns-then-is_some-clause-fault c =
    let w : MapSession = record { clients = values c.self.inside.members; service = c.self.inside.service } in
    let name = c.args.name.now in
    let place = c.place_of.ensures (λ (d : NamedMapClient). d.name) c.self.invariant in
    let found : c.is_some.result ≡ list_any (is_client name) w.clients =
    c.is_some.ensures ∙ ap (λ (o : Option ℕ). is_some o) place ∙ any_found name w.clients in (
      subst (λ (v : MapSession). name_fault v name ≡ Some NameInUse) c.self.view_is (fault-named w name (sym found ∙ c.if-is_some.true)),
      refl,
    )

pub returns-then-len-ge-NAME_LIMIT-clause-fault : goal.returns-then-len-ge-NAME_LIMIT-clause-fault
returns-then-len-ge-NAME_LIMIT-clause-fault c =
    let w : MapSession = record { clients = values c.self.inside.members; service = c.self.inside.service } in
    let name = c.args.name.now in
    let place = c.place_of.ensures (λ (d : NamedMapClient). d.name) c.self.invariant in
    let found : c.is_some.result ≡ list_any (is_client name) w.clients =
    c.is_some.ensures ∙ ap (λ (o : Option ℕ). is_some o) place ∙ any_found name w.clients in
    let count = length-values_of c.self.inside.members.entries in
    let many = c.if-len-ge-NAME_LIMIT.true in (
      subst (λ (v : MapSession). name_fault v name ≡ Some ClientLimit) c.self.view_is
          (fault-full w name (sym found ∙ c.if-is_some.false) (omega (arith, many, count, c.len.ensures.len))),
      refl,
    )

pub returns-clause-fault : goal.returns-clause-fault
returns-clause-fault c =
    let w : MapSession = record { clients = values c.self.inside.members; service = c.self.inside.service } in
    let name = c.args.name.now in
    let place = c.place_of.ensures (λ (d : NamedMapClient). d.name) c.self.invariant in
    let found : c.is_some.result ≡ list_any (is_client name) w.clients =
    c.is_some.ensures ∙ ap (λ (o : Option ℕ). is_some o) place ∙ any_found name w.clients in
    let count = length-values_of c.self.inside.members.entries in
    let few = c.if-len-ge-NAME_LIMIT.false in
    subst (λ (v : MapSession). name_fault v name ≡ None) c.self.view_is
    (fault-none w name (sym found ∙ c.if-is_some.false) (omega (arith, few, count, c.len.ensures.len)))

pub returns-clause-free : goal.returns-clause-free
returns-clause-free c =
    let w : MapSession = record { clients = values c.self.inside.members; service = c.self.inside.service } in
    let name = c.args.name.now in
    let place = c.place_of.ensures (λ (d : NamedMapClient). d.name) c.self.invariant in
    let found : c.is_some.result ≡ list_any (is_client name) w.clients =
    c.is_some.ensures ∙ ap (λ (o : Option ℕ). is_some o) place ∙ any_found name w.clients in
    ap (λ (v : MapSession). list_any (is_client name) v.clients) (sym c.self.view_is) ∙ sym found ∙ c.if-is_some.false
