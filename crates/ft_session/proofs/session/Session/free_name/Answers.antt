-- What stands in the way of a name.
use Rattle.std.proofs.Common.{◌≡◌, ◌∙◌, false, is_some, length, sym, ap, arith}
use Rattle.std.specs.List.{list_any}
use Rattle.std.proofs.lemmas.Map.Entries.{length-values_of}
use Rattle.indexmap.specs.IndexMap.{values}
use Rattle.ft_seqr.specs.World.{is_guest}
use Rattle.ft_session.specs.Worlds.{MemberState, SessionState, has_name}
use Rattle.ft_session.proofs.Naming.{any-found, name-free, named-guest, named-member, names-full}
use Rattle.ft_session.proofs.session.Session.free_name.Goals as goal
use Rattle.ft_session.proofs.session.Session.free_name.Goals.{then-is_some-via-then-is_some, then-is_some-via-else-is_some+then-has_guest}

pub returns-then-is_some-clause-fault : goal.returns-then-is_some-clause-fault
returns-then-is_some-clause-fault g c = λ w stands. elim c.then-is_some.branch [
  | then-is_some-via-then-is_some b ↦ named-member c.args.self.now c.args.name.now _ (ap (λ (s : SessionState). s.members) c.self.view_is) w stands
      (sym b.if-is_some.true ∙ c.is_some.ensures ∙ ap is_some (c.place_of.ensures (λ (m : MemberState). m.name) c.self.invariant)
      ∙ any-found (has_name c.args.name.now) (values c.self.inside.members))
  | then-is_some-via-else-is_some+then-has_guest b ↦ named-guest c.args.self.now c.args.name.now _ (ap (λ (s : SessionState). s.members) c.self.view_is) w stands
      (b.if-has_guest.ensures ∙ ap (list_any (is_guest c.args.name.now)) (b.as_slice.ensures.value ∙ ap (λ (s : SessionState). s.guests) c.self.view_is))
]

pub returns-then-len-ge-NAME_LIMIT-clause-fault : goal.returns-then-len-ge-NAME_LIMIT-clause-fault
returns-then-len-ge-NAME_LIMIT-clause-fault g c =
    let place = c.place_of.ensures (λ (m : MemberState). m.name) c.self.invariant in
    let none : false ≡ list_any (has_name c.args.name.now) (values c.self.inside.members) =
    sym c.if-is_some.false ∙ c.is_some.ensures ∙ ap is_some place ∙ any-found (has_name c.args.name.now) (values c.self.inside.members) in
    let f = ap (λ (s : SessionState). s.guests) c.self.view_is in
    let h = c.if-len-ge-NAME_LIMIT.true in
    let m = length-values_of c.self.inside.members.entries in
    let n = ap length (c.as_slice.ensures.value ∙ f) in
    λ w stands. names-full c.args.self.now c.args.name.now _ (ap (λ (s : SessionState). s.members) c.self.view_is) w stands
    none
    (c.if-has_guest.ensures ∙ ap (list_any (is_guest c.args.name.now)) (c.as_slice.ensures.value ∙ f))
    (omega (arith, h, m, n, c.len.ensures.len, c.as_slice.ensures.len))

pub returns-clause-fault : goal.returns-clause-fault
returns-clause-fault g c =
    let place = c.place_of.ensures (λ (m : MemberState). m.name) c.self.invariant in
    let none : false ≡ list_any (has_name c.args.name.now) (values c.self.inside.members) =
    sym c.if-is_some.false ∙ c.is_some.ensures ∙ ap is_some place ∙ any-found (has_name c.args.name.now) (values c.self.inside.members) in
    let f = ap (λ (s : SessionState). s.guests) c.self.view_is in
    let h = c.if-len-ge-NAME_LIMIT.false in
    let m = length-values_of c.self.inside.members.entries in
    let n = ap length (c.as_slice.ensures.value ∙ f) in
    λ w stands. name-free c.args.self.now c.args.name.now _ (ap (λ (s : SessionState). s.members) c.self.view_is) w stands
    none
    (c.if-has_guest.ensures ∙ ap (list_any (is_guest c.args.name.now)) (c.as_slice.ensures.value ∙ f))
    (omega (arith, h, m, n, c.len.ensures.len, c.as_slice.ensures.len))

pub returns-clause-free : goal.returns-clause-free
returns-clause-free g c =
    let place = c.place_of.ensures (λ (m : MemberState). m.name) c.self.invariant in
    let none : false ≡ list_any (has_name c.args.name.now) (values c.self.inside.members) =
    sym c.if-is_some.false ∙ c.is_some.ensures ∙ ap is_some place ∙ any-found (has_name c.args.name.now) (values c.self.inside.members) in
    ap (λ (s : SessionState). list_any (has_name c.args.name.now) s.members) (sym c.self.view_is) ∙ sym none
