-- A replica comes in.
use Rattle.std.proofs.Common.{◌∷◌, ◌++◌, [], ◌∙◌, List, ap}
use Rattle.std.specs.List.{list_any}
use Rattle.std.proofs.lemmas.Result.{on_ok_weaker}
use Rattle.ft_props.specs.Properties.{Characters}
use Rattle.ft_session.specs.Entrances.{new_member}
use Rattle.ft_session.specs.Worlds.{MemberState, SessionState, has_name}
use Rattle.ft_session.proofs.session.Session.admit.Goals as goal

pub invariant_of-self : goal.invariant_of-self
invariant_of-self g c = c.keep.ensures.under (λ (m : MemberState). m.name) (record {
  under = c.self.invariant;
  named = c.in_ok-copy.ensures;
  free = ap (λ (s : SessionState). list_any (has_name c.args.name.now) s.members) c.self.view_is ∙ c.requires;
})

pub returns : goal.returns
returns g c =
    let i = c.self.inside in
    let member = new_member c.in_ok-copy.field-0 (g.R.Replica.state c.args.replica) in
    on_ok_weaker c.keep.result (λ more.
    ap (λ (ms : List MemberState). let s : SessionState = record { members = ms; guests = i.guests.items; service = i.service } in s) more
    ∙ ap (λ (s : SessionState). let t : SessionState = record s { members = s.members ++ member ∷ [] } in t) c.self.view_is
    ∙ ap (λ (name : Characters). let t : SessionState = record c.args.self.now { members = c.args.self.now.members ++ new_member name (g.R.Replica.state c.args.replica) ∷ [] } in t) c.in_ok-copy.ensures)
    (c.keep.ensures.values (λ (m : MemberState). m.name) (record {
      under = c.self.invariant;
      named = c.in_ok-copy.ensures;
      free = ap (λ (s : SessionState). list_any (has_name c.args.name.now) s.members) c.self.view_is ∙ c.requires;
    }))
