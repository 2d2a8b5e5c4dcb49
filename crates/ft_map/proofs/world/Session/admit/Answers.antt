-- A client comes in behind the others.
use Rattle.std.proofs.Common.{◌∷◌, ◌++◌, [], ◌∙◌, List, ap}
use Rattle.std.specs.List.{list_any}
use Rattle.std.proofs.lemmas.Result.{on_ok_weaker}
use Rattle.ft_shared_map.specs.Maps.{Characters}
use Rattle.ft_map.specs.MapSession.{MapSession, NamedMapClient, is_client}
use Rattle.ft_map.proofs.world.Session.admit.Goals as goal

pub invariant_of-self : goal.invariant_of-self
invariant_of-self c = c.keep.ensures.under (λ (d : NamedMapClient). d.name) (record {
  under = c.self.invariant;
  named = c.in_ok-copy.ensures;
  free = ap (λ (s : MapSession). list_any (is_client c.args.name.now) s.clients) c.self.view_is ∙ c.requires;
})

pub returns : goal.returns
returns c =
    let named = λ (name : Characters). let d : NamedMapClient = record { name = name; connects = 0; client = c.args.client } in d in
    on_ok_weaker c.keep.result (λ more.
    ap (λ (cs : List NamedMapClient). let s : MapSession = record { clients = cs; service = c.self.inside.service } in s) more
    ∙ ap (λ (s : MapSession). let t : MapSession = record s { clients = s.clients ++ named c.in_ok-copy.field-0 ∷ [] } in t) c.self.view_is
    ∙ ap (λ (name : Characters). let t : MapSession = record c.args.self.now { clients = c.args.self.now.clients ++ named name ∷ [] } in t) c.in_ok-copy.ensures)
    (c.keep.ensures.values (λ (d : NamedMapClient). d.name) (record {
      under = c.self.invariant;
      named = c.in_ok-copy.ensures;
      free = ap (λ (s : MapSession). list_any (is_client c.args.name.now) s.clients) c.self.view_is ∙ c.requires;
    }))
