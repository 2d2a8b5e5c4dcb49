-- Views of clients of a map session.
use Rattle.std.proofs.Common.{◌≡◌, ℕ, Bool, true, false, List, None, Option, refl, sym, ◌∙◌, ap, take}
use Rattle.ft_shared_map.specs.declared.ops.MapOp.{MapOp}
use Rattle.ft_shared_map.specs.Maps.{MapState, put_all, shown_map}
use Rattle.ft_map.specs.MapClient.{MapClient, after_message, after_op, agreed_map, is_own, online, view_of}
use Rattle.ft_map.specs.MapSession.{new_session, session_of}
use Rattle.ft_map.specs.MapViews.{IdleClientsAgree, ReconnectionsChangeNothing, ViewsAreAgreedMaps}
use Rattle.std.specs.Prelude.{if◌then◌else◌}

after-none : (own : Bool) (s : MapState) → after_op own None s ≡ s
after-none true s = refl
after-none false s = refl

when_joined : (b : Bool) (conn : ℕ) (x : MapClient) → view_of (if b then online conn x else x) ≡ view_of x
when_joined true conn x = refl
when_joined false conn x = refl

pub reconnections : ReconnectionsChangeNothing
reconnections = record {
  connecting = λ conn x. refl;
  dropping = λ x. refl;
  coming_online = λ x e none.
      when_joined _ e.entry.origin (after_message e x) ∙ ap (λ (op : Option MapOp). shown_map (after_op (is_own x e.entry) op x.state)) none ∙ ap shown_map (after-none (is_own x e.entry) x.state);
}

pub idle_clients : ViewsAreAgreedMaps → IdleClientsAgree
idle_clients agreed es name other c d reaches reaches_too number none none_too =
    let log = (session_of new_session es).service.log in
    agreed es name c reaches
    ∙ ap (λ (ops : List MapOp). put_all (agreed_map (take c.client.number log)) ops) none
    ∙ ap (λ (n : ℕ). agreed_map (take n log)) number
    ∙ sym (ap (λ (ops : List MapOp). put_all (agreed_map (take d.client.number log)) ops) none_too)
    ∙ sym (agreed es other d reaches_too)
