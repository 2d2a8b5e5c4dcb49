use Rattle.std.proofs.Common.{◌≡◌, ◌<◌, All, sym, ◌∙◌, ap, subst, ◌∷◌, ◌++◌, []}
use Rattle.ft_props.specs.declared.overlay.Ahead.{Ahead}
use Rattle.ft_props.specs.Overlay.{IsAhead, IsReady, OverlayState, kept_pending}
use Rattle.ft_props.specs.Properties.{change, shown_props}
use Rattle.ft_props.proofs.PendingStages.{StagesRise-push, shown_props-append}
use Rattle.ft_props.proofs.overlay.Overlay.push_pending.Goals as goal

pub invariant_of-self-in_ok-push-in-Changed : goal.invariant_of-self-in_ok-push-in-Changed
invariant_of-self-in_ok-push-in-Changed c =
    let stage = c.args.stage in
    let set = c.args.set.now in
    let ahead = c.in-Changed.ahead.value in
    let pending = ahead.pending.items in
    let kept : IsAhead ahead = subst IsReady c.in-Changed.is c.self.invariant in
    let pushed : c.push.new.self.pending.items ≡ pending ++ (stage, set) ∷ [] =
    c.in_ok-push-in-Changed.ensures.pending ∙ ap (λ (a : Ahead). a.pending.items ++ (stage, set) ∷ []) c.deref_mut.ensures.value in
    let below : All (λ p. p.0 < stage) pending =
    subst (λ ps. All (λ p. p.0 < stage) ps) (sym (ap (λ (o : OverlayState). o.pending) c.self.view_is) ∙ ap kept_pending c.in-Changed.is) c.requires in
    let same : c.push.new.self.acked ≡ ahead.acked = c.in_ok-push-in-Changed.ensures.acked ∙ ap (λ (a : Ahead). a.acked) c.deref_mut.ensures.value in
    let shown = c.in_ok-push-in-Changed.ensures.shown ∙ ap (λ (a : Ahead). change a.shown set) c.deref_mut.ensures.value ∙ ap (λ p. change p set) kept.ready in
    record {
      rising = rw pushed (StagesRise-push stage set pending kept.rising below);
      ready = shown ∙ sym (shown_props-append ahead.acked pending ((stage, set) ∷ [])) ∙ ap (λ ps. shown_props ahead.acked ps) (sym pushed)
          ∙ ap (λ acked. shown_props acked c.push.new.self.pending.items) (sym same);
    }
