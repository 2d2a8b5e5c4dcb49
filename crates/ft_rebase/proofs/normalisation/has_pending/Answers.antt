use Rattle.std.proofs.Common.{not, sym, ◌∙◌, ap}
use Rattle.std.specs.List.{list_any}
use Rattle.ft_base.specs.Visibility.{is_acked}
use Rattle.ft_rebase.proofs.CarriedLeaves.{bare-only, bare-same}
use Rattle.ft_rebase.proofs.ListedLeaves.{mapped_value}
use Rattle.ft_rebase.proofs.normalisation.has_pending.Goals as goal

pub returns-else-marked-clause-none : goal.returns-else-marked-clause-none
returns-else-marked-clause-none g c = λ h v e.
    let stamps = mapped_value (λ x. x.stamps) _ _ _ e c.leaf_element.ensures in
    let overlay = mapped_value (λ x. x.overlay) _ _ _ e c.leaf_overlay.ensures in
    bare-same v
    (ap (λ s. list_any (λ t. not (is_acked t)) s.dels) stamps ∙ ap (list_any (λ t. not (is_acked t))) (sym c.as_slice.ensures)
    ∙ sym c.has_local-marked.ensures ∙ c.if-marked.false)
    (ap (λ o. o.pending) overlay ∙ c.has_pending.ensures.0 h)

pub returns-then-marked-clause-some : goal.returns-then-marked-clause-some
returns-then-marked-clause-some g c = λ v e same.
    let stamps = mapped_value (λ x. x.stamps) _ _ _ e c.leaf_element.ensures in
    c.has_local-marked.ensures ∙ ap (list_any (λ t. not (is_acked t))) (c.as_slice.ensures ∙ sym (ap (λ s. s.dels) stamps)) ∙ (bare-only v same).0

pub returns-else-marked-clause-some : goal.returns-else-marked-clause-some
returns-else-marked-clause-some g c = λ v e same.
    let overlay = mapped_value (λ x. x.overlay) _ _ _ e c.leaf_overlay.ensures in
    c.has_pending.ensures.1 (sym (ap (λ o. o.pending) overlay) ∙ (bare-only v same).1)
