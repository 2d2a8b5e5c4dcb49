use Rattle.std.proofs.Common.{◌≡◌, ◌∙◌, ap}
use Rattle.ft_props.specs.Properties.{PropertyList, apply}
use Rattle.ft_props.proofs.DoneBefore.{given_after}
use Rattle.ft_props.proofs.changed.Props.applied.Goals as goal

pub returns : goal.returns
returns c =
    let set = c.args.set.now in
    given_after _ _ (λ (p : PropertyList). p ≡ apply c.args.self.now set) c.after.result c.apply_all-done.result c.after.ensures.done
    c.apply_all-done.ensures
    c.after.ensures.value (λ x made is. is ∙ c.tighten.ensures ∙ made ∙ ap (λ (p : PropertyList). apply p set) c.in_ok-props.ensures)
