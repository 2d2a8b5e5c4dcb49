use Rattle.std.proofs.Common.{◌≡◌, ◌∙◌, ap}
use Rattle.ft_props.specs.Properties.{PropertyList, change}
use Rattle.ft_props.proofs.DoneBefore.{given_after}
use Rattle.ft_props.proofs.changed.Props.changed.Goals as goal

pub returns : goal.returns
returns c =
    let changes = c.args.changes.now in
    given_after _ _ (λ (p : PropertyList). p ≡ change c.args.self.now changes) c.after.result c.make_changes-done.result c.after.ensures.done
    c.make_changes-done.ensures c.after.ensures.value
    (λ x made is. is ∙ c.tighten.ensures ∙ made ∙ ap (λ (p : PropertyList). change p changes) c.in_ok-props.ensures)
