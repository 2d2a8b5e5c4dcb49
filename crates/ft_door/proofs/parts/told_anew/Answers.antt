use Rattle.std.proofs.Common.{List, Option, subst, sym, true}
use Rattle.std.specs.Prelude.{IfOk}
use Rattle.std.proofs.lemmas.Result.{IfOk-weaker}
use Rattle.ft_changes.specs.declared.changes.ViewChange.{ViewChange}
use Rattle.ft_door.specs.Editors.{Leads, listening}
use Rattle.ft_door.proofs.Editing.{view-leads}
use Rattle.ft_door.proofs.parts.told_anew.Goals as goal

pub returns-in-Ok : goal.returns-in-Ok
returns-in-Ok g c = λ x reached h.
    subst (λ b. IfOk c.told_of_view.result (λ told. Leads (listening b) told x)) (sym c.if-not-listens.false)
    (IfOk-weaker c.told_of_view.result _ _ (λ told is. subst (λ (t : Option (List ViewChange)). Leads (listening true) t x) (sym is)
    (view-leads c.in-Ok.view x reached (c.in-Ok.ensures.content.1 x reached h.client))) c.told_of_view.ensures)
