use Rattle.std.proofs.Common.{◌∙◌, [], ◌∷◌, ap}
use Rattle.std.proofs.lemmas.Result.{IfOk-at_ok}
use Rattle.ft_props.proofs.overlay.Ahead.over.Goals as goal

pub returns-clause-pending : goal.returns-clause-pending
returns-clause-pending c =
    let only = IfOk-at_ok _ c.in_ok-shown.ensures.second c.list_of-only.ensures in
    only.2 ∙ ap (λ x. x ∷ []) (IfOk-at_ok _ only.1 c.copy_change.ensures)

pub returns-clause-shown : goal.returns-clause-shown
returns-clause-shown c = IfOk-at_ok _ c.in_ok-shown.ensures.first c.changed.ensures
