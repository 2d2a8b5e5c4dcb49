use Rattle.std.proofs.Common.{◌∙◌, [], ◌∷◌, ◌++◌, ap}
use Rattle.std.proofs.lemmas.Result.{IfOk-at_ok}
use Rattle.ft_props.proofs.overlay.Ahead.push.Goals as goal

pub returns-clause-pending : goal.returns-clause-pending
returns-clause-pending c =
    let pushed = c.in_ok-shown.ensures.ok in
    let copied = IfOk-at_ok _ (IfOk-at_ok _ pushed.1 c.both-made.ensures.first) c.copy_change.ensures in
    pushed.2 ∙ ap (λ x. c.args.self.now.pending.items ++ x ∷ []) copied

pub returns-clause-shown : goal.returns-clause-shown
returns-clause-shown c = IfOk-at_ok _ (IfOk-at_ok _ c.in_ok-shown.ensures.ok.1 c.both-made.ensures.second) c.changed.ensures
