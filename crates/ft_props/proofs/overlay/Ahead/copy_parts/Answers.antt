use Rattle.std.proofs.Common.{◌∙◌}
use Rattle.std.proofs.lemmas.Result.{IfOk-at_ok}
use Rattle.ft_props.proofs.overlay.Ahead.copy_parts.Goals as goal

pub returns-clause-acked : goal.returns-clause-acked
returns-clause-acked c = IfOk-at_ok _ (IfOk-at_ok _ c.in_ok-acked.ensures.first c.both-props.ensures.first) c.copy.ensures

pub returns-clause-pending : goal.returns-clause-pending
returns-clause-pending c = IfOk-at_ok _ c.in_ok-acked.ensures.second c.copy_pending.ensures ∙ c.deref.ensures.value

pub returns-clause-shown : goal.returns-clause-shown
returns-clause-shown c = IfOk-at_ok _ (IfOk-at_ok _ c.in_ok-acked.ensures.first c.both-props.ensures.second) c.copy-2.ensures
