use Rattle.std.proofs.lemmas.Result.{IfOk-at_ok, IfOk-weaker}
use Rattle.ft_props.proofs.overlay.Ahead.copy.Goals as goal

pub returns-clause-acked : goal.returns-clause-acked
returns-clause-acked c = IfOk-weaker c.boxed.result _ _ (λ b is. IfOk-at_ok _ is c.copy_parts.ensures.acked) c.boxed.ensures

pub returns-clause-pending : goal.returns-clause-pending
returns-clause-pending c = IfOk-weaker c.boxed.result _ _ (λ b is. IfOk-at_ok _ is c.copy_parts.ensures.pending) c.boxed.ensures

pub returns-clause-shown : goal.returns-clause-shown
returns-clause-shown c = IfOk-weaker c.boxed.result _ _ (λ b is. IfOk-at_ok _ is c.copy_parts.ensures.shown) c.boxed.ensures
