use Rattle.std.proofs.Common.{◌∙◌, ap}
use Rattle.std.proofs.lemmas.Result.{IfOk-at_ok}
use Rattle.ft_props.specs.declared.overlay.Ahead.{Ahead}
use Rattle.ft_props.proofs.overlay.Ahead.first.Goals as goal

pub returns-clause-pending : goal.returns-clause-pending
returns-clause-pending c = ap (λ (a : Ahead). a.pending.items) c.deref_mut.ensures.value ∙ IfOk-at_ok _ c.in_ok-ahead.ensures c.over.ensures.pending

pub returns-clause-shown : goal.returns-clause-shown
returns-clause-shown c = ap (λ (a : Ahead). a.shown) c.deref_mut.ensures.value ∙ IfOk-at_ok _ c.in_ok-ahead.ensures c.over.ensures.shown
