use Rattle.std.proofs.Common.{sym, ◌∙◌}
use Rattle.serde_json.specs.View.{view}
use Rattle.ft_op.specs.TextGrammar.{adjustment}
use Rattle.ft_op.proofs.ReadNumbers.{adjustment-formed}
use Rattle.ft_op.proofs.ReadSteps.{if_ok-of}
use Rattle.ft_op.proofs.adjustments.read_adjustment_beside.Goals as goal

pub returns-clause-formed : goal.returns-clause-formed
returns-clause-formed c =
    let new = sym c.contains_key.ensures ∙ c.if-contains_key.false in
    if_ok-of _ c.read_adjustment.result (adjustment (view c.args.value.now)) c.read_adjustment.ensures (λ made e. (new, adjustment-formed (view c.args.value.now) made e))
