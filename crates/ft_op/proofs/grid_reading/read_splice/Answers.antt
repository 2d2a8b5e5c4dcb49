use Rattle.serde_json.specs.View.{view}
use Rattle.ft_op.specs.WellFormed.{IsWellFormedCell}
use Rattle.ft_op.proofs.ReadNumbers.{typed_splice-formed}
use Rattle.ft_op.proofs.ReadSteps.{if_ok-of}
use Rattle.ft_op.proofs.grid_reading.read_splice.Goals as goal

pub returns-clause-formed : goal.returns-clause-formed
returns-clause-formed c =
    if_ok-of IsWellFormedCell c.read_typed_splice.result _ c.read_typed_splice.ensures (typed_splice-formed c.in_ok-list.list (view c.args.value.now) c.in_ok-kind.kind)
