use Rattle.std.proofs.Common.{◌∙◌, ap, sym}
use Rattle.ft_msg.specs.Process.{is_body}
use Rattle.ft_op.proofs.SameOperations.{same_op-is}
use Rattle.ft_replica.proofs.linked.processing.is_body.Goals as goal

pub returns-in-Op : goal.returns-in-Op
returns-in-Op c = same_op-is c.same.result c.args.op.now c.in-Op.other c.same.ensures ∙ ap (is_body c.args.op.now) (sym c.in-Op.is)
