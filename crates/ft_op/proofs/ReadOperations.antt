-- A written operation is read back.
use Rattle.ft_op.specs.declared.operations.ChannelOp.{ChannelOp}
use Rattle.ft_op.specs.declared.operations.ChannelOp.TheVariants.{Text, Grid}
use Rattle.ft_op.specs.Laws.{IsReadAs}
use Rattle.ft_op.specs.Representable.{IsRepresentable}
use Rattle.ft_op.specs.WellFormed.{IsWellFormed}
use Rattle.ft_op.specs.Written.{written}
use Rattle.ft_op.proofs.ReadText.{text_op_back}
use Rattle.ft_op.proofs.ReadGrid.{grid_op_back}

pub op_back : (op : ChannelOp) → IsRepresentable op → IsWellFormed op → IsReadAs op (written op)
op_back (Text op) r h = text_op_back op r h
op_back (Grid op) r h = grid_op_back op h
