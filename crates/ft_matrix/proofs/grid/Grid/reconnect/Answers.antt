use Rattle.ft_matrix.proofs.Reconnected.{sends-again}
use Rattle.ft_matrix.proofs.grid.Grid.reconnect.Goals as goal

pub returns : goal.returns
returns c = sends-again c.args.first c.args.count c.args.self.now c.resubmit.new.self c.in_ok-pieces.pieces.items c.op_of.result c.requires
    c.in_ok-pieces.ensures c.op_of.ensures
