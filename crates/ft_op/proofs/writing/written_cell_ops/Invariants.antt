use Rattle.std.proofs.Common.{◌≡◌, map, take}
use Rattle.serde_json.specs.View.{view}
use Rattle.ft_op.specs.Written.{written_cell}
use Rattle.ft_op.proofs.writing.written_cell_ops.Given as goal

-- what was passed is written
abbrev pub invariant-loop-op : goal.invariant-loop-op
invariant-loop-op l = map view l.values.items ≡ map written_cell (take l.op-index l.ops)
