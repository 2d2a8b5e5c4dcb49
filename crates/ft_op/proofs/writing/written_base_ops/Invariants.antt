use Rattle.std.proofs.Common.{◌≡◌, map, take}
use Rattle.std.specs.List.{AllByRecursion}
use Rattle.serde_json.specs.View.{view}
use Rattle.ft_op.specs.Representable.{IsRepresentableBase}
use Rattle.ft_op.specs.Written.{written_base}
use Rattle.ft_op.proofs.writing.written_base_ops.Given as goal

-- what was passed is written
abbrev pub invariant-loop-op : goal.invariant-loop-op
invariant-loop-op l = record {
  written : map view l.values.items ≡ map written_base (take l.op-index l.ops);
  representable : AllByRecursion IsRepresentableBase (take l.op-index l.ops);
}
