use Rattle.std.proofs.Common.{◌≡◌, ◌++◌, drop, map}
use Rattle.ft_props.specs.Steps.{acked_stamp}
use Rattle.ft_tree_leaves.proofs.stamps.acked_all.Given as goal

-- those that are acknowledged, and what the rest gives, are all
abbrev pub invariant-loop-t : goal.invariant-loop-t
invariant-loop-t l = l.sequenced ++ map (acked_stamp l.stage l.seq l.conn) (drop l.t-index l.stamps) ≡ map (acked_stamp l.stage l.seq l.conn) l.stamps
