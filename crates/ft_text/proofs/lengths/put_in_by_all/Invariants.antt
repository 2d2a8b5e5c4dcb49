use Rattle.std.proofs.Common.{◌≡◌, ◌+◌, drop}
use Rattle.ft_text.specs.Lengths.{put_in_by_all}
use Rattle.ft_text.proofs.lengths.put_in_by_all.Given as goal

-- so many were counted, and then those ahead are all
abbrev pub invariant-loop-op : goal.invariant-loop-op
invariant-loop-op l = l.count + put_in_by_all (drop l.op-index l.ops) ≡ put_in_by_all l.ops
