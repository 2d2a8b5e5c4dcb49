use Rattle.std.proofs.Common.{◌≡◌, ◌+◌, drop}
use Rattle.ft_client.specs.Parts.{units_by_all}
use Rattle.ft_client.proofs.own.edits.units_by_all.Given as goal

-- so many were counted, and then those ahead are all
abbrev pub invariant-loop-op : goal.invariant-loop-op
invariant-loop-op l = l.count + units_by_all l.target (drop l.op-index l.ops) ≡ units_by_all l.target l.ops
