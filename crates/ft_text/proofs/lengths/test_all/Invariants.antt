use Rattle.std.proofs.Common.{◌≡◌, drop}
use Rattle.ft_text.specs.Lengths.{count_after_all}
use Rattle.ft_text.proofs.lengths.test_all.Given as goal

-- those ahead tell what all do
abbrev pub invariant-loop-op : goal.invariant-loop-op
invariant-loop-op l = count_after_all l.seen (drop l.op-index l.ops) ≡ count_after_all l.fn.count l.ops
