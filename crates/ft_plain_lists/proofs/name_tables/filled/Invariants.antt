use Rattle.std.proofs.Common.{◌≡◌, replicate}
use Rattle.ft_plain_lists.proofs.name_tables.filled.Given as goal

-- as many values as were counted
abbrev pub invariant-loop-i : goal.invariant-loop-i
invariant-loop-i g l = l.table.items ≡ replicate l._i l.value
