use Rattle.std.proofs.Common.{◌≡◌, ◌++◌, drop}
use Rattle.ft_replay.proofs.observer.table_of.Given as goal

-- the table has the names that aren't left
abbrev pub invariant-loop-name : goal.invariant-loop-name
invariant-loop-name l = l.names ++ drop l.name-index l.name-items ≡ l.conns
