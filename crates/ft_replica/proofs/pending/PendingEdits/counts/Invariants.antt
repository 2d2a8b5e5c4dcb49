use Rattle.std.proofs.Common.{◌≡◌, ◌++◌, map}
use Rattle.std.specs.VecDeque.Iter.{deque_iter_rest}
use Rattle.ft_replica.proofs.pending.PendingEdits.counts.Given as goal

-- the counts so far, and those of the rest, are all
abbrev pub invariant-loop-edit : goal.invariant-loop-edit
invariant-loop-edit l = l.counts.items ++ map (λ e. e.count) (deque_iter_rest l.edit-iterator) ≡ map (λ e. e.count) l.self
