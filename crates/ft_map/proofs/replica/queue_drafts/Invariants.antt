-- the messages so far, and then those of the rest, are those of all
use Rattle.std.proofs.Common.{◌≡◌, ◌++◌}
use Rattle.std.specs.VecDeque.Iter.{deque_iter_rest}
use Rattle.ft_map.specs.MapClient.{drafts_from}
use Rattle.ft_map.proofs.replica.queue_drafts.Given as goal

abbrev pub invariant-loop-op : goal.invariant-loop-op
invariant-loop-op l = l.drafts.items ++ drafts_from l.next l.ref_seq (deque_iter_rest l.op-iterator) ≡ l.initial.drafts.items ++ drafts_from 1 l.ref_seq l.state.pending
