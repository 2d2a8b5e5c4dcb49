-- what is done, and then the rest, is all
use Rattle.std.proofs.Common.{◌≡◌}
use Rattle.std.specs.VecDeque.Iter.{deque_iter_rest}
use Rattle.ft_shared_map.specs.Maps.{put_all, shown_map}
use Rattle.ft_shared_map.proofs.shared.SharedMap.shown.Given as goal

abbrev pub invariant-loop-op : goal.invariant-loop-op
invariant-loop-op l = put_all l.map (deque_iter_rest l.op-iterator) ≡ shown_map l.self
