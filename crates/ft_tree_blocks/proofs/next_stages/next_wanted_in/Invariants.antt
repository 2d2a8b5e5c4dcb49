use Rattle.std.specs.VecDeque.Iter.{deque_iter_rest}
use Rattle.ft_tree_blocks.proofs.StageSearch.{Searches}
use Rattle.ft_tree_blocks.proofs.next_stages.next_wanted_in.Given as goal

-- the lists that are left are those that matter
abbrev pub invariant-loop-list : goal.invariant-loop-list
invariant-loop-list g l = Searches l.wanted l.stage l.blocks.leaves (deque_iter_rest l.list-iterator)
