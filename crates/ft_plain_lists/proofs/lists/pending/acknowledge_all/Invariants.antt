use Rattle.std.proofs.Common.{◌≡◌, ◌++◌, drop, map, take}
use Rattle.ft_props.specs.Steps.{acked_element}
use Rattle.ft_plain_lists.proofs.lists.pending.acknowledge_all.Given as goal

-- the elements so far are acknowledged; the rest is as it was, and completes the whole once it is acknowledged
abbrev pub invariant-loop-e : goal.invariant-loop-e
invariant-loop-e l = record {
  rest : drop l.e-index l.items ≡ drop l.e-index l.initial.items;
  acked : take l.e-index l.items ++ map (acked_element l.stage l.made l.seq l.conn) (drop l.e-index l.items) ≡ map (acked_element l.stage l.made l.seq l.conn) l.initial.items;
}
