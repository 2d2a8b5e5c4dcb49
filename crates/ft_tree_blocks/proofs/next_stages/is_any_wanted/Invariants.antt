use Rattle.std.proofs.Common.{◌≡◌, drop}
use Rattle.std.specs.List.{list_any}
use Rattle.ft_tree_blocks.specs.Wanted.{is_wanted_at}
use Rattle.ft_tree_blocks.proofs.next_stages.is_any_wanted.Given as goal

-- whether one of the rest will do is whether one of all will
abbrev pub invariant-loop-id : goal.invariant-loop-id
invariant-loop-id g l =
    list_any (is_wanted_at l.wanted l.blocks.leaves l.stage) (drop l.id-index l.nodes) ≡ list_any (is_wanted_at l.wanted l.blocks.leaves l.stage) l.nodes
