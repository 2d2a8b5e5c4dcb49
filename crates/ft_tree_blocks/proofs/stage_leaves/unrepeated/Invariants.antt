use Rattle.std.proofs.Common.{◌≡◌, ◌++◌, None, drop, map}
use Rattle.ft_tree_blocks.specs.StageLeaves.{unrepeated}
use Rattle.ft_tree_blocks.proofs.stage_leaves.unrepeated.Given as goal

-- the nodes so far, and what the rest adds to them, are those of all
abbrev pub invariant-loop-id : goal.invariant-loop-id
invariant-loop-id l = l.nodes.items ++ unrepeated l.last (map (λ p. p.1) (drop l.id-index l.places)) ≡ unrepeated None (map (λ p. p.1) l.places)
