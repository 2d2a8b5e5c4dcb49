use Rattle.std.proofs.Common.{◌≡◌, ◌++◌, drop}
use Rattle.ft_tree_blocks.specs.StageLeaves.{touched_places}
use Rattle.ft_tree_blocks.proofs.stage_leaves.touched_places.Given as goal

-- the places so far, and those of the rest, are those of all
abbrev pub invariant-loop-id : goal.invariant-loop-id
invariant-loop-id g l =
    l.places.items ++ touched_places g.C.Content.units l.blocks.leaves l.stage (drop l.id-index l.nodes) ≡ touched_places g.C.Content.units l.blocks.leaves l.stage l.nodes
