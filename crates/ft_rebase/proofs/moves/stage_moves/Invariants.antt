use Rattle.std.proofs.Common.{◌-◌, ◌^◌, ◌++◌, List}
use Rattle.ft_rebase.specs.declared.moves.StageMove.{StageMove}
use Rattle.ft_rebase.specs.Moves.{AreMoves}
use Rattle.ft_rebase.proofs.moves.stage_moves.Given as goal

-- with the moves of the stages above, they are all
abbrev pub invariant-loop-next : goal.invariant-loop-next
invariant-loop-next g l =
    (more : List StageMove) → AreMoves g.C.Content.units l.stage more l.tree.leaves
    → AreMoves g.C.Content.units 0 (l.moves.items ++ more) l.tree.leaves

abbrev pub decreases-loop-next : goal.decreases-loop-next
decreases-loop-next g l = 2 ^ 64 - l.stage
