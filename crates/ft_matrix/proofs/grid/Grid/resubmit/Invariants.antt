use Rattle.std.proofs.Common.{◌-◌, length}
use Rattle.ft_matrix.proofs.ResubmitSteps.{ResubmitsSome}
use Rattle.ft_matrix.proofs.grid.Grid.resubmit.Given as goal

-- some of the stages were looked at
abbrev pub invariant-loop-self : goal.invariant-loop-self
invariant-loop-self l = ResubmitsSome l.first l.count l.initial.self l.self l.i l.pieces.items

abbrev pub decreases-loop-self : goal.decreases-loop-self
decreases-loop-self l = length l.self.stages.items - l.i
