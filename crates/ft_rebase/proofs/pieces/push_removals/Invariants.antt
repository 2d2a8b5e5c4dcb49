use Rattle.std.proofs.Common.{◌≡◌, ◌++◌, drop, map}
use Rattle.ft_props.specs.Steps.{lowered_runs}
use Rattle.ft_rebase.specs.declared.pieces.Piece.TheVariants.{Remove}
use Rattle.ft_rebase.specs.MarkedRuns.{RunsRise}
use Rattle.ft_rebase.proofs.pieces.push_removals.Given as goal

-- the pieces so far, and those of the rest, are all; what was removed ends before the rest
abbrev pub invariant-loop-start : goal.invariant-loop-start
invariant-loop-start l = record {
  all : l.pieces.items ++ map (λ r. Remove r.0 r.1) (lowered_runs l.removed (drop l.start-index l.runs))
      ≡ l.fn.pieces.items ++ map (λ r. Remove r.0 r.1) (lowered_runs 0 l.runs);
  rise : RunsRise l.removed (drop l.start-index l.runs);
}
