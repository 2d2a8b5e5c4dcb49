use Rattle.std.proofs.Common.{◌≡◌, ◌++◌, drop}
use Rattle.ft_attrib.specs.Pieces.{clipped}
use Rattle.ft_attrib.proofs.pieces.runs_before.Given as goal

abbrev pub invariant-loop-piece : goal.invariant-loop-piece
invariant-loop-piece l = l.runs.items ++ clipped l.q l.start (drop l.piece-index l.pieces) ≡ clipped l.q l.p l.pieces
