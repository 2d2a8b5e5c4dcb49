use Rattle.std.proofs.Common.{◌≡◌, ◌++◌, drop, map}
use Rattle.ft_string.specs.Rejoins.{piece_op}
use Rattle.ft_string.proofs.rejoining.push_pieces.Given as goal

-- what was added, and then the pieces ahead, are all
abbrev pub invariant-loop-part : goal.invariant-loop-part
invariant-loop-part l = l.again ++ map (piece_op l.op) (drop l.part-index l.parts) ≡ l.fn.again ++ map (piece_op l.op) l.parts
