use Rattle.std.proofs.Common.{◌≡◌, ◌++◌, drop, map}
use Rattle.ft_rebase.specs.declared.pieces.Piece.TheVariants.{Annotate}
use Rattle.ft_rebase.proofs.pieces.push_annotations.Given as goal

-- the pieces so far, and those of the rest, are all
abbrev pub invariant-loop-pos1 : goal.invariant-loop-pos1
invariant-loop-pos1 l =
    l.pieces.items ++ map (λ r. Annotate r.0 r.1) (drop l.pos1-index l.runs) ≡ l.fn.pieces.items ++ map (λ r. Annotate r.0 r.1) l.runs
