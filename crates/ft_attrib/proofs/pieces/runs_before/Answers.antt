use Rattle.std.proofs.Common.{◌∙◌, ◌++◌, List, append-nil, drop, ap, sym}
use Rattle.ft_attrib.specs.declared.attribution.AttrRun.{AttrRun}
use Rattle.ft_attrib.proofs.ClippedPieces.{clipped-none}
use Rattle.ft_attrib.proofs.pieces.runs_before.Goals as goal

pub returns-then-q-start : goal.returns-then-q-start
returns-then-q-start c =
    let rest = drop c.loop-piece.piece-index c.args.pieces.now in
    sym (append-nil c.loop-piece.runs.items)
    ∙ ap (λ (rs : List AttrRun). c.loop-piece.runs.items ++ rs) (sym (clipped-none c.args.q c.loop-piece.start rest c.if-q-start.true))
    ∙ c.loop-piece.invariant
