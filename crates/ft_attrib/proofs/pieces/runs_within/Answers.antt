use Rattle.std.proofs.Common.{◌≡◌, ◌∙◌, ◌-◌, length, take, drop, List, ap}
use Rattle.std.proofs.lemmas.List.{take_rest}
use Rattle.ft_attrib.specs.declared.attribution.Origin.{Origin}
use Rattle.ft_attrib.specs.declared.pieces.OriginPiece.{OriginPiece}
use Rattle.ft_attrib.specs.Runs.{origin_runs}
use Rattle.ft_attrib.specs.Pieces.{clipped, spread}
use Rattle.ft_attrib.proofs.ClippedPieces.{clipped-runs}
use Rattle.ft_attrib.proofs.pieces.runs_within.Goals as goal

pub returns : goal.returns
returns c =
    let p = c.args.p in
    let q = c.args.q in
    let xs : List OriginPiece = c.args.pieces.now in
    let i = c.count_up_to-first.result in
    let same : clipped q p (take (length xs - i) (drop i xs)) ≡ origin_runs p (take (q - p) (drop p (spread 0 xs))) =
    ap (clipped q p) (take_rest xs i)
    ∙ clipped-runs q p (drop i xs) c.count_up_to-first.ensures.goes_on.cut
    ∙ ap (λ (os : List Origin). origin_runs p (take (q - p) os)) c.count_up_to-first.ensures.goes_on.origins
    in
    rw same at c.runs_before.ensures
