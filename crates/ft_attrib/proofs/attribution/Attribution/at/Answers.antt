use Rattle.std.proofs.Common.{◌≡◌, ◌∙◌, List, length, ap, sym}
use Rattle.ft_attrib.specs.declared.attribution.Origin.{Origin}
use Rattle.ft_attrib.specs.Runs.{origin_runs}
use Rattle.ft_attrib.proofs.ClippedPieces.{pieces-length}
use Rattle.ft_attrib.proofs.attribution.Attribution.at.Goals as goal

pub returns-clause-cost : goal.returns-clause-cost
returns-clause-cost g c =
    let runs : length (origin_runs 0 c.args.self.now) ≡ length c.as_slice.result.now =
    ap (λ (os : List Origin). length (origin_runs 0 os)) (sym c.self.view_is)
    ∙ pieces-length 0 c.self.inside.pieces.items c.self.invariant.0
    ∙ ap length (sym c.as_slice.ensures.value)
    in
    rw runs c.origin_at.ensures.cost
