use Rattle.std.proofs.Common.{◌≡◌, ◌∙◌, ◌+◌, drop, ap, sym, arith}
use Rattle.std.specs.Prelude.{slice_get}
use Rattle.ft_attrib.specs.Pieces.{origin_in, spread}
use Rattle.ft_attrib.proofs.PieceLaws.{found-behind, found-here, spread-at}
use Rattle.ft_attrib.proofs.Halving.{half-left, half-most}
use Rattle.ft_attrib.proofs.pieces.origin_at.Goals as goal

pub loop-low-preserved-then-p-piece : goal.loop-low-preserved-then-p-piece
loop-low-preserved-then-p-piece g c =
    let before = c.loop-low.invariant in
    let steps : c.read-piece.new.steps ≡ c.loop-low.steps + 1 = c.read-piece.ensures.tick in
    record {
      order = omega arith;
      inside = omega arith;
      ahead = before.ahead;
      found = found-here c.args.p _ c.read-piece.result c.args.pieces.now c.read-piece.ensures.piece (omega arith) c.if-p-piece.true;
      counts = omega (arith, before.counts);
      half = rw steps (half-left _ _ _ _ _ before.counts before.half (omega arith));
      cost = rw steps (half-most _ _ _ _ before.counts before.half (omega arith));
    }

pub loop-low-preserved : goal.loop-low-preserved
loop-low-preserved g c =
    let before = c.loop-low.invariant in
    let steps : c.read-piece.new.steps ≡ c.loop-low.steps + 1 = c.read-piece.ensures.tick in
    record {
      order = omega arith;
      inside = before.inside;
      ahead = found-behind c.args.p _ c.read-piece.result c.args.pieces.now c.requires c.read-piece.ensures.piece (omega arith) c.if-p-piece.false;
      found = before.found;
      counts = omega (arith, before.counts);
      half = rw steps (half-left _ _ _ _ _ before.counts before.half (omega arith));
      cost = rw steps (half-most _ _ _ _ before.counts before.half (omega arith));
    }

pub returns-clause-origin : goal.returns-clause-origin
returns-clause-origin g c =
    let same : c.loop-low.high ≡ c.loop-low.low = omega arith in
    c.loop-low.invariant.found
    ∙ ap (λ i. origin_in c.args.p (drop i c.args.pieces.now)) same
    ∙ c.loop-low.invariant.ahead
    ∙ sym (spread-at 0 c.args.p c.args.pieces.now c.requires (omega arith))
    ∙ ap (slice_get (spread 0 c.args.pieces.now)) (omega arith)
