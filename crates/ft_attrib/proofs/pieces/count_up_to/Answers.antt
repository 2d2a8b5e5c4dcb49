use Rattle.std.proofs.Common.{ℕ, ◌+◌, ◌-◌, ◌/◌, ◌≡◌, arith}
use Rattle.ft_attrib.specs.declared.attribution.Origin.TheVariants.{Known}
use Rattle.ft_attrib.proofs.ClippedPieces.{goes_on}
use Rattle.ft_attrib.proofs.PieceLaws.{ends_before}
use Rattle.ft_attrib.proofs.pieces.count_up_to.Goals as goal

pub loop-low-preserved-then-pieces-half_way : goal.loop-low-preserved-then-pieces-half_way
loop-low-preserved-then-pieces-half_way c =
    let middle : ℕ = c.loop-low.low + (c.loop-low.high - c.loop-low.low) / 2 in
    record {
      order = omega arith;
      inside = c.loop-low.invariant.inside;
      below = ends_before 0 c.args.p c.args.pieces.now middle (record { end = 0; who = Known 0 0 }) c.requires (omega arith) c.if-pieces-half_way.true;
      above = c.loop-low.invariant.above;
    }

pub returns-clause-goes_on : goal.returns-clause-goes_on
returns-clause-goes_on c =
    let same : c.loop-low.high ≡ c.loop-low.low = omega arith in
    goes_on c.args.p c.args.pieces.now c.loop-low.low c.requires (omega arith) c.loop-low.invariant.below (rw same at c.loop-low.invariant.above)
