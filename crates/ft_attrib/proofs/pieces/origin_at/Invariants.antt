use Rattle.std.proofs.Common.{◌≡◌, ◌+◌, ◌*◌, ◌-◌, ◌^◌, ◌≤◌, length, drop}
use Rattle.ft_attrib.specs.Pieces.{origin_in}
use Rattle.ft_attrib.proofs.pieces.origin_at.Given as goal

abbrev pub invariant-loop-low : goal.invariant-loop-low
invariant-loop-low g l = record {
  order : l.low ≤ l.high;
  inside : l.high ≤ length l.pieces;
  ahead : origin_in l.p (drop l.low l.pieces) ≡ origin_in l.p l.pieces;
  found : l.found ≡ origin_in l.p (drop l.high l.pieces);
  counts : l.initial.steps ≤ l.steps;
  half : 2 ^ (l.steps - l.initial.steps) * (l.high - l.low) ≤ length l.pieces;
  cost : 2 ^ (l.steps - l.initial.steps) ≤ 2 * length l.pieces + 1;
}

abbrev pub decreases-loop-low : goal.decreases-loop-low
decreases-loop-low g l = l.high - l.low
