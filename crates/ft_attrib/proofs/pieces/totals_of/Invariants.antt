use Rattle.std.proofs.Common.{◌≡◌, ◌+◌, ◌≤◌, length, drop}
use Rattle.ft_attrib.specs.Totals.{counted_all, summed, totals}
use Rattle.ft_attrib.specs.Pieces.{IsCut, spread}
use Rattle.ft_attrib.proofs.pieces.totals_of.Given as goal

abbrev pub invariant-loop-piece : goal.invariant-loop-piece
invariant-loop-piece l = record {
  cut : IsCut l.start (drop l.piece-index l.pieces);
  rest : l.start + length (spread l.start (drop l.piece-index l.pieces)) ≡ length (spread 0 l.pieces);
  sum : summed l.totals.items ≤ l.start;
  counted : counted_all l.totals.items (spread l.start (drop l.piece-index l.pieces)) ≡ totals (spread 0 l.pieces);
}
