use Rattle.std.proofs.Common.{◌≡◌, ◌++◌, drop}
use Rattle.ft_plain_summary.specs.NamedPlaces.{named_cells}
use Rattle.ft_plain_summary.proofs.named.named_cells.Given as goal

-- the cells so far, and those of the rest, are all
abbrev pub invariant-loop-rec : goal.invariant-loop-rec
invariant-loop-rec l = l.cells ++ named_cells l.rows l.cols (drop l.rec-index l.recs) ≡ named_cells l.rows l.cols l.recs
