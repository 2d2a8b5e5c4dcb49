use Rattle.std.proofs.Common.{ℕ, List, take}
use Rattle.ft_matrix.specs.Seen.{ArePlaced, HoldsRuns, shown_among}
use Rattle.ft_matrix.proofs.views.place_cells.Given as goal

abbrev pub invariant-loop-key : goal.invariant-loop-key
invariant-loop-key l = (hs gs : List ℕ) → HoldsRuns hs l.rows → HoldsRuns gs l.cols → ArePlaced (shown_among (take l.key-index l.key-items) l.cells) hs gs l.placed
