use Rattle.std.proofs.Common.{ℕ, List}
use Rattle.std.specs.BTreeMap.{BTreeMap}
use Rattle.ft_base.proofs.Results.{after-done}
use Rattle.ft_props.specs.Properties.{ValueBytes}
use Rattle.ft_matrix.specs.Seen.{ArePlaced, HoldsRuns, shown_at}
use Rattle.ft_matrix.proofs.views.placed_cells.Goals as goal

pub returns : goal.returns
returns c =
    after-done c.place_cells-done.result c.after.result
    (λ (placed : BTreeMap (ℕ × ℕ) ValueBytes). (hs gs : List ℕ) → HoldsRuns hs c.args.rows.now → HoldsRuns gs c.args.cols.now →
    ArePlaced (shown_at c.args.cells.now) hs gs placed)
    c.place_cells-done.new.placed c.place_cells-done.ensures c.after.ensures.done c.after.ensures.value
