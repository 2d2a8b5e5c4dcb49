use Rattle.std.proofs.Common.{◌≡◌, ℕ, List, ap, subst, sym, ◌∙◌, take}
use Rattle.std.proofs.lemmas.List.{take_all, take_more}
use Rattle.ft_base.specs.Scan.{len, one_more_if}
use Rattle.ft_cells.specs.declared.cells.CellKey.{CellKey}
use Rattle.ft_cells.specs.CellTables.{cell_at, holds_value, is_key}
use Rattle.ft_matrix.specs.Seen.{ArePlaced, shown_among}
use Rattle.ft_matrix.proofs.CellPlaces.{all-among, none-among}
use Rattle.ft_matrix.proofs.views.place_cells.Goals as goal

pub loop-key-init : goal.loop-key-init
loop-key-init c = λ hs gs a b. none-among c.args.cells.now hs gs c.args.placed.now c.requires

pub loop-key-preserved : goal.loop-key-preserved
loop-key-preserved c = λ hs gs a b.
    subst (λ (ks : List CellKey). ArePlaced (shown_among ks c.args.cells.now) hs gs c.place_cell.new.placed)
    (sym (take_more c.deref-key-items.result.now c.loop-key.key-index _ c.loop-key-test.true))
    (c.in_ok-place_cell.ensures hs gs (take c.loop-key.key-index c.deref-key-items.result.now) a b (c.loop-key.invariant hs gs a b))

pub returns : goal.returns
returns c = λ hs gs a b.
    let keys = c.deref-key-items.result.now in
    let once : (row col : ℕ) → len (is_key row col) keys ≡ one_more_if (holds_value (cell_at c.args.cells.now row col)) 0 =
    λ row col. ap (len (is_key row col)) c.deref-key-items.ensures.value ∙ c.in_ok-keys.ensures.each_once row col in
    all-among c.args.cells.now keys hs gs c.loop-key.placed once
    (subst (λ (ks : List CellKey). ArePlaced (shown_among ks c.args.cells.now) hs gs c.loop-key.placed)
    (take_all c.loop-key.key-index keys c.loop-key-test.false) (c.loop-key.invariant hs gs a b))
