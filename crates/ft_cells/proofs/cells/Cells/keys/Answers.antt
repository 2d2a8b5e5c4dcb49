use Rattle.std.proofs.Common.{◌∙◌, sym, ap, subst}
use Rattle.std.specs.List.Sorted.{IsStrictlySortedBy}
use Rattle.ft_base.specs.Scan.{len, one_more_if}
use Rattle.ft_cells.specs.CellTables.{CellList, cell_at, holds_value, is_key, key_cmp}
use Rattle.ft_cells.proofs.HeldKeys.{all_keys, each_once, keys_rise}
use Rattle.ft_cells.proofs.cells.Cells.keys.Goals as goal

pub returns-clause-each_once : goal.returns-clause-each_once
returns-clause-each_once c = λ row col.
    let begun = c.into_iter-place-iterator.ensures.into_iter_gives in
    let entries = c.self.inside.cells.entries in
    ap (len (is_key row col)) (all_keys c.loop-place.keys.items _ _ entries c.in-None.ensures.steps.0 c.loop-place.invariant begun.0)
    ∙ each_once row col entries begun.5
    ∙ ap (λ (cells : CellList). one_more_if (holds_value (cell_at cells row col)) 0) c.self.view_is

pub returns-clause-rising : goal.returns-clause-rising
returns-clause-rising c =
    let begun = c.into_iter-place-iterator.ensures.into_iter_gives in
    let entries = c.self.inside.cells.entries in
    let all = all_keys c.loop-place.keys.items _ _ entries c.in-None.ensures.steps.0 c.loop-place.invariant begun.0 in
    subst (IsStrictlySortedBy key_cmp) (sym all) (keys_rise entries begun.5)
