use Rattle.std.proofs.Common.{◌≡◌, ◌&&◌, ◌++◌, drop, filter, not}
use Rattle.ft_props.specs.Element.{has_sequenced_removal}
use Rattle.ft_op.specs.Cells.{Cell, is_null}
use Rattle.ft_plain_lists.proofs.cells.trimming.push_kept.Given as goal

-- those so far, and those of the rest, are all
abbrev pub invariant-loop-cell : goal.invariant-loop-cell
invariant-loop-cell l =
    let is_kept = λ (c : Cell). not (is_null c.value) && not (has_sequenced_removal l.rows c.row) && not (has_sequenced_removal l.cols c.col) in
    l.items.items ++ filter is_kept (drop l.cell-index l.cells) ≡ l.initial.items.items ++ filter is_kept l.cells
