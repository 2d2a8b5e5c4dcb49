use Rattle.std.proofs.Common.{◌∙◌, ◌-◌, drop, sym, arith, length-drop}
use Rattle.ft_sumdoc.specs.Cells.{is_given_cell_before}
use Rattle.ft_sumdoc.specs.Items.{cell_of}
use Rattle.ft_sumdoc.proofs.ReadOptions.{one_rises}
use Rattle.ft_sumdoc.proofs.shown_reading.cells_rise.Goals as goal

pub returns : goal.returns
returns c =
    let i = c.loop-i.i in
    let cells = c.args.cells.now in
    sym (one_rises is_given_cell_before cell_of (drop (i - 1) cells) (omega (arith, length-drop (i - 1) cells))) ∙ c.loop-i.invariant
