use Rattle.std.proofs.Common.{◌∙◌, ◌-◌, drop, sym, arith, length-drop}
use Rattle.ft_sumdoc.specs.Valid.{is_cell_before}
use Rattle.ft_sumdoc.proofs.ReadOptions.{next_rises, one_alone}
use Rattle.ft_sumdoc.proofs.valid.cells_rise.Goals as goal

pub returns : goal.returns
returns c =
    let i = c.loop-i.i in
    let cells = c.args.cells.now in
    sym (one_alone is_cell_before (drop (i - 1) cells) (omega (arith, length-drop (i - 1) cells))) ∙ c.loop-i.invariant

pub loop-i-preserved : goal.loop-i-preserved
loop-i-preserved c =
    let first = c.index-cells-i in
    let next = c.index-cells-i-in-loop-i in
    next_rises is_cell_before c.args.cells.now c.loop-i.i first.result next.result c.loop-i-test.true first.is next.is
    (sym c.is_place_before.ensures ∙ c.if-not-is_place_before.false)
    ∙ c.loop-i.invariant
