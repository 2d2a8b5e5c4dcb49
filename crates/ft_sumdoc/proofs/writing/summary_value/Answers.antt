use Rattle.ft_op.proofs.CanonicalOperations.{each}
use Rattle.ft_sumdoc.specs.declared.summary.CellRec.{CellRec}
use Rattle.ft_sumdoc.specs.declared.summary.IntervalRec.{IntervalRec}
use Rattle.ft_sumdoc.specs.declared.summary.SegRec.{SegRec}
use Rattle.ft_sumdoc.specs.Runs.{unremoved_units}
use Rattle.ft_sumdoc.specs.Segments.{unremoved_text}
use Rattle.ft_sumdoc.specs.Valid.{HasValues, IsCell, IsInterval, IsSegment, IsValue, bounds}
use Rattle.ft_sumdoc.proofs.writing.summary_value.Goals as goal

pub put_first-requires-clause-cells : goal.put_first-requires-clause-cells
put_first-requires-clause-cells c =
    let sum = c.args.doc.now in
    each (IsCell (unremoved_units sum.rows) (unremoved_units sum.cols)) (λ (cell : CellRec). IsValue cell.value) (λ cell h. h.1) sum.cells c.requires.cells

pub put_next-requires : goal.put_next-requires
put_next-requires c =
    let sum = c.args.doc.now in
    each (IsInterval (unremoved_text sum.text)) (λ (i : IntervalRec). HasValues i.props) (λ i h. h.1) sum.intervals c.requires.intervals

pub put_last-requires-clause-values : goal.put_last-requires-clause-values
put_last-requires-clause-values c =
    let sum = c.args.doc.now in
    each (IsSegment (bounds sum)) (λ (seg : SegRec). HasValues seg.props) (λ seg h. h.props) sum.text c.requires.text
