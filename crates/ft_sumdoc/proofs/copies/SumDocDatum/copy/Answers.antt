use Rattle.std.proofs.Common.{◌≡◌, List, ap₂}
use Rattle.std.proofs.lemmas.Result.{IfOk-at_ok}
use Rattle.ft_props.specs.Properties.{Characters}
use Rattle.ft_sumdoc.specs.declared.summary.CellRec.{CellRec}
use Rattle.ft_sumdoc.specs.declared.summary.IntervalRec.{IntervalRec}
use Rattle.ft_sumdoc.specs.declared.summary.RunRec.{RunRec}
use Rattle.ft_sumdoc.specs.declared.summary.SegRec.{SegRec}
use Rattle.ft_sumdoc.specs.declared.summary.SumDoc.{SumDoc}
use Rattle.ft_sumdoc.proofs.copies.SumDocDatum.copy.Goals as goal

abbrev Elements : Type 0
Elements = List SegRec × List RunRec × List RunRec

abbrev Shown : Type 0
Shown = List Characters × List IntervalRec × List CellRec

-- a summary with copies of its lists is the same
with_copies : (s : SumDoc) (p : Elements) (q : Shown) → p ≡ (s.text, s.rows, s.cols) → q ≡ (s.conns, s.intervals, s.cells)
    → record s { text = p.0; rows = p.1; cols = p.2; conns = q.0; intervals = q.1; cells = q.2 } ≡ s
with_copies s p q h k =
    ap₂ (λ (x : Elements) (y : Shown). record s { text = x.0; rows = x.1; cols = x.2; conns = y.0; intervals = y.1; cells = y.2 }) h k

pub returns : goal.returns
returns c =
    let s = c.args.self.now in
    let copied = c.in_ok-text in
    let elements = IfOk-at_ok (λ (x : Elements). x ≡ (s.text, s.rows, s.cols)) copied.ensures.first c.copy_three-elements.ensures in
    let shown = IfOk-at_ok (λ (y : Shown). y ≡ (s.conns, s.intervals, s.cells)) copied.ensures.second c.copy_three-shown.ensures in
    with_copies s _ _ elements shown
