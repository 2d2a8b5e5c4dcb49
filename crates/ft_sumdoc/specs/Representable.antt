-- What the types of the code promise of each summary: the characters of texts are Unicode scalar values, and keys rise.
use Rattle.std.specs.Prelude.{⊤}
use Rattle.std.specs.List.{AllByRecursion}
use Rattle.ft_op.specs.Representable.{IsKeyed, IsText}
use Rattle.ft_sumdoc.specs.declared.summary.IntervalRec.{IntervalRec}
use Rattle.ft_sumdoc.specs.declared.summary.Seg.{Seg}
use Rattle.ft_sumdoc.specs.declared.summary.Seg.TheVariants.{Chars, Marker}
use Rattle.ft_sumdoc.specs.declared.summary.SegRec.{SegRec}
use Rattle.ft_sumdoc.specs.declared.summary.SumDoc.{SumDoc}

abbrev pub IsRepresentableContent : Seg → Type 0
IsRepresentableContent (Chars text) = IsText text
IsRepresentableContent (Marker ref_type) = ⊤

abbrev pub IsRepresentableSegmentRecord : SegRec → Type 0
IsRepresentableSegmentRecord seg = IsRepresentableContent seg.body × IsKeyed seg.props

abbrev pub IsRepresentableInterval : IntervalRec → Type 0
IsRepresentableInterval i = IsText i.label × IsText i.id × IsKeyed i.props

pub record IsRepresentableSummary (sum : SumDoc) : Type 0 where
  pub conns : AllByRecursion IsText sum.conns
  pub text : AllByRecursion IsRepresentableSegmentRecord sum.text
  pub intervals : AllByRecursion IsRepresentableInterval sum.intervals
