-- What the types of the code promise of each of their values: the characters of texts are Unicode scalar values, and keys rise.
use Rattle.std.specs.Prelude.{List, [], ◌∷◌, ⊤}
use Rattle.std.specs.List.{AllByRecursion}
pub use Rattle.ft_base.specs.Texts.{IsText}
use Rattle.ft_props.specs.Keys.{Characters, KeysRise}
use Rattle.ft_op.specs.declared.operations.Seg.{Seg}
use Rattle.ft_op.specs.declared.operations.Seg.TheVariants.{Chars, Marker}
use Rattle.ft_op.specs.declared.operations.BaseOp.{BaseOp}
use Rattle.ft_op.specs.declared.operations.BaseOp.TheVariants.{Insert, Remove, Annotate}
use Rattle.ft_op.specs.declared.operations.TextOp.{TextOp}
use Rattle.ft_op.specs.declared.operations.TextOp.TheVariants.{One, Group, IntervalAdd, IntervalChange, IntervalDelete}
use Rattle.ft_op.specs.declared.operations.ChannelOp.{ChannelOp}
use Rattle.ft_op.specs.declared.operations.ChannelOp.TheVariants.{Text, Grid}

-- each key is a text
abbrev pub KeysAreTexts : {V : Type 0} → List (Characters × V) → Type 0
KeysAreTexts [] = ⊤
KeysAreTexts (p ∷ pairs) = IsText p.0 × KeysAreTexts pairs

-- the keys are texts and rise
abbrev pub IsKeyed : {V : Type 0} → List (Characters × V) → Type 0
IsKeyed pairs = KeysRise pairs × KeysAreTexts pairs

abbrev pub IsRepresentableSegment : Seg → Type 0
IsRepresentableSegment (Chars text) = IsText text
IsRepresentableSegment (Marker ref_type) = ⊤

abbrev pub IsRepresentableBase : BaseOp → Type 0
IsRepresentableBase (Insert p seg props) = IsRepresentableSegment seg × IsKeyed props
IsRepresentableBase (Remove p q) = ⊤
IsRepresentableBase (Annotate p q changes) = IsKeyed changes.props × IsKeyed changes.adjust

abbrev pub IsRepresentableText : TextOp → Type 0
IsRepresentableText (One op) = IsRepresentableBase op
IsRepresentableText (Group ops) = AllByRecursion IsRepresentableBase ops
IsRepresentableText (IntervalAdd label id ends props) = IsText label × IsText id × IsKeyed props
IsRepresentableText (IntervalChange label id ends props) = IsText label × IsText id × IsKeyed props
IsRepresentableText (IntervalDelete label id) = IsText label × IsText id

-- an operation; one of the grid has no texts
abbrev pub IsRepresentable : ChannelOp → Type 0
IsRepresentable (Text op) = IsRepresentableText op
IsRepresentable (Grid op) = ⊤
