-- The sub-operations of an operation. Each takes effect by itself, has its own place in the log, and takes a stage of
-- its own while it is pending.
use Rattle.std.specs.Prelude.{List, [], ◌∷◌, map}
use Rattle.ft_op.specs.declared.operations.Seg.{Seg}
use Rattle.ft_op.specs.declared.operations.Seg.TheVariants.{Chars, Marker}
use Rattle.ft_op.specs.declared.operations.BaseOp.{BaseOp}
use Rattle.ft_op.specs.declared.operations.CellOp.{CellOp}
use Rattle.ft_op.specs.declared.operations.TextOp.{TextOp}
use Rattle.ft_op.specs.declared.operations.ChannelOp.{ChannelOp}
use Rattle.ft_op.specs.declared.operations.TextOp.TheVariants.{One, Group}
use Rattle.ft_op.specs.declared.operations.GridOp.TheVariants as grid
use Rattle.ft_op.specs.declared.operations.ChannelOp.TheVariants.{Text, Grid}
use Rattle.ft_props.specs.Element.{Character, ElementContent, MarkerOf}

-- the contents of the elements that a segment puts in
abbrev pub segment_contents : Seg → List ElementContent
segment_contents (Chars text) = map (λ c. Character c) text
segment_contents (Marker ref_type) = MarkerOf ref_type ∷ []

-- one sub-operation: on the elements of the text, on its intervals, or on the grid
pub data SubOperation : Type 0 where
  OnText : BaseOp → SubOperation
  OnIntervals : TextOp → SubOperation
  OnGrid : CellOp → SubOperation

-- the sub-operations of an operation of the text, in order
abbrev pub text_sub_operations : TextOp → List SubOperation
text_sub_operations (One op) = OnText op ∷ []
text_sub_operations (Group ops) = map (λ op. OnText op) ops
text_sub_operations op = OnIntervals op ∷ []

-- the sub-operations of an operation, in order
abbrev pub sub_operations : ChannelOp → List SubOperation
sub_operations (Text op) = text_sub_operations op
sub_operations (Grid (grid.One op)) = OnGrid op ∷ []
sub_operations (Grid (grid.Group ops)) = map (λ op. OnGrid op) ops
