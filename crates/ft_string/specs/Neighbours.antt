-- What stands beside an operation, by the elements of a tree. No public clause cites this module.
use Rattle.std.specs.Prelude.{Bool, true}
use Rattle.ft_base.specs.declared.elements.Perspective.{Perspective}
use Rattle.ft_block.specs.declared.leaves.LenView.TheVariants.{At}
use Rattle.ft_changes.specs.Beside.{passes_beside_place, passes_beside_range}
use Rattle.ft_op.specs.declared.operations.BaseOp.{BaseOp}
use Rattle.ft_op.specs.declared.operations.BaseOp.TheVariants.{Insert, Remove, Annotate}
use Rattle.ft_text.specs.Texts.{TextElements}
use Rattle.ft_tree_changes.specs.StandingElements.{is_always_seen, is_standing}
use Rattle.ft_tree_leaves.specs.Elements.{is_pending, seen_in}

-- whether what stands beside an operation of a message is seen at each stage, as far as ends of intervals go by it
abbrev pub passes_beside : Perspective → BaseOp → TextElements → Bool
passes_beside at (Insert p seg props) xs = passes_beside_place (seen_in (At at)) is_pending is_standing is_always_seen p xs
passes_beside at (Remove p q) xs = passes_beside_range (seen_in (At at)) is_standing is_always_seen p q xs
passes_beside at (Annotate p q changes) xs = true
