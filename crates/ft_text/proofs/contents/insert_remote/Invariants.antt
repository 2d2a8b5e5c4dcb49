use Rattle.std.proofs.Common.{[], length}
use Rattle.ft_base.specs.declared.stamps.Stamp.TheVariants.{Acked}
use Rattle.ft_block.specs.declared.leaves.LenView.TheVariants.{At}
use Rattle.ft_tree_leaves.specs.Elements.{is_pending, seen_in}
use Rattle.ft_tree_leaves.specs.TextLeaves.{text_author}
use Rattle.ft_op.specs.Operation.{segment_contents}
use Rattle.ft_props.specs.Properties.{apply}
use Rattle.ft_text.specs.Contents.{contents_in}
use Rattle.ft_text.proofs.PutInParts.{InsertsLeft}
use Rattle.ft_text.proofs.contents.insert_remote.Given as goal

-- what is left makes of the tree what all make of the first one
abbrev pub invariant-loop-content : goal.invariant-loop-content
invariant-loop-content g l =
    InsertsLeft (seen_in (At l.at)) is_pending l.p (Acked l.seq l.at.c) (text_author l.seq l.at.c) (apply [] l.props)
    (segment_contents l.seg) (contents_in l.contents) l.fn.tree l.tree

abbrev pub decreases-loop-content : goal.decreases-loop-content
decreases-loop-content g l = length (contents_in l.contents)
