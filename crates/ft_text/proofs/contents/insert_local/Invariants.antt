use Rattle.std.proofs.Common.{[], length, None}
use Rattle.ft_base.specs.Scan.{no_run}
use Rattle.ft_base.specs.declared.stamps.Stamp.TheVariants.{Local}
use Rattle.ft_block.specs.Leaves.{last_stage}
use Rattle.ft_tree_leaves.specs.Elements.{seen_in}
use Rattle.ft_op.specs.Operation.{segment_contents}
use Rattle.ft_props.specs.Properties.{apply}
use Rattle.ft_text.specs.Contents.{contents_in}
use Rattle.ft_text.proofs.PutInParts.{FewReads, InsertsLeft}
use Rattle.ft_text.proofs.contents.insert_local.Given as goal

-- what is left makes of the tree what all make of the first one, and one content is put in by few reads
abbrev pub invariant-loop-content : goal.invariant-loop-content
invariant-loop-content g l = record {
  inserts : InsertsLeft (seen_in last_stage) no_run l.p (Local l.stage) None (apply [] l.props) (segment_contents l.seg)
      (contents_in l.contents) l.fn.tree l.tree;
  reads : FewReads (segment_contents l.seg) (contents_in l.contents) l.fn.tree l.tree l.fn.steps l.steps;
}

abbrev pub decreases-loop-content : goal.decreases-loop-content
decreases-loop-content g l = length (contents_in l.contents)
