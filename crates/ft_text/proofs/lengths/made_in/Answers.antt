use Rattle.ft_block.specs.declared.leaves.LenView.TheVariants.{Stage as at_stage}
use Rattle.ft_interval_store.specs.State.{text_elements}
use Rattle.ft_tree_leaves.specs.Elements.{seen_in}
use Rattle.ft_text.proofs.Counts.{few-seen}
use Rattle.ft_text.proofs.lengths.made_in.Goals as goal

pub returns-clause-few : goal.returns-clause-few
returns-clause-few c stage =
    few-seen (seen_in (at_stage stage)) (text_elements c.args.tree.now) c.args.tree.now.made (c.made.ensures.fits c.requires) (c.made.ensures.small c.requires)
