use Rattle.ft_base.specs.declared.stamps.Stamp.TheVariants.{Acked}
use Rattle.ft_block.specs.declared.leaves.LenView.TheVariants.{At}
use Rattle.ft_tree_leaves.specs.Elements.{seen_in}
use Rattle.ft_tree_leaves.specs.LeafLists.{elements}
use Rattle.ft_tree_leaves.specs.References.{slid_reference}
use Rattle.ft_tree_leaves.specs.TextLeaves.{text_units}
use Rattle.ft_tests_tree.proofs.PassingLaws.{passes_slide}
use Rattle.ft_tests_tree.proofs.texts.strike.Goals as goal

pub returns : goal.returns
returns g c =
    let new = elements text_units (λ x. x.by) c.remove_remote.new.self.leaves in
    passes_slide (seen_in (At c.args.at)) c.args.p c.args.q (Acked c.args.seq c.args.at.c) (slid_reference new)
    c.args.tree.now c.remove_remote.new.self
    c.in_ok-remove_remote.ensures.elements c.in_ok-remove_remote.ensures.refs c.in_ok-remove_remote.ensures.rest
