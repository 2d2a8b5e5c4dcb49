use Rattle.ft_base.specs.declared.stamps.Stamp.TheVariants.{Local}
use Rattle.ft_block.specs.Leaves.{last_stage}
use Rattle.ft_tree_leaves.specs.Elements.{seen_in}
use Rattle.ft_tests_tree.proofs.PassingLaws.{passes_removal}
use Rattle.ft_tests_tree.proofs.texts.erase.Goals as goal

pub returns : goal.returns
returns g c =
    passes_removal (seen_in last_stage) c.args.p c.args.q (Local c.args.stage) c.args.tree.now c.remove_local.new.self
    c.in_ok-remove_local.ensures.elements c.in_ok-remove_local.ensures.refs c.in_ok-remove_local.ensures.rest
