use Rattle.std.proofs.Common.{[]}
use Rattle.ft_base.specs.declared.stamps.Stamp.TheVariants.{Local}
use Rattle.ft_base.specs.Scan.{no_run}
use Rattle.ft_block.specs.Leaves.{last_stage}
use Rattle.ft_tree_leaves.specs.Elements.{seen_in}
use Rattle.ft_tree_leaves.specs.TextLeaves.{text_units}
use Rattle.ft_props.specs.Properties.{apply}
use Rattle.ft_tests_tree.proofs.PassingLaws.{passes_put}
use Rattle.ft_tests_tree.proofs.texts.write.Goals as goal

pub returns : goal.returns
returns g c =
    passes_put (seen_in last_stage) no_run c.args.p (Local c.args.stage) c.in_ok-content.content.by (apply [] c.args.props.now)
    (text_units c.in_ok-content.content) _ c.args.tree.now c.insert_local.new.self
    c.in_ok-insert_local.ensures.elements c.in_ok-insert_local.ensures.refs c.in_ok-insert_local.ensures.rest
