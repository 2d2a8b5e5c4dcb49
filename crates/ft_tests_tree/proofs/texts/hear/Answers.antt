use Rattle.std.proofs.Common.{[]}
use Rattle.ft_base.specs.declared.stamps.Stamp.TheVariants.{Acked}
use Rattle.ft_block.specs.declared.leaves.LenView.TheVariants.{At}
use Rattle.ft_tree_leaves.specs.Elements.{is_pending, seen_in}
use Rattle.ft_tree_leaves.specs.TextLeaves.{text_author, text_units}
use Rattle.ft_props.specs.Properties.{apply}
use Rattle.ft_tests_tree.proofs.PassingLaws.{passes_put}
use Rattle.ft_tests_tree.proofs.texts.hear.Goals as goal

pub returns : goal.returns
returns g c =
    passes_put (seen_in (At c.args.at)) is_pending c.args.p (Acked c.args.seq c.args.at.c) (text_author c.args.seq c.args.at.c)
    (apply [] c.args.props.now) (text_units c.in_ok-content.content) _ c.args.tree.now c.insert_remote.new.self
    c.in_ok-insert_remote.ensures.elements c.in_ok-insert_remote.ensures.refs c.in_ok-insert_remote.ensures.rest
