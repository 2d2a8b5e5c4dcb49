use Rattle.std.proofs.Common.{◌≤◌, rules}
use Rattle.ft_base.specs.Scan.{len}
use Rattle.ft_block.specs.declared.leaves.LenView.TheVariants.{At}
use Rattle.ft_interval_store.specs.State.{text_elements}
use Rattle.ft_text.specs.Lengths.{end_of}
use Rattle.ft_tree_leaves.specs.Elements.{seen_in}
use Rattle.ft_tests_string.proofs.PlayingLaws.{heard}
use Rattle.ft_tests_string.proofs.hearing.hear_op.Goals as goal

pub returns-in-Ok-clause-carries : goal.returns-in-Ok-clause-carries
returns-in-Ok-clause-carries g c =
    let fits : end_of c.args.op.now ≤ len (seen_in (At c.args.at)) (text_elements c.args.tree.now) = search rules in
    heard c.args.seq c.args.at c.args.op.now c.args.tree.now c.apply_op.new.tree fits c.in-Ok.ensures
