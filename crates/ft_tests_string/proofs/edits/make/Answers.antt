use Rattle.ft_tests_string.proofs.PlayingLaws.{made-together}
use Rattle.ft_tests_string.proofs.edits.make.Goals as goal

pub returns-in-One : goal.returns-in-One
returns-in-One g c =
    made-together c.edit_op.result c.args.stage c.args.tree.now c.edit_op.new.tree c.args.intervals.now c.requires.together c.edit_op.ensures
