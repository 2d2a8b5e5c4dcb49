use Rattle.ft_tests_string.proofs.PlayingLaws.{carried}
use Rattle.ft_tests_string.proofs.hearing.hear.Goals as goal

pub returns-in-One : goal.returns-in-One
returns-in-One g c k h = carried c.hear_all.result c.args.tree.now c.hear_all.new.tree c.args.intervals.now k h c.hear_all.ensures

pub returns-in-Group : goal.returns-in-Group
returns-in-Group g c k h =
    carried c.hear_all-in-Group.result c.args.tree.now c.hear_all-in-Group.new.tree c.args.intervals.now k h c.hear_all-in-Group.ensures
