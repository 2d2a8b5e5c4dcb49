use Rattle.ft_tests_tree.proofs.PlayingLaws.{stays-changed}
use Rattle.ft_tests_tree.proofs.upkeep.all_swept.Goals as goal

pub returns : goal.returns
returns c = stays-changed _ c.in_ok-count.ensures.usable c.in_ok-count.ensures.refs
