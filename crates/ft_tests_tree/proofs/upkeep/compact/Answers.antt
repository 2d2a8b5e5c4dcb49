use Rattle.ft_tests_tree.proofs.PlayingLaws.{after-rough}
use Rattle.ft_tests_tree.proofs.upkeep.compact.Goals as goal

pub returns : goal.returns
returns c = after-rough c.requires c.in_ok-count.ensures
