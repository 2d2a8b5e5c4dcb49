use Rattle.std.proofs.Common.{refl}
use Rattle.ft_tests_tree.proofs.PlayingLaws.{after-edit}
use Rattle.ft_tests_tree.proofs.upkeep.acknowledge_next.Goals as goal

pub returns : goal.returns
returns c = after-edit c.requires c.in_ok-acknowledge.ensures refl
