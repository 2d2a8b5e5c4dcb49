use Rattle.std.proofs.Common.{refl}
use Rattle.ft_tests_tree.proofs.PlayingLaws.{after-edit}
use Rattle.ft_tests_tree.proofs.edits.make_edit.Goals as goal

pub returns-then-not-made : goal.returns-then-not-made
returns-then-not-made c = after-edit c.requires c.in_ok-made.ensures refl

pub returns : goal.returns
returns c = after-edit c.requires c.in_ok-made.ensures c.in_ok-pass.ensures
