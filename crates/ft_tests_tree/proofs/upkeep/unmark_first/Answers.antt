use Rattle.std.proofs.Common.{sym, ◌∙◌}
use Rattle.ft_block.proofs.CallerLemmas.{first_is_in}
use Rattle.ft_tests_tree.proofs.PlayingLaws.{stays-kept}
use Rattle.ft_tests_tree.proofs.upkeep.unmark_first.Goals as goal

pub unmark-requires-clause-live : goal.unmark-requires-clause-live
unmark-requires-clause-live c = first_is_in c.args.tree.now.leaves _ (sym c.first_leaf.ensures.value ∙ c.in-Some.is)

pub returns : goal.returns
returns c = stays-kept c.requires c.in_ok-unmark.ensures.rest c.in_ok-unmark.ensures.refs
