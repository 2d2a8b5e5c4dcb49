use Rattle.std.proofs.Common.{sym, ◌∙◌}
use Rattle.ft_block.proofs.CallerLemmas.{after_is_in, first_is_in}
use Rattle.ft_tests_string.proofs.sights.push_leaves.Goals as goal

pub loop-i-init : goal.loop-i-init
loop-i-init c = λ x e. first_is_in c.args.tree.now.leaves x (sym c.first_leaf-at.ensures.value ∙ e)

pub loop-i-preserved : goal.loop-i-preserved
loop-i-preserved c = λ x e. after_is_in c.args.tree.now.leaves _ x (sym c.next_leaf-at.ensures ∙ e)
