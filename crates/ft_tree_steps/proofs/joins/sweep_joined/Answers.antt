use Rattle.std.proofs.Common.{sym, ◌∙◌}
use Rattle.ft_block.proofs.CallerLemmas.{after_is_in}
use Rattle.ft_tree_steps.proofs.joins.sweep_joined.Goals as goal

pub sweep_without-requires-clause-live : goal.sweep_without-requires-clause-live
sweep_without-requires-clause-live g c = after_is_in c.args.blocks.now.leaves c.args.id c.in-Some.next (sym c.next.ensures ∙ c.in-Some.is)
