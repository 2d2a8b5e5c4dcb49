use Rattle.std.proofs.Common.{sym, ◌∙◌}
use Rattle.ft_tree_blocks.proofs.FoundLeaves.{len_elements}
use Rattle.ft_tree_steps.proofs.places.seen_count.Goals as goal

pub returns : goal.returns
returns g c = c.length.ensures ∙ sym (len_elements g.C.Content.units g.C.Content.by c.args.view c.args.blocks.now.leaves)
