use Rattle.std.proofs.Common.{sym, ◌∙◌}
use Rattle.ft_block.specs.Leaves.{left_of}
use Rattle.ft_tree_blocks.proofs.FoundLeaves.{len_elements}
use Rattle.ft_tree_steps.proofs.places.seen_left.Goals as goal

pub returns : goal.returns
returns g c = c.position_of.ensures ∙ sym (len_elements g.C.Content.units g.C.Content.by c.args.view (left_of c.args.blocks.now.leaves c.args.leaf))
