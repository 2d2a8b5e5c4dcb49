use Rattle.std.proofs.Common.{◌∙◌, ap}
use Rattle.ft_tree_leaves.specs.Edits.{next_pending_above}
use Rattle.ft_tree_blocks.specs.State.{TrackedLeaves}
use Rattle.ft_tree_blocks.proofs.LeastAbove.{least_pending}
use Rattle.ft_tree_blocks.proofs.leaf_blocks.LeafBlocks.next_pending.Goals as goal

pub returns : goal.returns
returns g c =
    least_pending c.self.inside.blocks.leaves c.first-first.ensures.once c.args.stage c.next_wanted_in.result c.next_wanted_in.ensures
    ∙ ap (λ (s : TrackedLeaves g.row.C.Denot). next_pending_above c.args.stage s.leaves) c.self.view_is
