use Rattle.std.proofs.Common.{◌∙◌, ap}
use Rattle.ft_tree_leaves.specs.Edits.{next_removal_above}
use Rattle.ft_tree_leaves.specs.LeafLists.{elements}
use Rattle.ft_tree_blocks.specs.State.{TrackedLeaves}
use Rattle.ft_tree_blocks.proofs.LeastAbove.{least_removal}
use Rattle.ft_tree_blocks.proofs.leaf_blocks.LeafBlocks.next_removal.Goals as goal

pub returns : goal.returns
returns g c =
    let us = g.C.Content.units in
    let by = g.C.Content.by in
    least_removal c.self.inside.blocks.leaves c.first-first.ensures.once c.args.stage c.next_wanted_in.result us by c.first-first.ensures.some
    c.next_wanted_in.ensures
    ∙ ap (λ (s : TrackedLeaves g.row.C.Denot). next_removal_above c.args.stage (elements us by s.leaves)) c.self.view_is
