use Rattle.std.proofs.Common.{arith}
use Rattle.ft_block.specs.Leaves.{left_of}
use Rattle.ft_tree_leaves.proofs.LeafRuns.{length-elements}
use Rattle.ft_tree_blocks.proofs.CountedWalks.{live_leaf, offset_within}
use Rattle.ft_tree_steps.proofs.offsets.elements_before.Goals as goal

pub position_of-requires-clause-live : goal.position_of-requires-clause-live
position_of-requires-clause-live g c = live_leaf g.C.Content.units g.C.Content.by c.args.blocks.now.leaves c.args.at.now c.requires.on_leaf

pub overflow_add-result : goal.overflow_add-result
overflow_add-result g c =
    let us = g.C.Content.units in
    let by = g.C.Content.by in
    let xs = c.args.blocks.now.leaves in
    omega (
      arith,
      c.position_of.ensures,
      length-elements us by (left_of xs c.args.at.now.owner),
      offset_within us by xs c.args.at.now c.first-first.ensures.once c.requires.on_leaf,
      length-elements us by xs,
      c.first-first.ensures.few,
    )

pub returns : goal.returns
returns g c =
    let us = g.C.Content.units in
    let by = g.C.Content.by in
    let xs = c.args.blocks.now.leaves in
    omega (arith, c.position_of.ensures, length-elements us by (left_of xs c.args.at.now.owner))
