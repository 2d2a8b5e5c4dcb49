use Rattle.std.proofs.Common.{sym, ◌∙◌, arith}
use Rattle.ft_block.specs.Leaves.{left_of}
use Rattle.ft_tree_leaves.proofs.LeafRuns.{length-elements}
use Rattle.ft_tree_blocks.proofs.FoundLeaves.{len_elements}
use Rattle.ft_tree_steps.proofs.OffsetCounts.{before_seen, before_unseen, seen_within}
use Rattle.ft_tree_blocks.proofs.CountedWalks.{live_leaf}
use Rattle.ft_tree_steps.proofs.offsets.seen_before_on.Goals as goal

pub position_of-before-requires-clause-live : goal.position_of-before-requires-clause-live
position_of-before-requires-clause-live g c = live_leaf g.C.Content.units g.C.Content.by c.args.blocks.now.leaves c.args.at.now c.requires.on_leaf

pub leaf-requires-clause-live : goal.leaf-requires-clause-live
leaf-requires-clause-live g c = live_leaf g.C.Content.units g.C.Content.by c.args.blocks.now.leaves c.args.at.now c.requires.on_leaf

pub overflow_add-result : goal.overflow_add-result
overflow_add-result g c =
    let us = g.C.Content.units in
    let by = g.C.Content.by in
    let xs = c.args.blocks.now.leaves in
    omega (
      arith,
      c.position_of-before.ensures,
      len_elements us by c.args.view (left_of xs c.args.at.now.owner),
      seen_within us by xs c.args.at.now c.args.view c.first-first.ensures.once c.requires.on_leaf,
      length-elements us by xs,
      c.first-first.ensures.few,
    )

pub returns-then-is_seen_in : goal.returns-then-is_seen_in
returns-then-is_seen_in g c =
    let us = g.C.Content.units in
    let by = g.C.Content.by in
    let xs = c.args.blocks.now.leaves in
    omega (
      arith,
      c.position_of-before.ensures,
      len_elements us by c.args.view (left_of xs c.args.at.now.owner),
      before_seen us by xs c.args.at.now c.leaf.result.now c.first-first.ensures.once c.leaf.ensures c.requires.on_leaf c.args.view
          (sym c.is_seen_in.ensures ∙ c.if-is_seen_in.true),
    )

pub returns-else-is_seen_in : goal.returns-else-is_seen_in
returns-else-is_seen_in g c =
    let us = g.C.Content.units in
    let by = g.C.Content.by in
    let xs = c.args.blocks.now.leaves in
    omega (
      arith,
      c.position_of-before.ensures,
      len_elements us by c.args.view (left_of xs c.args.at.now.owner),
      before_unseen us by xs c.args.at.now c.leaf.result.now c.first-first.ensures.once c.leaf.ensures c.requires.on_leaf c.args.view
          (sym c.is_seen_in.ensures ∙ c.if-is_seen_in.false),
    )
