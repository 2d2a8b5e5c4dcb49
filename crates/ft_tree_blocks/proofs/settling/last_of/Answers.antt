use Rattle.std.proofs.Common.{arith}
use Rattle.ft_tree_blocks.proofs.CountedWalks.{count_up_to}
use Rattle.ft_tree_blocks.proofs.settling.last_of.Goals as goal

pub returns-clause-place : goal.returns-clause-place
returns-clause-place g c =
    let us = g.C.Content.units in
    let by = g.C.Content.by in
    let xs = c.args.blocks.now.leaves in
    omega (arith, count_up_to us by xs c.args.leaf c.leaf.result.now c.first-first.ensures.once c.leaf.ensures, c.len.ensures.value, c.len.ensures.some)
