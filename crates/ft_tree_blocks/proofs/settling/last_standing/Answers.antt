use Rattle.std.proofs.Common.{sym, ◌∙◌, ap, arith}
use Rattle.ft_block.specs.Leaves.{left_of}
use Rattle.ft_tree_leaves.specs.LeafLists.{elements}
use Rattle.ft_tree_leaves.specs.Settling.{stands}
use Rattle.ft_tree_blocks.specs.LastStanding.{last_from}
use Rattle.ft_tree_blocks.proofs.SkippedLeaves.{last-off}
use Rattle.ft_tree_blocks.proofs.SettledLeaves.{last_fewer, last_on, last_past, prev_live}
use Rattle.ft_tree_blocks.proofs.settling.last_standing.Goals as goal

pub returns-then-stands-clause-last : goal.returns-then-stands-clause-last
returns-then-stands-clause-last g c =
    let us = g.C.Content.units in
    let by = g.C.Content.by in
    let xs = c.args.blocks.now.leaves in
    let on = last_on us by c.args.test xs c.in-Some.id c.leaf-leaf.result.now c.first-first.ensures.once c.leaf-leaf.ensures c.loop-at.at c.in-Some.is
    (sym c.stands.ensures ∙ c.if-stands.true) (omega (arith, c.len-len.ensures.value, c.len-len.ensures.some)) in
    sym on ∙ c.loop-at.invariant.last

pub loop-at-preserved : goal.loop-at-preserved
loop-at-preserved g c =
    let us = g.C.Content.units in
    let by = g.C.Content.by in
    let xs = c.args.blocks.now.leaves in
    let past = last_past us by c.args.test xs c.in-Some.id c.leaf-leaf.result.now c.first-first.ensures.once c.leaf-leaf.ensures c.loop-at.at
    c.prev-at.result c.in-Some.is c.prev-at.ensures (sym c.stands.ensures ∙ c.if-stands.false) in
    record { last = past ∙ c.loop-at.invariant.last; live = prev_live xs c.in-Some.id c.prev-at.result c.prev-at.ensures }

pub loop-at-smaller : goal.loop-at-smaller
loop-at-smaller g c =
    let us = g.C.Content.units in
    let by = g.C.Content.by in
    let xs = c.args.blocks.now.leaves in
    last_fewer us by c.args.test xs c.in-Some.id c.leaf-leaf.result.now c.first-first.ensures.once c.leaf-leaf.ensures c.loop-at.at
    c.prev-at.result c.in-Some.is
    c.prev-at.ensures

pub returns-in-Some-sums_for-clause-last : goal.returns-in-Some-sums_for-clause-last
returns-in-Some-sums_for-clause-last g c =
    let us = g.C.Content.units in
    let by = g.C.Content.by in
    let xs = c.args.blocks.now.leaves in
    c.last_seen.ensures.last
    ∙ ap (λ test. last_from (stands test) 0 (elements us by (left_of xs c.in-Some.id))) (sym c.in-Some-sums_for.ensures.view)
    ∙ last-off us by c.args.test xs c.loop-at.at c.in-Some.id c.leaf-leaf.result.now c.first-first.ensures.once c.in-Some.is c.leaf-leaf.ensures
    (sym c.stands.ensures ∙ c.if-stands.false)
    ∙ c.loop-at.invariant.last
