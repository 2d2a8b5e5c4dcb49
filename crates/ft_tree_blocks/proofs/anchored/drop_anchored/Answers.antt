use Rattle.ft_tree_blocks.specs.Anchors.{is_acked_at}
use Rattle.ft_tree_blocks.proofs.RefSteps.{ends, live_entry}
use Rattle.ft_tree_blocks.proofs.anchored.drop_anchored.Goals as goal

pub release-requires : goal.release-requires
release-requires g c = live_entry g.C.Content.units g.C.Content.by c.args.blocks.now.leaves c.args.refs.now.anchors c.args.r c.requires.live

pub returns-clause-refs : goal.returns-clause-refs
returns-clause-refs g c =
    let us = g.C.Content.units in
    let by = g.C.Content.by in
    let xs = c.args.blocks.now.leaves in
    let a = c.args.refs.now.anchors in
    ends us by xs a c.args.r c.requires.sound.anchored c.release.new.self (is_acked_at a c.args.r) c.release.ensures
