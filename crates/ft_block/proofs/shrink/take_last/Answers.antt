use Rattle.std.proofs.Common.{arith}
use Rattle.ft_shape.proofs.UnlinkLemmas.{ls_empty0, ls_top0, ls_block0, ls_leaf0, ls_alone0, last_bare, last_takes}
use Rattle.ft_block.proofs.shrink.take_last.Goals as goal

pub take_child-requires : goal.take_child-requires
take_child-requires g c = omega (arith, c.requires.tree.shape.root_filled)

pub drop_block-requires-clause-block : goal.drop_block-requires-clause-block
drop_block-requires-clause-block g c = ls_block0 c.args.arena.now c.args.root c.args.id c.requires.tree c.requires.only c.take_child.new.self c.take_child.result
    c.take_child.ensures.takes

pub drop_block-requires-clause-empty : goal.drop_block-requires-clause-empty
drop_block-requires-clause-empty g c = ls_empty0 c.args.arena.now c.args.root c.args.id c.requires.tree c.requires.only c.take_child.new.self c.take_child.result
    c.take_child.ensures.takes

pub drop_block-requires-clause-alone : goal.drop_block-requires-clause-alone
drop_block-requires-clause-alone g c = ls_top0 c.args.arena.now c.args.root c.args.id c.requires.tree c.requires.only c.take_child.new.self c.take_child.result
    c.take_child.ensures.takes c.take_child.ensures.child

pub unlink-requires-clause-live : goal.unlink-requires-clause-live
unlink-requires-clause-live g c = ls_leaf0 c.args.arena.now c.args.root c.args.id c.requires.tree c.requires.only c.take_child.new.self c.take_child.result
    c.take_child.ensures.takes c.drop_block.new.self c.drop_block.ensures.changes

pub unlink-requires-clause-alone : goal.unlink-requires-clause-alone
unlink-requires-clause-alone g c = ls_alone0 c.args.arena.now c.args.root c.args.id c.requires.tree c.requires.only c.take_child.new.self c.take_child.result
    c.take_child.ensures.takes c.take_child.ensures.child c.drop_block.new.self c.drop_block.ensures.changes

pub returns-clause-bare : goal.returns-clause-bare
returns-clause-bare g c = last_bare c.args.arena.now c.args.root c.args.id c.requires.tree c.requires.only c.take_child.new.self c.drop_block.new.self c.unlink.new.self
    c.take_child.result c.unlink.result c.take_child.ensures.child c.take_child.ensures.leaves c.take_child.ensures.takes c.drop_block.ensures.leaves
    c.drop_block.ensures.changes c.unlink.ensures.sound c.unlink.ensures.value c.unlink.ensures.leaves c.unlink.ensures.changes

pub returns-clause-takes : goal.returns-clause-takes
returns-clause-takes g c = last_takes c.args.arena.now c.args.root c.args.id c.requires.tree c.requires.only c.take_child.new.self c.drop_block.new.self c.unlink.new.self
    c.take_child.result c.unlink.result c.take_child.ensures.child c.take_child.ensures.leaves c.take_child.ensures.takes c.drop_block.ensures.leaves
    c.drop_block.ensures.changes c.unlink.ensures.sound c.unlink.ensures.value c.unlink.ensures.leaves c.unlink.ensures.changes
