use Rattle.std.proofs.Common.{refl, ap, ◌∙◌}
use Rattle.ft_arena.specs.Forest.{block_of_entry}
use Rattle.ft_shape.proofs.RefreshLemmas.{SameShape-refl}
use Rattle.ft_shape.proofs.FirstLemmas.{only_tree, only_inserts, o_block, o_kids_top}
use Rattle.ft_overlap.proofs.Only.{first_one, first_last}
use Rattle.ft_overlap.proofs.grow.insert_first.Goals as goal

pub returns-clause-tree : goal.returns-clause-tree
returns-clause-tree c = only_tree c.args.arena.now c.link_after-id.new.self c.add_block-top.new.self c.put_child.new.self c.put_child.new.self c.link_after-id.result c.add_block-top.result c.args.item _ refl c.requires.bare.nodes c.requires.bare.leaves c.link_after-id.ensures.leaves c.link_after-id.ensures.changes c.add_block-top.ensures.leaves c.add_block-top.ensures.fresh c.add_block-top.ensures.changes c.put_child.ensures.leaves c.put_child.ensures.puts (SameShape-refl c.put_child.new.self c.put_child.ensures.sound)

pub returns-clause-inserts : goal.returns-clause-inserts
returns-clause-inserts c = only_inserts c.args.arena.now c.link_after-id.new.self c.add_block-top.new.self c.put_child.new.self c.put_child.new.self
    c.link_after-id.result c.add_block-top.result c.args.item _ refl c.requires.bare.nodes c.requires.bare.leaves c.link_after-id.ensures.leaves
    c.link_after-id.ensures.changes c.add_block-top.ensures.leaves c.add_block-top.ensures.fresh c.add_block-top.ensures.changes
    c.put_child.ensures.leaves c.put_child.ensures.puts (SameShape-refl c.put_child.new.self c.put_child.ensures.sound)

pub returns-clause-one : goal.returns-clause-one
returns-clause-one c = first_one c.put_child.new.self c.link_after-id.result c.add_block-top.result c.args.item _ refl (only_inserts c.args.arena.now c.link_after-id.new.self c.add_block-top.new.self c.put_child.new.self c.put_child.new.self c.link_after-id.result c.add_block-top.result c.args.item _ refl c.requires.bare.nodes c.requires.bare.leaves c.link_after-id.ensures.leaves c.link_after-id.ensures.changes c.add_block-top.ensures.leaves c.add_block-top.ensures.fresh c.add_block-top.ensures.changes c.put_child.ensures.leaves c.put_child.ensures.puts (SameShape-refl c.put_child.new.self c.put_child.ensures.sound)).value (o_kids_top c.args.arena.now c.link_after-id.new.self c.add_block-top.new.self c.put_child.new.self c.put_child.new.self c.link_after-id.result c.add_block-top.result c.args.item _ refl c.requires.bare.nodes c.requires.bare.leaves c.link_after-id.ensures.leaves c.link_after-id.ensures.changes c.add_block-top.ensures.leaves c.add_block-top.ensures.fresh c.add_block-top.ensures.changes c.put_child.ensures.leaves c.put_child.ensures.puts (SameShape-refl c.put_child.new.self c.put_child.ensures.sound)) (c.put_child.ensures.puts.block_values c.add_block-top.result ∙ ap block_of_entry c.add_block-top.ensures.changes.changed) (o_block c.args.arena.now c.link_after-id.new.self c.add_block-top.new.self c.put_child.new.self c.put_child.new.self c.link_after-id.result c.add_block-top.result c.args.item _ refl c.requires.bare.nodes c.requires.bare.leaves c.link_after-id.ensures.leaves c.link_after-id.ensures.changes c.add_block-top.ensures.leaves c.add_block-top.ensures.fresh c.add_block-top.ensures.changes c.put_child.ensures.leaves c.put_child.ensures.puts (SameShape-refl c.put_child.new.self c.put_child.ensures.sound))

pub returns-clause-last : goal.returns-clause-last
returns-clause-last c = first_last c.put_child.new.self c.link_after-id.result c.add_block-top.result c.args.item _ refl (only_inserts c.args.arena.now c.link_after-id.new.self c.add_block-top.new.self c.put_child.new.self c.put_child.new.self c.link_after-id.result c.add_block-top.result c.args.item _ refl c.requires.bare.nodes c.requires.bare.leaves c.link_after-id.ensures.leaves c.link_after-id.ensures.changes c.add_block-top.ensures.leaves c.add_block-top.ensures.fresh c.add_block-top.ensures.changes c.put_child.ensures.leaves c.put_child.ensures.puts (SameShape-refl c.put_child.new.self c.put_child.ensures.sound)).value (o_kids_top c.args.arena.now c.link_after-id.new.self c.add_block-top.new.self c.put_child.new.self c.put_child.new.self c.link_after-id.result c.add_block-top.result c.args.item _ refl c.requires.bare.nodes c.requires.bare.leaves c.link_after-id.ensures.leaves c.link_after-id.ensures.changes c.add_block-top.ensures.leaves c.add_block-top.ensures.fresh c.add_block-top.ensures.changes c.put_child.ensures.leaves c.put_child.ensures.puts (SameShape-refl c.put_child.new.self c.put_child.ensures.sound)) (c.put_child.ensures.puts.block_values c.add_block-top.result ∙ ap block_of_entry c.add_block-top.ensures.changes.changed) (o_block c.args.arena.now c.link_after-id.new.self c.add_block-top.new.self c.put_child.new.self c.put_child.new.self c.link_after-id.result c.add_block-top.result c.args.item _ refl c.requires.bare.nodes c.requires.bare.leaves c.link_after-id.ensures.leaves c.link_after-id.ensures.changes c.add_block-top.ensures.leaves c.add_block-top.ensures.fresh c.add_block-top.ensures.changes c.put_child.ensures.leaves c.put_child.ensures.puts (SameShape-refl c.put_child.new.self c.put_child.ensures.sound))
