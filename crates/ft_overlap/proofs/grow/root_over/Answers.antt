use Rattle.ft_overlap.specs.Inside.{IsSpan, SpansLast}
use Rattle.ft_overlap.proofs.Rooted.{added_known, rooted_tells}
use Rattle.ft_overlap.proofs.Halved.{put_known}
use Rattle.ft_overlap.proofs.grow.root_over.Goals as goal

pub rename-requires-clause-known : goal.rename-requires-clause-known
rename-requires-clause-known g c =
    let K = g.P.Places.Knows c.args.at.now in
    put_known K c.put_child.new.self c.put_child-2.new.self c.put_child-2.ensures.puts.leaf_values c.put_child-2.ensures.puts.block_values
    (put_known K c.add_block-top.new.self c.put_child.new.self c.put_child.ensures.puts.leaf_values c.put_child.ensures.puts.block_values
    (added_known K c.args.arena.now c.add_block-top.new.self c.add_block-top.result _ c.add_block-top.ensures.changes c.requires.item c.requires.known))

pub returns-clause-known : goal.returns-clause-known
returns-clause-known g c = c.rename.ensures.known

pub returns-clause-one : goal.returns-clause-one
returns-clause-one g c = rooted_tells IsSpan c.args.arena.now c.add_block-top.new.self c.put_child.new.self c.put_child-2.new.self
    c.rename.new.arena c.add_block-top.result _ c.add_block-top.ensures.changes
    c.put_child.ensures.puts.leaf_values c.put_child.ensures.puts.block_values c.put_child-2.ensures.puts.leaf_values c.put_child-2.ensures.puts.block_values c.rename.ensures.one

pub returns-clause-last : goal.returns-clause-last
returns-clause-last g c = rooted_tells (SpansLast (g.P.Places.end_place c.args.at.now)) c.args.arena.now c.add_block-top.new.self
    c.put_child.new.self c.put_child-2.new.self c.rename.new.arena c.add_block-top.result _ c.add_block-top.ensures.changes
    c.put_child.ensures.puts.leaf_values c.put_child.ensures.puts.block_values c.put_child-2.ensures.puts.leaf_values c.put_child-2.ensures.puts.block_values c.rename.ensures.last
