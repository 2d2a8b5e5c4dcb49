use Rattle.ft_shape.proofs.SplitLemmas.{PutsInHalf-left, PutsInHalf-right}
use Rattle.ft_shape.proofs.children.put_in_half.Goals as goal

pub returns-then-place-le4 : goal.returns-then-place-le4
returns-then-place-le4 g c =
    PutsInHalf-left c.args.arena.now c.put_child.new.self c.args.block c.args.rear c.args.place c.args.id c.put_child.ensures.leaves c.put_child.ensures.spare
    c.put_child.ensures.puts c.put_child.ensures.sound c.requires.front c.requires.back c.requires.differ c.if-place-le4.true

pub returns-else-place-le4 : goal.returns-else-place-le4
returns-else-place-le4 g c =
    let r = c.put_child-else-place-le4 in
    PutsInHalf-right c.args.arena.now r.new.self c.args.block c.args.rear c.args.place c.args.id r.ensures.leaves r.ensures.spare r.ensures.puts r.ensures.sound
    c.requires.front c.requires.back c.requires.differ c.if-place-le4.false c.requires.place
