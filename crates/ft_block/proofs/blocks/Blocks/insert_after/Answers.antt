use Rattle.std.proofs.Common.{arith}
use Rattle.ft_block.specs.Tree.{by_size}
use Rattle.ft_block.proofs.InsideLemmas.{in_sound, in_place, in_length, in_put, in_fresh}
use Rattle.ft_block.proofs.blocks.Blocks.insert_after.Goals as goal

pub insert_in-requires-clause-sound : goal.insert_in-requires-clause-sound
insert_in-requires-clause-sound g c = in_sound g.L.Leaf.size g.L.Leaf.element c.self.inside c.args.self.now c.self.view_is c.self.invariant c.requires.usable

pub insert_in-requires-clause-at : goal.insert_in-requires-clause-at
insert_in-requires-clause-at g c = in_place g.L.Leaf.size g.L.Leaf.element c.self.inside c.args.self.now c.self.view_is c.self.invariant c.requires.usable c.args.at
    c.requires.place

pub insert_in-requires-clause-fits : goal.insert_in-requires-clause-fits
insert_in-requires-clause-fits g c = omega (
  arith,
  in_length g.L.Leaf.size g.L.Leaf.element c.self.inside c.args.self.now c.self.view_is c.self.invariant
      c.requires.usable (by_size g.L.Leaf.size),
  c.requires.fits,
)

pub returns-in-Ok-clause-ok : goal.returns-in-Ok-clause-ok
returns-in-Ok-clause-ok g c = in_put g.L.Leaf.size g.L.Leaf.element c.self.inside c.args.self.now c.self.view_is c.self.invariant c.requires.usable c.insert_in.new.arena
    c.args.at _ c.args.leaf c.in-Ok.ensures.inserts

pub returns-in-Ok-clause-fresh : goal.returns-in-Ok-clause-fresh
returns-in-Ok-clause-fresh g c = in_fresh g.L.Leaf.size g.L.Leaf.element c.self.inside c.args.self.now c.self.view_is c.self.invariant c.requires.usable _
    c.in-Ok.ensures.inserts.fresh
