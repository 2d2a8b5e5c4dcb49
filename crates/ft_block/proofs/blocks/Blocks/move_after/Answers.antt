use Rattle.std.proofs.Common.{ap}
use Rattle.ft_block.specs.Leaves.{LeafList}
use Rattle.ft_block.proofs.InsideLemmas.{in_sound, in_leaf, in_place, in_move}
use Rattle.ft_block.proofs.blocks.Blocks.move_after.Goals as goal

pub move_in-requires-clause-sound : goal.move_in-requires-clause-sound
move_in-requires-clause-sound g c = in_sound g.L.Leaf.size g.L.Leaf.element c.self.inside c.args.self.now c.self.view_is c.self.invariant c.requires.usable

pub move_in-requires-clause-live : goal.move_in-requires-clause-live
move_in-requires-clause-live g c = in_leaf g.L.Leaf.size g.L.Leaf.element c.self.inside c.args.self.now c.self.view_is c.self.invariant c.requires.usable c.args.id c.requires.live

pub move_in-requires-clause-at : goal.move_in-requires-clause-at
move_in-requires-clause-at g c = in_place g.L.Leaf.size g.L.Leaf.element c.self.inside c.args.self.now c.self.view_is c.self.invariant c.requires.usable c.args.at c.requires.place

pub returns-in-Ok-clause-ok : goal.returns-in-Ok-clause-ok
returns-in-Ok-clause-ok g c = in_move g.L.Leaf.size g.L.Leaf.element c.self.inside c.args.self.now c.self.view_is c.self.invariant c.requires.usable c.move_in.new.arena
    c.args.id c.args.at c.requires.live c.in-Ok.ensures.moves

pub invariant_of-self : goal.invariant_of-self
invariant_of-self g c = λ _. c.in-Ok.ensures.sound

pub returns-in-Ok-clause-floor : goal.returns-in-Ok-clause-floor
returns-in-Ok-clause-floor g c = ap (λ (w : LeafList g.row.L.Denot). w.floor) c.self.view_is
