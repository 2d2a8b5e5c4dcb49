use Rattle.std.proofs.Common.{ap}
use Rattle.ft_block.specs.Leaves.{LeafList}
use Rattle.ft_block.proofs.InsideLemmas.{in_sound, in_leaf, in_change}
use Rattle.ft_block.proofs.blocks.Blocks.set_stamps.Goals as goal

pub set_stamps_in-requires-clause-sound : goal.set_stamps_in-requires-clause-sound
set_stamps_in-requires-clause-sound g c = in_sound g.L.Leaf.size g.L.Leaf.element c.self.inside c.args.self.now c.self.view_is c.self.invariant c.requires.usable

pub set_stamps_in-requires-clause-live : goal.set_stamps_in-requires-clause-live
set_stamps_in-requires-clause-live g c = in_leaf g.L.Leaf.size g.L.Leaf.element c.self.inside c.args.self.now c.self.view_is c.self.invariant c.requires.usable c.args.id
    c.requires.live

pub returns-in-Ok-clause-ok : goal.returns-in-Ok-clause-ok
returns-in-Ok-clause-ok g c = in_change g.L.Leaf.size g.L.Leaf.element c.self.inside c.args.self.now c.self.view_is c.self.invariant c.requires.usable
    (λ v. g.L.Leaf.with_element v c.args.e) c.set_stamps_in.new.arena c.args.id c.in-Ok.ensures.changes

pub invariant_of-self : goal.invariant_of-self
invariant_of-self g c = λ _. c.in-Ok.ensures.sound

pub returns-in-Ok-clause-floor : goal.returns-in-Ok-clause-floor
returns-in-Ok-clause-floor g c = ap (λ (w : LeafList g.row.L.Denot). w.floor) c.self.view_is
