use Rattle.std.proofs.Common.{◌∙◌}
use Rattle.ft_block.proofs.InsideLemmas.{in_sound, in_leaf, in_value, in_take}
use Rattle.ft_block.proofs.blocks.Blocks.take.Goals as goal

pub take_in-requires-clause-sound : goal.take_in-requires-clause-sound
take_in-requires-clause-sound g c = in_sound g.L.Leaf.size g.L.Leaf.element c.self.inside c.args.self.now c.self.view_is c.self.invariant c.requires.usable

pub take_in-requires-clause-live : goal.take_in-requires-clause-live
take_in-requires-clause-live g c = in_leaf g.L.Leaf.size g.L.Leaf.element c.self.inside c.args.self.now c.self.view_is c.self.invariant c.requires.usable c.args.id c.requires.live

pub returns-in-Ok-clause-value : goal.returns-in-Ok-clause-value
returns-in-Ok-clause-value g c = in_value g.L.Leaf.size g.L.Leaf.element c.self.inside c.args.self.now c.self.view_is c.self.invariant c.requires.usable c.args.id
    c.requires.live ∙ c.in-Ok.ensures.takes.was

pub returns-in-Ok-clause-ok : goal.returns-in-Ok-clause-ok
returns-in-Ok-clause-ok g c = in_take g.L.Leaf.size g.L.Leaf.element c.self.inside c.args.self.now c.self.view_is c.self.invariant c.requires.usable c.take_in.new.arena
    c.args.id _ c.in-Ok.ensures.takes
