use Rattle.ft_block.proofs.InsideLemmas.{in_sound, in_value_and, in_change}
use Rattle.ft_block.proofs.blocks.Blocks.change.Goals as goal

pub change_in-requires-clause-sound : goal.change_in-requires-clause-sound
change_in-requires-clause-sound g c = in_sound g.L.Leaf.size g.L.Leaf.element c.self.inside c.args.self.now c.self.view_is c.self.invariant c.requires.usable

pub change_in-requires-clause-can : goal.change_in-requires-clause-can
change_in-requires-clause-can g c = in_value_and g.L.Leaf.size g.L.Leaf.element c.self.inside c.args.self.now c.self.view_is c.self.invariant c.requires.usable c.args.id
    (λ v. g.L.Leaf.CanChange v c.args.c.now) c.requires.can

pub returns-in-Ok-clause-ok : goal.returns-in-Ok-clause-ok
returns-in-Ok-clause-ok g c = in_change g.L.Leaf.size g.L.Leaf.element c.self.inside c.args.self.now c.self.view_is c.self.invariant c.requires.usable
    (λ v. g.L.Leaf.changed v c.args.c.now) c.change_in.new.arena c.args.id c.in-Ok.ensures.changes
