use Rattle.ft_block.proofs.InsideLemmas.{in_sound, in_value_and, in_split, in_fresh}
use Rattle.std.proofs.Common.{◌<◌}
use Rattle.ft_block.proofs.blocks.Blocks.split.Goals as goal

pub split_in-requires-clause-sound : goal.split_in-requires-clause-sound
split_in-requires-clause-sound g c = in_sound g.L.Leaf.size g.L.Leaf.element c.self.inside c.args.self.now c.self.view_is c.self.invariant c.requires.usable

pub split_in-requires-clause-high : goal.split_in-requires-clause-high
split_in-requires-clause-high g c = in_value_and g.L.Leaf.size g.L.Leaf.element c.self.inside c.args.self.now c.self.view_is c.self.invariant c.requires.usable
    c.args.leaf (λ v. c.args.at < g.L.Leaf.size v) c.requires.high

pub returns-in-Ok-clause-ok : goal.returns-in-Ok-clause-ok
returns-in-Ok-clause-ok g c = in_split g.L.Leaf.size g.L.Leaf.element c.self.inside c.args.self.now c.self.view_is c.self.invariant c.requires.usable
    (λ v. g.L.Leaf.front v c.args.at) (λ v. g.L.Leaf.rear v c.args.at) c.split_in.new.arena c.args.leaf _ c.in-Ok.ensures.splits

pub returns-in-Ok-clause-fresh : goal.returns-in-Ok-clause-fresh
returns-in-Ok-clause-fresh g c = in_fresh g.L.Leaf.size g.L.Leaf.element c.self.inside c.args.self.now c.self.view_is c.self.invariant c.requires.usable _
    c.in-Ok.ensures.splits.fresh
