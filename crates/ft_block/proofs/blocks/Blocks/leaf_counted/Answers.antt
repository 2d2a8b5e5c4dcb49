use Rattle.std.proofs.Common.{◌∙◌}
use Rattle.ft_block.proofs.InsideLemmas.{in_leaf, in_value}
use Rattle.ft_block.proofs.blocks.Blocks.leaf_counted.Goals as goal

pub leaf_at-requires : goal.leaf_at-requires
leaf_at-requires g c = in_leaf g.L.Leaf.size g.L.Leaf.element c.self.inside c.args.self.now c.self.view_is c.self.invariant c.requires.usable c.args.id c.requires.live

pub returns-clause-value : goal.returns-clause-value
returns-clause-value g c =
    in_value g.L.Leaf.size g.L.Leaf.element c.self.inside c.args.self.now c.self.view_is c.self.invariant c.requires.usable c.args.id c.requires.live
    ∙ c.leaf_at.ensures.value
