use Rattle.std.proofs.Common.{◌∙◌}
use Rattle.ft_block.proofs.InsideLemmas.{in_leaf, in_value}
use Rattle.ft_block.proofs.blocks.Blocks.leaf.Goals as goal

pub leaf_in-requires-clause-live : goal.leaf_in-requires-clause-live
leaf_in-requires-clause-live g c = in_leaf g.L.Leaf.size g.L.Leaf.element c.self.inside c.args.self.now c.self.view_is c.self.invariant c.requires.usable c.args.id c.requires.live

pub returns : goal.returns
returns g c = in_value g.L.Leaf.size g.L.Leaf.element c.self.inside c.args.self.now c.self.view_is c.self.invariant c.requires.usable c.args.id c.requires.live ∙ c.leaf_in.ensures
