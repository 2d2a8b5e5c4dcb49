use Rattle.std.proofs.Common.{ap, sym, ◌∙◌}
use Rattle.ft_arena.specs.Ids.{first}
use Rattle.ft_block.proofs.InsideLemmas.{in_depth, in_ids, in_once, in_few, in_some}
use Rattle.ft_block.proofs.blocks.Blocks.first.Goals as goal

pub returns-clause-value : goal.returns-clause-value
returns-clause-value g c = c.first.ensures.value ∙ ap first (sym (in_ids g.L.Leaf.size g.L.Leaf.element c.self.inside c.args.self.now c.self.view_is c.self.invariant c.requires))

pub returns-clause-once : goal.returns-clause-once
returns-clause-once g c = in_once g.L.Leaf.size g.L.Leaf.element c.self.inside c.args.self.now c.self.view_is c.self.invariant c.requires

pub returns-clause-few : goal.returns-clause-few
returns-clause-few g c = in_few g.L.Leaf.size g.L.Leaf.element c.self.inside c.args.self.now c.self.view_is c.self.invariant c.requires

pub returns-clause-some : goal.returns-clause-some
returns-clause-some g c = in_some g.L.Leaf.size g.L.Leaf.element c.self.inside c.args.self.now c.self.view_is c.self.invariant c.requires

pub returns-clause-depth : goal.returns-clause-depth
returns-clause-depth g c = in_depth g.L.Leaf.size g.L.Leaf.element c.self.inside c.args.self.now c.self.view_is c.self.invariant c.requires
