use Rattle.std.proofs.Common.{sym, ◌∙◌}
use Rattle.ft_block.proofs.InsideLemmas.{in_sound, in_leaf, in_before}
use Rattle.ft_block.proofs.blocks.Blocks.is_before.Goals as goal

pub is_before_in-requires-clause-first : goal.is_before_in-requires-clause-first
is_before_in-requires-clause-first g c = in_leaf g.L.Leaf.size g.L.Leaf.element c.self.inside c.args.self.now c.self.view_is c.self.invariant c.requires.usable c.args.first
    c.requires.first

pub is_before_in-requires-clause-second : goal.is_before_in-requires-clause-second
is_before_in-requires-clause-second g c = in_leaf g.L.Leaf.size g.L.Leaf.element c.self.inside c.args.self.now c.self.view_is c.self.invariant c.requires.usable c.args.second
    c.requires.second

pub is_before_in-requires-clause-rooted : goal.is_before_in-requires-clause-rooted
is_before_in-requires-clause-rooted g c =
    (in_sound g.L.Leaf.size g.L.Leaf.element c.self.inside c.args.self.now c.self.view_is c.self.invariant c.requires.usable).rooted

pub returns : goal.returns
returns g c = c.is_before_in.ensures ∙ sym (in_before g.L.Leaf.size g.L.Leaf.element c.self.inside c.args.self.now c.self.view_is c.self.invariant c.requires.usable
    c.args.first c.args.second)
