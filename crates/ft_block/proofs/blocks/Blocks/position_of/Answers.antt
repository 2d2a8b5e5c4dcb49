use Rattle.std.proofs.Common.{sym, ◌∙◌}
use Rattle.ft_block.specs.declared.leaves.View.TheVariants.{Of}
use Rattle.ft_block.specs.Tree.{by_view}
use Rattle.ft_block.proofs.InsideLemmas.{in_sound, in_from, in_leaf, in_position}
use Rattle.ft_block.proofs.blocks.Blocks.position_of.Goals as goal

pub position_in-requires-clause-sound : goal.position_in-requires-clause-sound
position_in-requires-clause-sound g c = in_sound g.L.Leaf.size g.L.Leaf.element c.self.inside c.args.self.now c.self.view_is c.self.invariant c.requires.usable

pub position_in-requires-clause-live : goal.position_in-requires-clause-live
position_in-requires-clause-live g c = in_leaf g.L.Leaf.size g.L.Leaf.element c.self.inside c.args.self.now c.self.view_is c.self.invariant c.requires.usable c.args.leaf
    c.requires.live

pub returns : goal.returns
returns g c = c.position_in.ensures ∙ sym (in_position g.L.Leaf.size g.L.Leaf.element c.self.inside c.args.self.now c.self.view_is c.self.invariant c.requires.usable
    (by_view g.L.Leaf.size g.L.Leaf.element (Of c.args.view)) c.args.leaf)

pub position_in-requires-clause-floor : goal.position_in-requires-clause-floor
position_in-requires-clause-floor g c = in_from g.L.Leaf.size g.L.Leaf.element c.self.inside c.args.self.now c.self.view_is c.self.invariant c.requires.usable c.args.view
    c.requires.floor
