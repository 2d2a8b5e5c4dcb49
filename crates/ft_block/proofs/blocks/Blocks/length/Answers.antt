use Rattle.std.proofs.Common.{sym, ◌∙◌}
use Rattle.ft_block.specs.declared.leaves.View.TheVariants.{Of}
use Rattle.ft_block.specs.Tree.{by_view}
use Rattle.ft_block.proofs.InsideLemmas.{in_sound, in_from, in_length}
use Rattle.ft_block.proofs.blocks.Blocks.length.Goals as goal

pub length_in-requires-clause-sound : goal.length_in-requires-clause-sound
length_in-requires-clause-sound g c = in_sound g.L.Leaf.size g.L.Leaf.element c.self.inside c.args.self.now c.self.view_is c.self.invariant c.requires.usable

pub returns : goal.returns
returns g c = c.length_in.ensures ∙ sym (in_length g.L.Leaf.size g.L.Leaf.element c.self.inside c.args.self.now c.self.view_is c.self.invariant c.requires.usable
    (by_view g.L.Leaf.size g.L.Leaf.element (Of c.args.view)))

pub length_in-requires-clause-floor : goal.length_in-requires-clause-floor
length_in-requires-clause-floor g c = in_from g.L.Leaf.size g.L.Leaf.element c.self.inside c.args.self.now c.self.view_is c.self.invariant c.requires.usable c.args.view
    c.requires.floor
