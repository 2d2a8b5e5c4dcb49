use Rattle.std.proofs.Common.{ap, arith}
use Rattle.ft_block.specs.Leaves.{LeafList}
use Rattle.ft_block.proofs.SoundLemmas.{raised_sound}
use Rattle.ft_block.proofs.blocks.Blocks.raise_floor.Goals as goal

pub invariant_of-self : goal.invariant_of-self
invariant_of-self g c = λ u.
    let e = ap (λ (w : LeafList g.row.L.Denot). w.floor) c.self.view_is in
    raised_sound g.L.Leaf.size g.L.Leaf.element c.self.inside.floor c.args.floor c.self.inside.arena c.self.inside.root (omega (arith, e, c.requires)) (c.self.invariant u)
