use Rattle.std.proofs.Common.{ℕ, List, ap, sym, ◌∙◌}
use Rattle.ft_arena.specs.Ids.{after}
use Rattle.ft_block.proofs.InsideLemmas.{in_ids, in_leaf}
use Rattle.ft_block.proofs.blocks.Blocks.next.Goals as goal

pub next-requires : goal.next-requires
next-requires g c = in_leaf g.L.Leaf.size g.L.Leaf.element c.self.inside c.args.self.now c.self.view_is c.self.invariant c.requires.usable c.args.id c.requires.live

pub returns : goal.returns
returns g c = c.next.ensures ∙ ap (λ (xs : List ℕ). after xs c.args.id)
    (sym (in_ids g.L.Leaf.size g.L.Leaf.element c.self.inside c.args.self.now c.self.view_is c.self.invariant c.requires.usable))
