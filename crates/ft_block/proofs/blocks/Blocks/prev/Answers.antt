use Rattle.std.proofs.Common.{◌≡◌, ℕ, List, Some, sym, subst, MatchOption}
use Rattle.ft_arena.specs.Ids.{first, after}
use Rattle.ft_block.proofs.InsideLemmas.{in_ids, in_leaf}
use Rattle.ft_block.proofs.blocks.Blocks.prev.Goals as goal

pub prev-requires : goal.prev-requires
prev-requires g c = in_leaf g.L.Leaf.size g.L.Leaf.element c.self.inside c.args.self.now c.self.view_is c.self.invariant c.requires.usable c.args.id c.requires.live

pub returns : goal.returns
returns g c = subst (λ (xs : List ℕ). MatchOption c.prev.result (first xs ≡ Some c.args.id) (λ p. after xs p ≡ Some c.args.id))
    (sym (in_ids g.L.Leaf.size g.L.Leaf.element c.self.inside c.args.self.now c.self.view_is c.self.invariant c.requires.usable)) c.prev.ensures
