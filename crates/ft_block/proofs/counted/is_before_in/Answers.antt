use Rattle.std.proofs.Common.{ℕ, Option, subst}
use Rattle.ft_block.specs.Inside.{IsRooted}
use Rattle.ft_block.proofs.SoundLemmas.{leaf_rooted}
use Rattle.ft_block.proofs.counted.is_before_in.Goals as goal

pub unreachable-requires : goal.unreachable-requires
unreachable-requires g c = leaf_rooted c.args.arena.now c.args.root c.args.first c.requires.rooted c.requires.first c.in_default.is

pub is_leaf_before-requires-clause-tree : goal.is_leaf_before-requires-clause-tree
is_leaf_before-requires-clause-tree g c = subst (λ (o : Option ℕ). IsRooted c.args.arena.now o) c.in-Some.is c.requires.rooted

pub is_leaf_before-requires-clause-first : goal.is_leaf_before-requires-clause-first
is_leaf_before-requires-clause-first g c = c.requires.first

pub is_leaf_before-requires-clause-second : goal.is_leaf_before-requires-clause-second
is_leaf_before-requires-clause-second g c = c.requires.second

pub returns : goal.returns
returns g c = c.is_leaf_before.ensures
