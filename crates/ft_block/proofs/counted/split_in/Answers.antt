use Rattle.std.proofs.Common.{◌<◌, Option, Some, None, IsSomeAnd, subst, arith, ℕ}
use Rattle.ft_shape.specs.Tree.{IsTree}
use Rattle.ft_block.specs.Tree.{SumsKeptBut, AreFromFloor}
use Rattle.ft_shape.specs.Steps.{SplitsLeaf}
use Rattle.ft_block.specs.Inside.{IsRooted, IsSound}
use Rattle.ft_block.proofs.SoundLemmas.{splits_sound, if_ok_four, is_some_by, leaf_rooted}
use Rattle.ft_arena.specs.Forest.{leaf_value}
use Rattle.ft_block.proofs.counted.split_in.Goals as goal

pub returns-clause-sound : goal.returns-clause-sound
returns-clause-sound g c =
    if_ok_four c.split_at.result (λ r. IsTree c.split_at.new.arena r.0)
    (λ r. SplitsLeaf (λ v. g.L.Leaf.front v c.args.at) (λ v. g.L.Leaf.rear v c.args.at) c.args.arena.now c.split_at.new.arena c.args.leaf r.1)
    (λ r. IsSound g.L.Leaf.size g.L.Leaf.element c.args.floor c.split_at.new.arena (Some r.0))
    (SumsKeptBut g.L.Leaf.size g.L.Leaf.element c.args.floor c.split_at.new.arena None) (AreFromFloor c.args.floor c.split_at.new.arena)
    (λ r t sums floors i. splits_sound g.L.Leaf.size g.L.Leaf.element c.args.floor (λ v. g.L.Leaf.front v c.args.at) (λ v. g.L.Leaf.rear v c.args.at) c.args.arena.now
    c.split_at.new.arena c.args.root r.0 c.args.leaf r.1 c.requires.sound (λ v q. (let high : c.args.at < g.L.Leaf.size v =
    subst (λ (o : Option g.row.L.Denot). IsSomeAnd o (λ w. c.args.at < g.L.Leaf.size w)) q c.requires.high in (
      omega (arith, g.met.L.Leaf.front_size v c.args.at c.requires.low high, g.met.L.Leaf.rear_size v c.args.at c.requires.low high),
      omega
          (arith, g.met.L.Leaf.front_size v c.args.at c.requires.low high, c.requires.low),
      omega (arith, g.met.L.Leaf.rear_size v c.args.at c.requires.low high, high),
    ))) t
    sums floors i) c.split_at.ensures.tree c.split_at.ensures.sums c.split_at.ensures.floors c.split_at.ensures.splits

pub split_at-requires-clause-tree : goal.split_at-requires-clause-tree
split_at-requires-clause-tree g c = subst (λ (o : Option ℕ). IsRooted c.args.arena.now o) c.in-Some.is c.requires.sound.rooted

pub split_at-requires-clause-sums : goal.split_at-requires-clause-sums
split_at-requires-clause-sums g c = c.requires.sound.sums

pub split_at-requires-clause-floors : goal.split_at-requires-clause-floors
split_at-requires-clause-floors g c = c.requires.sound.floors

pub split_at-requires-clause-low : goal.split_at-requires-clause-low
split_at-requires-clause-low g c = c.requires.low

pub split_at-requires-clause-fits : goal.split_at-requires-clause-fits
split_at-requires-clause-fits g c = c.requires.sound.fits

pub returns-clause-splits : goal.returns-clause-splits
returns-clause-splits g c = c.split_at.ensures.splits

pub split_at-requires-clause-leaf : goal.split_at-requires-clause-leaf
split_at-requires-clause-leaf g c = c.requires.high

pub unreachable-requires : goal.unreachable-requires
unreachable-requires g c = leaf_rooted c.args.arena.now c.args.root c.args.leaf c.requires.sound.rooted
    (is_some_by (leaf_value c.args.arena.now c.args.leaf) (λ v. c.args.at < g.L.Leaf.size v) c.requires.high) c.in-None.is
