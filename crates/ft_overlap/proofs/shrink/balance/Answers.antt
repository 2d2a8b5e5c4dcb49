use Rattle.std.proofs.Common.{length, ap, ◌∙◌, arith}
use Rattle.ft_arena.specs.Ids.{times}
use Rattle.ft_arena.specs.Forest.{entry}
use Rattle.ft_shape.proofs.KindLemmas.{kind_block}
use Rattle.ft_shape.proofs.PairLemmas.{pr_front_front, pr_front_rear, pr_rear_front, pr_rear_rear, rg_front_front, rg_front_rear, rg_rear_rear, rg_block, rg_rear_many, balanced, balanced_up}
use Rattle.ft_shape.proofs.ToldLemmas.{told_from_values, both_tell, pair_keeps}
use Rattle.ft_overlap.specs.Inside.{IsSpan, SpansLast}
use Rattle.ft_overlap.proofs.Halved.{put_known}
use Rattle.ft_overlap.proofs.shrink.balance.Goals as goal

pub regroup-requires-clause-front_apart : goal.regroup-requires-clause-front_apart
regroup-requires-clause-front_apart g c = pr_rear_front c.args.arena.now c.args.up c.args.front c.args.rear c.requires.forest c.requires.pair

pub regroup-requires-clause-rear_apart : goal.regroup-requires-clause-rear_apart
regroup-requires-clause-rear_apart g c = pr_front_rear c.args.arena.now c.args.up c.args.front c.args.rear c.requires.forest c.requires.pair

pub regroup-requires-clause-front_own : goal.regroup-requires-clause-front_own
regroup-requires-clause-front_own g c = pr_front_front c.args.arena.now c.args.up c.args.front c.args.rear c.requires.forest c.requires.pair

pub regroup-requires-clause-rear_own : goal.regroup-requires-clause-rear_own
regroup-requires-clause-rear_own g c = pr_rear_rear c.args.arena.now c.args.up c.args.front c.args.rear c.requires.forest c.requires.pair

pub rename-requires-clause-block : goal.rename-requires-clause-block
rename-requires-clause-block g c = rg_block c.args.arena.now c.args.up c.args.front c.args.rear c.requires.forest c.requires.pair
    c.regroup.new.arena _ c.regroup.ensures c.args.front c.requires.pair.front_block

pub rename-requires-clause-forest : goal.rename-requires-clause-forest
rename-requires-clause-forest g c = c.regroup.ensures.forest

pub rename-requires-clause-apart : goal.rename-requires-clause-apart
rename-requires-clause-apart g c = rg_front_front c.args.arena.now c.args.up c.args.front c.args.rear c.requires.forest c.requires.pair c.regroup.new.arena _ c.regroup.ensures

pub rename-requires-clause-filled : goal.rename-requires-clause-filled
rename-requires-clause-filled g c = omega (arith, c.regroup.ensures.count, c.count_of.ensures.value, c.count_of-2.ensures.value, c.requires.many)

pub rename-requires-clause-known : goal.rename-requires-clause-known
rename-requires-clause-known g c = put_known (g.P.Places.Knows c.args.at.now) c.args.arena.now c.regroup.new.arena
    c.regroup.ensures.leaf_values c.regroup.ensures.block_values c.requires.known

pub rename-requires-2-clause-block : goal.rename-requires-2-clause-block
rename-requires-2-clause-block g c = kind_block (entry c.regroup.new.arena c.args.rear) (entry c.rename.new.arena c.args.rear)
    (c.rename.ensures.shape.kinds c.args.rear) (rg_block c.args.arena.now c.args.up c.args.front c.args.rear c.requires.forest c.requires.pair c.regroup.new.arena
    _ c.regroup.ensures c.args.rear c.requires.pair.rear_block)

pub rename-requires-2-clause-forest : goal.rename-requires-2-clause-forest
rename-requires-2-clause-forest g c = c.rename.ensures.shape.forest

pub rename-requires-2-clause-apart : goal.rename-requires-2-clause-apart
rename-requires-2-clause-apart g c = ap (λ ks. times ks c.args.rear) (c.rename.ensures.shape.kids c.args.rear)
    ∙ rg_rear_rear c.args.arena.now c.args.up c.args.front c.args.rear c.requires.forest c.requires.pair c.regroup.new.arena _ c.regroup.ensures

pub rename-requires-2-clause-filled : goal.rename-requires-2-clause-filled
rename-requires-2-clause-filled g c = omega (
  arith,
  ap length (c.rename.ensures.shape.kids c.args.rear),
  rg_rear_many c.args.arena.now c.args.up c.args.front c.args.rear c.requires.forest c.requires.pair c.regroup.new.arena _ c.regroup.ensures
      (omega (arith, c.count_of.ensures.value, c.count_of-2.ensures.value, c.requires.many)),
)

pub rename-requires-2-clause-known : goal.rename-requires-2-clause-known
rename-requires-2-clause-known g c = c.rename.ensures.known

pub returns-clause-shares : goal.returns-clause-shares
returns-clause-shares g c = balanced c.args.arena.now c.args.up c.args.front c.args.rear c.requires.forest c.requires.pair
    c.regroup.new.arena c.rename.new.arena c.rename-2.new.arena _ c.regroup.ensures c.rename.ensures.shape c.rename-2.ensures.shape
    (omega (arith, c.count_of.ensures.value, c.count_of-2.ensures.value, c.requires.many))
    (omega (arith, c.count_of.ensures.value, c.count_of-2.ensures.value, c.requires.many))

pub returns-clause-up_kids : goal.returns-clause-up_kids
returns-clause-up_kids g c = balanced_up c.args.arena.now c.args.up c.args.front c.args.rear c.requires.forest c.requires.pair
    c.regroup.new.arena c.rename.new.arena c.rename-2.new.arena _ c.regroup.ensures c.rename.ensures.shape c.rename-2.ensures.shape

pub returns-clause-known : goal.returns-clause-known
returns-clause-known g c = c.rename-2.ensures.known

pub returns-clause-one : goal.returns-clause-one
returns-clause-one g c =
    let shares = balanced c.args.arena.now c.args.up c.args.front c.args.rear c.requires.forest c.requires.pair
    c.regroup.new.arena c.rename.new.arena c.rename-2.new.arena _ c.regroup.ensures c.rename.ensures.shape c.rename-2.ensures.shape
    (omega (arith, c.count_of.ensures.value, c.count_of-2.ensures.value, c.requires.many))
    (omega (arith, c.count_of.ensures.value, c.count_of-2.ensures.value, c.requires.many)) in
    let both = both_tell IsSpan c.args.arena.now c.regroup.new.arena c.rename.new.arena c.rename-2.new.arena c.args.front c.args.rear c.rename.ensures.one
    c.rename-2.ensures.shape c.rename-2.ensures.one c.requires.pair.differ
    (ap (λ ks. times ks c.args.rear) (c.rename.ensures.shape.kids c.args.front)
    ∙ rg_front_rear c.args.arena.now c.args.up c.args.front c.args.rear c.requires.forest c.requires.pair c.regroup.new.arena _
    c.regroup.ensures)
    (λ x d. told_from_values c.args.arena.now c.regroup.new.arena x (c.regroup.ensures.leaf_values x) (c.regroup.ensures.block_values x)) in
    pair_keeps IsSpan c.args.arena.now c.rename-2.new.arena c.args.up c.args.front c.args.rear c.requires.forest c.requires.pair shares both c.requires.one

pub returns-clause-last : goal.returns-clause-last
returns-clause-last g c =
    let shares = balanced c.args.arena.now c.args.up c.args.front c.args.rear c.requires.forest c.requires.pair
    c.regroup.new.arena c.rename.new.arena c.rename-2.new.arena _ c.regroup.ensures c.rename.ensures.shape c.rename-2.ensures.shape
    (omega (arith, c.count_of.ensures.value, c.count_of-2.ensures.value, c.requires.many))
    (omega (arith, c.count_of.ensures.value, c.count_of-2.ensures.value, c.requires.many)) in
    let both = both_tell (SpansLast (g.P.Places.end_place c.args.at.now)) c.args.arena.now c.regroup.new.arena c.rename.new.arena
    c.rename-2.new.arena c.args.front c.args.rear c.rename.ensures.last
    c.rename-2.ensures.shape c.rename-2.ensures.last c.requires.pair.differ
    (ap (λ ks. times ks c.args.rear) (c.rename.ensures.shape.kids c.args.front)
    ∙ rg_front_rear c.args.arena.now c.args.up c.args.front c.args.rear c.requires.forest c.requires.pair c.regroup.new.arena _
    c.regroup.ensures)
    (λ x d. told_from_values c.args.arena.now c.regroup.new.arena x (c.regroup.ensures.leaf_values x) (c.regroup.ensures.block_values x)) in
    pair_keeps (SpansLast (g.P.Places.end_place c.args.at.now)) c.args.arena.now c.rename-2.new.arena c.args.up c.args.front c.args.rear
    c.requires.forest c.requires.pair shares both c.requires.last
