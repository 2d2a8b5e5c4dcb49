use Rattle.std.proofs.Common.{◌+◌, length, ap, arith}
use Rattle.std.proofs.lemmas.Option.{slice_get_within}
use Rattle.ft_arena.specs.Forest.{kids_of}
use Rattle.ft_shape.proofs.PairLemmas.{pr_front_front, pr_front_rear, pr_rear_front, pr_rear_rear, rg_up, mg_takes, mg_drop_block, mg_drop_empty, md_block, md_apart, md_many, merged}
use Rattle.ft_shape.proofs.ToldLemmas.{one_tells, pair_keeps, joined_told}
use Rattle.ft_overlap.specs.Inside.{IsSpan, SpansLast}
use Rattle.ft_overlap.proofs.Taken.{gone_known}
use Rattle.ft_overlap.proofs.shrink.merge.Goals as goal

pub regroup-requires-clause-front_apart : goal.regroup-requires-clause-front_apart
regroup-requires-clause-front_apart g c = pr_rear_front c.args.arena.now c.args.up c.args.front c.args.rear c.requires.forest c.requires.pair

pub regroup-requires-clause-rear_apart : goal.regroup-requires-clause-rear_apart
regroup-requires-clause-rear_apart g c = pr_front_rear c.args.arena.now c.args.up c.args.front c.args.rear c.requires.forest c.requires.pair

pub regroup-requires-clause-front_own : goal.regroup-requires-clause-front_own
regroup-requires-clause-front_own g c = pr_front_front c.args.arena.now c.args.up c.args.front c.args.rear c.requires.forest c.requires.pair

pub regroup-requires-clause-rear_own : goal.regroup-requires-clause-rear_own
regroup-requires-clause-rear_own g c = pr_rear_rear c.args.arena.now c.args.up c.args.front c.args.rear c.requires.forest c.requires.pair

pub take_child-requires : goal.take_child-requires
take_child-requires g c = omega (
  arith,
  ap length (rg_up c.args.arena.now c.args.up c.args.front c.args.rear c.requires.forest c.requires.pair c.regroup.new.arena _
      c.regroup.ensures),
  slice_get_within (kids_of c.args.arena.now c.args.up) (c.args.place + 1) c.args.rear c.requires.next,
)

pub drop_block-requires-clause-block : goal.drop_block-requires-clause-block
drop_block-requires-clause-block g c =
    let takes = mg_takes c.args.arena.now c.args.up c.args.front c.args.rear c.requires.forest c.requires.pair c.regroup.new.arena
    (c.count_of.result + c.count_of-2.result) c.regroup.ensures c.args.place c.requires.next c.take_child.new.self c.take_child.result c.take_child.ensures.child
    c.take_child.ensures.takes in
    mg_drop_block c.args.arena.now c.args.up c.args.front c.args.rear c.requires.forest c.requires.pair c.regroup.new.arena (c.count_of.result + c.count_of-2.result)
    c.regroup.ensures c.take_child.new.self c.args.place takes

pub drop_block-requires-clause-empty : goal.drop_block-requires-clause-empty
drop_block-requires-clause-empty g c =
    let takes = mg_takes c.args.arena.now c.args.up c.args.front c.args.rear c.requires.forest c.requires.pair c.regroup.new.arena
    (c.count_of.result + c.count_of-2.result) c.regroup.ensures c.args.place c.requires.next c.take_child.new.self c.take_child.result c.take_child.ensures.child
    c.take_child.ensures.takes in
    mg_drop_empty c.args.arena.now c.args.up c.args.front c.args.rear c.requires.forest c.requires.pair c.regroup.new.arena (c.count_of.result + c.count_of-2.result)
    c.regroup.ensures c.take_child.new.self c.args.place takes (omega (arith, c.count_of.ensures.value, c.count_of-2.ensures.value))

pub drop_block-requires-clause-alone : goal.drop_block-requires-clause-alone
drop_block-requires-clause-alone g c =
    let takes = mg_takes c.args.arena.now c.args.up c.args.front c.args.rear c.requires.forest c.requires.pair c.regroup.new.arena
    (c.count_of.result + c.count_of-2.result) c.regroup.ensures c.args.place c.requires.next c.take_child.new.self c.take_child.result c.take_child.ensures.child
    c.take_child.ensures.takes in
    takes.parent

pub rename-requires-clause-block : goal.rename-requires-clause-block
rename-requires-clause-block g c =
    let takes = mg_takes c.args.arena.now c.args.up c.args.front c.args.rear c.requires.forest c.requires.pair c.regroup.new.arena
    (c.count_of.result + c.count_of-2.result) c.regroup.ensures c.args.place c.requires.next c.take_child.new.self c.take_child.result c.take_child.ensures.child
    c.take_child.ensures.takes in
    md_block c.args.arena.now c.args.up c.args.front c.args.rear c.requires.forest c.requires.pair c.regroup.new.arena c.take_child.new.self c.drop_block.new.self
    (c.count_of.result + c.count_of-2.result) c.args.place (omega (arith, c.count_of.ensures.value, c.count_of-2.ensures.value)) c.regroup.ensures takes
    c.drop_block.ensures.changes

pub rename-requires-clause-apart : goal.rename-requires-clause-apart
rename-requires-clause-apart g c =
    let takes = mg_takes c.args.arena.now c.args.up c.args.front c.args.rear c.requires.forest c.requires.pair c.regroup.new.arena
    (c.count_of.result + c.count_of-2.result) c.regroup.ensures c.args.place c.requires.next c.take_child.new.self c.take_child.result c.take_child.ensures.child
    c.take_child.ensures.takes in
    md_apart c.args.arena.now c.args.up c.args.front c.args.rear c.requires.forest c.requires.pair c.regroup.new.arena c.take_child.new.self c.drop_block.new.self
    (c.count_of.result + c.count_of-2.result) c.args.place (omega (arith, c.count_of.ensures.value, c.count_of-2.ensures.value)) c.regroup.ensures takes
    c.drop_block.ensures.changes

pub rename-requires-clause-forest : goal.rename-requires-clause-forest
rename-requires-clause-forest g c = c.drop_block.ensures.sound

pub rename-requires-clause-filled : goal.rename-requires-clause-filled
rename-requires-clause-filled g c =
    let takes = mg_takes c.args.arena.now c.args.up c.args.front c.args.rear c.requires.forest c.requires.pair c.regroup.new.arena
    (c.count_of.result + c.count_of-2.result) c.regroup.ensures c.args.place c.requires.next c.take_child.new.self c.take_child.result c.take_child.ensures.child
    c.take_child.ensures.takes in
    omega (
      arith,
      md_many c.args.arena.now c.args.up c.args.front c.args.rear c.requires.forest c.requires.pair c.regroup.new.arena c.take_child.new.self c.drop_block.new.self
          (c.count_of.result + c.count_of-2.result) c.args.place (omega (arith, c.count_of.ensures.value, c.count_of-2.ensures.value)) c.regroup.ensures takes
          c.drop_block.ensures.changes,
      c.count_of.ensures.value,
      c.count_of-2.ensures.value,
      c.requires.many,
    )

pub rename-requires-clause-known : goal.rename-requires-clause-known
rename-requires-clause-known g c =
    let takes = mg_takes c.args.arena.now c.args.up c.args.front c.args.rear c.requires.forest c.requires.pair c.regroup.new.arena
    (c.count_of.result + c.count_of-2.result) c.regroup.ensures c.args.place c.requires.next c.take_child.new.self c.take_child.result c.take_child.ensures.child
    c.take_child.ensures.takes in
    gone_known (g.P.Places.Knows c.args.at.now) c.args.arena.now c.drop_block.new.self c.args.rear c.drop_block.ensures.changes.changed
    (λ x d. joined_told c.args.arena.now c.args.up c.args.front c.args.rear c.regroup.new.arena c.take_child.new.self c.drop_block.new.self
    (c.count_of.result + c.count_of-2.result) (c.args.place + 1) c.regroup.ensures takes c.drop_block.ensures.changes x d) c.requires.known

pub returns-clause-shares : goal.returns-clause-shares
returns-clause-shares g c =
    let takes = mg_takes c.args.arena.now c.args.up c.args.front c.args.rear c.requires.forest c.requires.pair c.regroup.new.arena
    (c.count_of.result + c.count_of-2.result) c.regroup.ensures c.args.place c.requires.next c.take_child.new.self c.take_child.result c.take_child.ensures.child
    c.take_child.ensures.takes in
    merged c.args.arena.now c.args.up c.args.front c.args.rear c.requires.forest c.requires.pair c.regroup.new.arena
    c.take_child.new.self c.drop_block.new.self c.rename.new.arena (c.count_of.result + c.count_of-2.result) c.args.place c.requires.next
    (omega (arith, c.count_of.ensures.value, c.count_of-2.ensures.value)) c.regroup.ensures c.take_child.ensures.leaves takes c.drop_block.ensures.leaves
    c.drop_block.ensures.changes c.rename.ensures.shape (omega (arith, c.count_of.ensures.value, c.count_of-2.ensures.value, c.requires.many))

pub returns-clause-known : goal.returns-clause-known
returns-clause-known g c = c.rename.ensures.known

pub returns-clause-one : goal.returns-clause-one
returns-clause-one g c =
    let takes = mg_takes c.args.arena.now c.args.up c.args.front c.args.rear c.requires.forest c.requires.pair c.regroup.new.arena
    (c.count_of.result + c.count_of-2.result) c.regroup.ensures c.args.place c.requires.next c.take_child.new.self c.take_child.result c.take_child.ensures.child
    c.take_child.ensures.takes in
    let shares = merged c.args.arena.now c.args.up c.args.front c.args.rear c.requires.forest c.requires.pair c.regroup.new.arena
    c.take_child.new.self c.drop_block.new.self c.rename.new.arena (c.count_of.result + c.count_of-2.result) c.args.place c.requires.next
    (omega (arith, c.count_of.ensures.value, c.count_of-2.ensures.value)) c.regroup.ensures c.take_child.ensures.leaves takes c.drop_block.ensures.leaves
    c.drop_block.ensures.changes c.rename.ensures.shape (omega (arith, c.count_of.ensures.value, c.count_of-2.ensures.value, c.requires.many)) in
    let both = one_tells IsSpan c.args.arena.now c.drop_block.new.self c.rename.new.arena c.args.front c.args.rear c.rename.ensures.one c.requires.pair.differ
    c.drop_block.ensures.changes.changed
    (λ x d. joined_told c.args.arena.now c.args.up c.args.front c.args.rear c.regroup.new.arena c.take_child.new.self c.drop_block.new.self
    (c.count_of.result + c.count_of-2.result) (c.args.place + 1) c.regroup.ensures takes c.drop_block.ensures.changes x d) in
    pair_keeps IsSpan c.args.arena.now c.rename.new.arena c.args.up c.args.front c.args.rear c.requires.forest c.requires.pair shares both c.requires.one

pub returns-clause-last : goal.returns-clause-last
returns-clause-last g c =
    let takes = mg_takes c.args.arena.now c.args.up c.args.front c.args.rear c.requires.forest c.requires.pair c.regroup.new.arena
    (c.count_of.result + c.count_of-2.result) c.regroup.ensures c.args.place c.requires.next c.take_child.new.self c.take_child.result c.take_child.ensures.child
    c.take_child.ensures.takes in
    let shares = merged c.args.arena.now c.args.up c.args.front c.args.rear c.requires.forest c.requires.pair c.regroup.new.arena
    c.take_child.new.self c.drop_block.new.self c.rename.new.arena (c.count_of.result + c.count_of-2.result) c.args.place c.requires.next
    (omega (arith, c.count_of.ensures.value, c.count_of-2.ensures.value)) c.regroup.ensures c.take_child.ensures.leaves takes c.drop_block.ensures.leaves
    c.drop_block.ensures.changes c.rename.ensures.shape (omega (arith, c.count_of.ensures.value, c.count_of-2.ensures.value, c.requires.many)) in
    let both = one_tells (SpansLast (g.P.Places.end_place c.args.at.now)) c.args.arena.now c.drop_block.new.self c.rename.new.arena
    c.args.front c.args.rear c.rename.ensures.last c.requires.pair.differ
    c.drop_block.ensures.changes.changed
    (λ x d. joined_told c.args.arena.now c.args.up c.args.front c.args.rear c.regroup.new.arena c.take_child.new.self c.drop_block.new.self
    (c.count_of.result + c.count_of-2.result) (c.args.place + 1) c.regroup.ensures takes c.drop_block.ensures.changes x d) in
    pair_keeps (SpansLast (g.P.Places.end_place c.args.at.now)) c.args.arena.now c.rename.new.arena c.args.up c.args.front c.args.rear
    c.requires.forest c.requires.pair shares both c.requires.last
