use Rattle.std.proofs.Common.{◌+◌, length, ap, arith}
use Rattle.std.proofs.lemmas.Result.{on_ok_weaker}
use Rattle.std.proofs.lemmas.Option.{slice_get_within}
use Rattle.ft_block.specs.Tree.{by_view}
use Rattle.ft_arena.specs.Forest.{kids_of}
use Rattle.ft_shape.proofs.PairLemmas.{on_ok_both, pr_front_front, pr_front_rear, pr_rear_front, pr_rear_rear, rg_up, mg_takes, mg_drop_block, mg_drop_empty, md_block}
use Rattle.ft_shape.proofs.PairLemmas.{md_apart, md_total, merged, merged_sums}
use Rattle.ft_block.proofs.Floors.{md_floors}
use Rattle.ft_block.proofs.shrink.merge.Goals as goal

pub regroup-requires-clause-front_apart : goal.regroup-requires-clause-front_apart
regroup-requires-clause-front_apart g c = pr_rear_front c.args.arena.now c.args.up c.args.front c.args.rear c.requires.forest c.requires.pair

pub regroup-requires-clause-rear_apart : goal.regroup-requires-clause-rear_apart
regroup-requires-clause-rear_apart g c = pr_front_rear c.args.arena.now c.args.up c.args.front c.args.rear c.requires.forest c.requires.pair

pub regroup-requires-clause-front_own : goal.regroup-requires-clause-front_own
regroup-requires-clause-front_own g c = pr_front_front c.args.arena.now c.args.up c.args.front c.args.rear c.requires.forest c.requires.pair

pub regroup-requires-clause-rear_own : goal.regroup-requires-clause-rear_own
regroup-requires-clause-rear_own g c = pr_rear_rear c.args.arena.now c.args.up c.args.front c.args.rear c.requires.forest c.requires.pair

pub take_child-requires : goal.take_child-requires
take_child-requires g c = omega (
  arith,
  ap length (rg_up c.args.arena.now c.args.up c.args.front c.args.rear c.requires.forest c.requires.pair c.regroup.new.arena _
      c.regroup.ensures),
  slice_get_within (kids_of c.args.arena.now c.args.up) (c.args.place + 1) c.args.rear c.requires.next,
)

pub drop_block-requires-clause-block : goal.drop_block-requires-clause-block
drop_block-requires-clause-block g c =
    let takes = mg_takes c.args.arena.now c.args.up c.args.front c.args.rear c.requires.forest c.requires.pair c.regroup.new.arena
    (c.count_of.result + c.count_of-2.result) c.regroup.ensures c.args.place c.requires.next c.take_child.new.self c.take_child.result c.take_child.ensures.child
    c.take_child.ensures.takes in
    mg_drop_block c.args.arena.now c.args.up c.args.front c.args.rear c.requires.forest c.requires.pair c.regroup.new.arena (c.count_of.result + c.count_of-2.result)
    c.regroup.ensures c.take_child.new.self c.args.place takes

pub drop_block-requires-clause-empty : goal.drop_block-requires-clause-empty
drop_block-requires-clause-empty g c =
    let takes = mg_takes c.args.arena.now c.args.up c.args.front c.args.rear c.requires.forest c.requires.pair c.regroup.new.arena
    (c.count_of.result + c.count_of-2.result) c.regroup.ensures c.args.place c.requires.next c.take_child.new.self c.take_child.result c.take_child.ensures.child
    c.take_child.ensures.takes in
    mg_drop_empty c.args.arena.now c.args.up c.args.front c.args.rear c.requires.forest c.requires.pair c.regroup.new.arena (c.count_of.result + c.count_of-2.result)
    c.regroup.ensures c.take_child.new.self c.args.place takes (omega (arith, c.count_of.ensures.value, c.count_of-2.ensures.value))

pub drop_block-requires-clause-alone : goal.drop_block-requires-clause-alone
drop_block-requires-clause-alone g c =
    let takes = mg_takes c.args.arena.now c.args.up c.args.front c.args.rear c.requires.forest c.requires.pair c.regroup.new.arena
    (c.count_of.result + c.count_of-2.result) c.regroup.ensures c.args.place c.requires.next c.take_child.new.self c.take_child.result c.take_child.ensures.child
    c.take_child.ensures.takes in
    takes.parent

pub rebuild-requires-clause-block : goal.rebuild-requires-clause-block
rebuild-requires-clause-block g c =
    let takes = mg_takes c.args.arena.now c.args.up c.args.front c.args.rear c.requires.forest c.requires.pair c.regroup.new.arena
    (c.count_of.result + c.count_of-2.result) c.regroup.ensures c.args.place c.requires.next c.take_child.new.self c.take_child.result c.take_child.ensures.child
    c.take_child.ensures.takes in
    md_block c.args.arena.now c.args.up c.args.front c.args.rear c.requires.forest c.requires.pair c.regroup.new.arena c.take_child.new.self c.drop_block.new.self
    (c.count_of.result + c.count_of-2.result) c.args.place (omega (arith, c.count_of.ensures.value, c.count_of-2.ensures.value)) c.regroup.ensures takes
    c.drop_block.ensures.changes

pub rebuild-requires-clause-apart : goal.rebuild-requires-clause-apart
rebuild-requires-clause-apart g c =
    let takes = mg_takes c.args.arena.now c.args.up c.args.front c.args.rear c.requires.forest c.requires.pair c.regroup.new.arena
    (c.count_of.result + c.count_of-2.result) c.regroup.ensures c.args.place c.requires.next c.take_child.new.self c.take_child.result c.take_child.ensures.child
    c.take_child.ensures.takes in
    md_apart c.args.arena.now c.args.up c.args.front c.args.rear c.requires.forest c.requires.pair c.regroup.new.arena c.take_child.new.self c.drop_block.new.self
    (c.count_of.result + c.count_of-2.result) c.args.place (omega (arith, c.count_of.ensures.value, c.count_of-2.ensures.value)) c.regroup.ensures takes
    c.drop_block.ensures.changes

pub rebuild-requires-clause-floors : goal.rebuild-requires-clause-floors
rebuild-requires-clause-floors g c =
    let takes = mg_takes c.args.arena.now c.args.up c.args.front c.args.rear c.requires.forest c.requires.pair c.regroup.new.arena
    (c.count_of.result + c.count_of-2.result) c.regroup.ensures c.args.place c.requires.next c.take_child.new.self c.take_child.result c.take_child.ensures.child
    c.take_child.ensures.takes in
    md_floors c.args.arena.now c.args.up c.args.front c.args.rear c.requires.forest c.requires.pair c.regroup.new.arena c.take_child.new.self c.drop_block.new.self
    (c.count_of.result + c.count_of-2.result) c.args.place (omega (arith, c.count_of.ensures.value, c.count_of-2.ensures.value)) c.regroup.ensures takes
    c.drop_block.ensures.changes c.args.floor c.requires.floors

pub rebuild-requires-clause-fits : goal.rebuild-requires-clause-fits
rebuild-requires-clause-fits g c = λ view k.
    let takes = mg_takes c.args.arena.now c.args.up c.args.front c.args.rear c.requires.forest c.requires.pair c.regroup.new.arena
    (c.count_of.result + c.count_of-2.result) c.regroup.ensures c.args.place c.requires.next c.take_child.new.self c.take_child.result c.take_child.ensures.child
    c.take_child.ensures.takes in
    omega (
      arith,
      md_total c.args.arena.now c.args.up c.args.front c.args.rear c.requires.forest c.requires.pair c.regroup.new.arena c.take_child.new.self
          c.drop_block.new.self (c.count_of.result + c.count_of-2.result) c.args.place (omega (arith, c.count_of.ensures.value, c.count_of-2.ensures.value))
          c.regroup.ensures takes c.drop_block.ensures.changes (by_view g.L.Leaf.size g.L.Leaf.element view) (c.requires.sums view k),
      c.requires.fits view k,
    )

pub returns-clause-shares : goal.returns-clause-shares
returns-clause-shares g c =
    let takes = mg_takes c.args.arena.now c.args.up c.args.front c.args.rear c.requires.forest c.requires.pair c.regroup.new.arena
    (c.count_of.result + c.count_of-2.result) c.regroup.ensures c.args.place c.requires.next c.take_child.new.self c.take_child.result c.take_child.ensures.child
    c.take_child.ensures.takes in
    on_ok_weaker c.rebuild.result (λ q. merged c.args.arena.now c.args.up c.args.front c.args.rear c.requires.forest c.requires.pair c.regroup.new.arena
    c.take_child.new.self c.drop_block.new.self c.rebuild.new.arena (c.count_of.result + c.count_of-2.result) c.args.place c.requires.next
    (omega (arith, c.count_of.ensures.value, c.count_of-2.ensures.value)) c.regroup.ensures c.take_child.ensures.leaves takes c.drop_block.ensures.leaves
    c.drop_block.ensures.changes q (omega (arith, c.count_of.ensures.value, c.count_of-2.ensures.value, c.requires.many))) c.rebuild.ensures.shape

pub returns-clause-sums : goal.returns-clause-sums
returns-clause-sums g c =
    let takes = mg_takes c.args.arena.now c.args.up c.args.front c.args.rear c.requires.forest c.requires.pair c.regroup.new.arena
    (c.count_of.result + c.count_of-2.result) c.regroup.ensures c.args.place c.requires.next c.take_child.new.self c.take_child.result c.take_child.ensures.child
    c.take_child.ensures.takes in
    on_ok_both c.rebuild.result (λ q u view k. merged_sums c.args.arena.now c.args.up c.args.front c.args.rear c.requires.forest c.requires.pair c.regroup.new.arena
    c.take_child.new.self c.drop_block.new.self c.rebuild.new.arena (c.count_of.result + c.count_of-2.result) c.args.place c.requires.next
    (omega (arith, c.count_of.ensures.value, c.count_of-2.ensures.value)) c.regroup.ensures c.take_child.ensures.leaves takes c.drop_block.ensures.leaves
    c.drop_block.ensures.changes q (by_view g.L.Leaf.size g.L.Leaf.element view) (c.requires.sums view k) (u view k)) c.rebuild.ensures.shape c.rebuild.ensures.sums

pub returns-clause-floors : goal.returns-clause-floors
returns-clause-floors g c = c.rebuild.ensures.floors

pub count_of-requires : goal.count_of-requires
count_of-requires g c = c.requires.pair.front_block

pub count_of-requires-2 : goal.count_of-requires-2
count_of-requires-2 g c = c.requires.pair.rear_block

pub regroup-requires-clause-forest : goal.regroup-requires-clause-forest
regroup-requires-clause-forest g c = c.requires.forest

pub regroup-requires-clause-front : goal.regroup-requires-clause-front
regroup-requires-clause-front g c = c.requires.pair.front_block

pub regroup-requires-clause-rear : goal.regroup-requires-clause-rear
regroup-requires-clause-rear g c = c.requires.pair.rear_block

pub regroup-requires-clause-differ : goal.regroup-requires-clause-differ
regroup-requires-clause-differ g c = c.requires.pair.differ

pub regroup-requires-clause-want : goal.regroup-requires-clause-want
regroup-requires-clause-want g c = omega (arith, c.count_of.ensures.value, c.count_of-2.ensures.value, c.requires.few)

pub regroup-requires-clause-enough : goal.regroup-requires-clause-enough
regroup-requires-clause-enough g c = omega (arith, c.count_of.ensures.value, c.count_of-2.ensures.value)

pub rebuild-requires-clause-forest : goal.rebuild-requires-clause-forest
rebuild-requires-clause-forest g c = c.drop_block.ensures.sound

pub regroup-requires-clause-room : goal.regroup-requires-clause-room
regroup-requires-clause-room g c = omega (arith, c.count_of.ensures.value, c.count_of-2.ensures.value)

pub overflow_add-many : goal.overflow_add-many
overflow_add-many g c = omega (arith, c.count_of.ensures.few, c.count_of-2.ensures.few)

pub overflow_add-place : goal.overflow_add-place
overflow_add-place g c = omega (
  arith,
  slice_get_within (kids_of c.args.arena.now c.args.up) (c.args.place + 1) c.args.rear c.requires.next,
  c.requires.forest.few c.args.up,
)
