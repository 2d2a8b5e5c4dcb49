use Rattle.std.proofs.Common.{ap, ◌∙◌, arith}
use Rattle.std.proofs.lemmas.Result.{on_ok_weaker, IfOk-from_err}
use Rattle.ft_block.specs.Tree.{by_view}
use Rattle.ft_arena.specs.Ids.{times}
use Rattle.ft_arena.specs.Forest.{entry}
use Rattle.ft_shape.proofs.KindLemmas.{kind_block}
use Rattle.ft_block.proofs.KeptLemmas.{same_floors}
use Rattle.ft_shape.proofs.PairLemmas.{on_ok_both, pr_front_front, pr_front_rear, pr_rear_front, pr_rear_rear, rg_front_front, rg_rear_rear, rg_block, rg_total}
use Rattle.ft_shape.proofs.PairLemmas.{rg_rear_total, balanced, balanced_up, balanced_sums}
use Rattle.ft_block.proofs.shrink.balance.Goals as goal

pub regroup-requires-clause-front_apart : goal.regroup-requires-clause-front_apart
regroup-requires-clause-front_apart g c = pr_rear_front c.args.arena.now c.args.up c.args.front c.args.rear c.requires.forest c.requires.pair

pub regroup-requires-clause-rear_apart : goal.regroup-requires-clause-rear_apart
regroup-requires-clause-rear_apart g c = pr_front_rear c.args.arena.now c.args.up c.args.front c.args.rear c.requires.forest c.requires.pair

pub regroup-requires-clause-front_own : goal.regroup-requires-clause-front_own
regroup-requires-clause-front_own g c = pr_front_front c.args.arena.now c.args.up c.args.front c.args.rear c.requires.forest c.requires.pair

pub regroup-requires-clause-rear_own : goal.regroup-requires-clause-rear_own
regroup-requires-clause-rear_own g c = pr_rear_rear c.args.arena.now c.args.up c.args.front c.args.rear c.requires.forest c.requires.pair

pub rebuild-requires-clause-block : goal.rebuild-requires-clause-block
rebuild-requires-clause-block g c = rg_block c.args.arena.now c.args.up c.args.front c.args.rear c.requires.forest c.requires.pair c.regroup.new.arena _ c.regroup.ensures
    c.args.front c.requires.pair.front_block

pub rebuild-requires-clause-apart : goal.rebuild-requires-clause-apart
rebuild-requires-clause-apart g c = rg_front_front c.args.arena.now c.args.up c.args.front c.args.rear c.requires.forest c.requires.pair c.regroup.new.arena _ c.regroup.ensures

pub rebuild-requires-clause-floors : goal.rebuild-requires-clause-floors
rebuild-requires-clause-floors g c = same_floors c.args.floor c.args.arena.now c.regroup.new.arena c.regroup.ensures.block_values c.requires.floors

pub rebuild-requires-clause-fits : goal.rebuild-requires-clause-fits
rebuild-requires-clause-fits g c = λ view k. omega (
  arith,
  rg_total c.args.arena.now c.args.up c.args.front c.args.rear c.requires.forest c.requires.pair
      c.regroup.new.arena _ c.regroup.ensures (by_view g.L.Leaf.size g.L.Leaf.element view) (c.requires.sums view k),
  c.requires.fits view k,
)

pub rebuild-requires-2-clause-apart : goal.rebuild-requires-2-clause-apart
rebuild-requires-2-clause-apart g c = ap (λ ks. times ks c.args.rear) (c.in_ok-rebuild.ensures.shape.kids c.args.rear)
    ∙ rg_rear_rear c.args.arena.now c.args.up c.args.front c.args.rear c.requires.forest c.requires.pair c.regroup.new.arena _ c.regroup.ensures

pub rebuild-requires-2-clause-block : goal.rebuild-requires-2-clause-block
rebuild-requires-2-clause-block g c = kind_block (entry c.regroup.new.arena c.args.rear) (entry c.rebuild.new.arena c.args.rear)
    (c.in_ok-rebuild.ensures.shape.kinds c.args.rear) (rg_block c.args.arena.now c.args.up c.args.front c.args.rear c.requires.forest c.requires.pair c.regroup.new.arena
    _ c.regroup.ensures c.args.rear c.requires.pair.rear_block)

pub rebuild-requires-2-clause-fits : goal.rebuild-requires-2-clause-fits
rebuild-requires-2-clause-fits g c = λ view k. omega (
  arith,
  rg_total c.args.arena.now c.args.up c.args.front c.args.rear c.requires.forest c.requires.pair
      c.regroup.new.arena _ c.regroup.ensures (by_view g.L.Leaf.size g.L.Leaf.element view) (c.requires.sums view k),
  rg_rear_total c.args.arena.now c.args.up c.args.front
      c.args.rear c.requires.forest c.requires.pair c.regroup.new.arena _ c.regroup.ensures (by_view g.L.Leaf.size g.L.Leaf.element view) (c.requires.sums view k)
      c.rebuild.new.arena c.in_ok-rebuild.ensures.shape (c.in_ok-rebuild.ensures.sums view k),
  c.requires.fits view k,
)

pub returns-clause-shares : goal.returns-clause-shares
returns-clause-shares g c = on_ok_weaker c.rebuild-2.result (λ q. balanced c.args.arena.now c.args.up c.args.front c.args.rear c.requires.forest c.requires.pair
    c.regroup.new.arena c.rebuild.new.arena c.rebuild-2.new.arena _ c.regroup.ensures c.in_ok-rebuild.ensures.shape q
    (omega (arith, c.count_of.ensures.value, c.count_of-2.ensures.value, c.requires.many))
    (omega (arith, c.count_of.ensures.value, c.count_of-2.ensures.value, c.requires.many))) c.rebuild-2.ensures.shape

pub returns-clause-up_kids : goal.returns-clause-up_kids
returns-clause-up_kids g c = on_ok_weaker c.rebuild-2.result (λ q. balanced_up c.args.arena.now c.args.up c.args.front c.args.rear c.requires.forest c.requires.pair
    c.regroup.new.arena c.rebuild.new.arena c.rebuild-2.new.arena _ c.regroup.ensures c.in_ok-rebuild.ensures.shape q) c.rebuild-2.ensures.shape

pub returns-clause-sums : goal.returns-clause-sums
returns-clause-sums g c = on_ok_both c.rebuild-2.result (λ q u view k. balanced_sums c.args.arena.now c.args.up c.args.front c.args.rear c.requires.forest c.requires.pair
    c.regroup.new.arena c.rebuild.new.arena c.rebuild-2.new.arena _ c.regroup.ensures c.in_ok-rebuild.ensures.shape q (by_view g.L.Leaf.size g.L.Leaf.element view)
    (c.requires.sums view k) (c.in_ok-rebuild.ensures.sums view k) (u view k)) c.rebuild-2.ensures.shape c.rebuild-2.ensures.sums

pub rebuild-requires-2-clause-floors : goal.rebuild-requires-2-clause-floors
rebuild-requires-2-clause-floors g c = c.in_ok-rebuild.ensures.floors

pub returns-clause-floors : goal.returns-clause-floors
returns-clause-floors g c = c.rebuild-2.ensures.floors

pub count_of-requires : goal.count_of-requires
count_of-requires g c = c.requires.pair.front_block

pub count_of-requires-2 : goal.count_of-requires-2
count_of-requires-2 g c = c.requires.pair.rear_block

pub regroup-requires-clause-forest : goal.regroup-requires-clause-forest
regroup-requires-clause-forest g c = c.requires.forest

pub regroup-requires-clause-front : goal.regroup-requires-clause-front
regroup-requires-clause-front g c = c.requires.pair.front_block

pub regroup-requires-clause-rear : goal.regroup-requires-clause-rear
regroup-requires-clause-rear g c = c.requires.pair.rear_block

pub regroup-requires-clause-differ : goal.regroup-requires-clause-differ
regroup-requires-clause-differ g c = c.requires.pair.differ

pub regroup-requires-clause-want : goal.regroup-requires-clause-want
regroup-requires-clause-want g c = omega (arith, c.count_of.ensures.few, c.count_of-2.ensures.few)

pub regroup-requires-clause-enough : goal.regroup-requires-clause-enough
regroup-requires-clause-enough g c = omega (arith, c.count_of.ensures.value, c.count_of-2.ensures.value)

pub rebuild-requires-clause-forest : goal.rebuild-requires-clause-forest
rebuild-requires-clause-forest g c = c.regroup.ensures.forest

pub rebuild-requires-2-clause-forest : goal.rebuild-requires-2-clause-forest
rebuild-requires-2-clause-forest g c = c.in_ok-rebuild.ensures.shape.forest

pub regroup-requires-clause-room : goal.regroup-requires-clause-room
regroup-requires-clause-room g c = omega (
  arith,
  c.count_of.ensures.value,
  c.count_of-2.ensures.value,
  c.count_of.ensures.few,
  c.count_of-2.ensures.few,
)

pub overflow_add-many : goal.overflow_add-many
overflow_add-many g c = omega (arith, c.count_of.ensures.few, c.count_of-2.ensures.few)

pub returns-in_err-rebuild : goal.returns-in_err-rebuild
returns-in_err-rebuild g c =
    let r = c.from_residual in
    record {
      shares = IfOk-from_err r.result _ r.ensures.0;
      up_kids = IfOk-from_err r.result _ r.ensures.0;
      sums = IfOk-from_err r.result _ r.ensures.0;
      floors = IfOk-from_err r.result _ r.ensures.0;
    }
