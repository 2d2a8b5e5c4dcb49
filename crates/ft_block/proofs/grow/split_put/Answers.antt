use Rattle.std.proofs.Common.{refl, length, ap, ◌∙◌, arith}
use Rattle.std.proofs.lemmas.List.{length-take-le, length-drop}
use Rattle.ft_arena.specs.Forest.{entry, kids_of}
use Rattle.ft_block.specs.declared.leaves.View.TheVariants.{Removed}
use Rattle.ft_block.specs.Tree.{by_view}
use Rattle.ft_block.proofs.KeptLemmas.{same_floors, added_floors}
use Rattle.ft_shape.proofs.SplitLemmas.{split_apart_front, split_fits_front, split_apart_rear4, split_fits_rear, split_done, split_resums, live_from_values}
use Rattle.ft_shape.proofs.KindLemmas.{block_live}
use Rattle.ft_block.proofs.RootLemmas.{new_apart, made_block, made_bare, made_live, made_alone, made_top, made_kids, made_still, still_block}
use Rattle.std.proofs.lemmas.Result.{IfOk-from_err}
use Rattle.ft_block.proofs.grow.split_put.Goals as goal

pub rebuild-requires-clause-apart : goal.rebuild-requires-clause-apart
rebuild-requires-clause-apart g c = split_apart_front (by_view g.L.Leaf.size g.L.Leaf.element Removed) c.args.arena.now c.add_block-rear.new.self c.move_half.new.arena
    c.put_in_half.new.arena c.args.block c.args.place c.args.id c.add_block-rear.result c.height_at-height.result _ refl c.requires.forest
    c.requires.block c.requires.full c.requires.id c.requires.apart c.requires.differ (c.requires.fits Removed tt) c.add_block-rear.ensures.fresh
    c.add_block-rear.ensures.leaves c.add_block-rear.ensures.spare c.add_block-rear.ensures.changes c.move_half.ensures c.put_in_half.ensures

pub rebuild-requires-clause-floors : goal.rebuild-requires-clause-floors
rebuild-requires-clause-floors g c = same_floors c.args.floor c.move_half.new.arena c.put_in_half.new.arena c.put_in_half.ensures.block_values
    (same_floors c.args.floor c.add_block-rear.new.self c.move_half.new.arena c.move_half.ensures.block_values
    (added_floors c.args.floor c.args.arena.now c.add_block-rear.new.self c.add_block-rear.result _ _ c.add_block-rear.ensures.changes c.new.ensures.floor
    c.requires.floors))

pub rebuild-requires-clause-fits : goal.rebuild-requires-clause-fits
rebuild-requires-clause-fits g c = λ view k. split_fits_front (by_view g.L.Leaf.size g.L.Leaf.element view) c.args.arena.now c.add_block-rear.new.self
    c.move_half.new.arena c.put_in_half.new.arena c.args.block c.args.place c.args.id c.add_block-rear.result c.height_at-height.result _ refl
    c.requires.forest c.requires.block c.requires.full c.requires.id c.requires.apart c.requires.differ (c.requires.fits view k) c.add_block-rear.ensures.fresh
    c.add_block-rear.ensures.leaves c.add_block-rear.ensures.spare c.add_block-rear.ensures.changes c.move_half.ensures c.put_in_half.ensures

pub rebuild-requires-2-clause-apart : goal.rebuild-requires-2-clause-apart
rebuild-requires-2-clause-apart g c = split_apart_rear4 (by_view g.L.Leaf.size g.L.Leaf.element Removed) c.args.arena.now c.add_block-rear.new.self
    c.move_half.new.arena c.put_in_half.new.arena c.args.block c.args.place c.args.id c.add_block-rear.result c.height_at-height.result _ refl
    c.requires.forest c.requires.block c.requires.full c.requires.id c.requires.apart c.requires.differ (c.requires.fits Removed tt) c.add_block-rear.ensures.fresh
    c.add_block-rear.ensures.leaves c.add_block-rear.ensures.spare c.add_block-rear.ensures.changes c.move_half.ensures c.put_in_half.ensures c.rebuild.new.arena
    c.in_ok-rebuild.ensures.shape (c.in_ok-rebuild.ensures.sums Removed tt)

pub rebuild-requires-2-clause-fits : goal.rebuild-requires-2-clause-fits
rebuild-requires-2-clause-fits g c = λ view k. split_fits_rear (by_view g.L.Leaf.size g.L.Leaf.element view) c.args.arena.now c.add_block-rear.new.self
    c.move_half.new.arena c.put_in_half.new.arena c.args.block c.args.place c.args.id c.add_block-rear.result c.height_at-height.result _ refl
    c.requires.forest c.requires.block c.requires.full c.requires.id c.requires.apart c.requires.differ (c.requires.fits view k) c.add_block-rear.ensures.fresh
    c.add_block-rear.ensures.leaves c.add_block-rear.ensures.spare c.add_block-rear.ensures.changes c.move_half.ensures c.put_in_half.ensures c.rebuild.new.arena
    c.in_ok-rebuild.ensures.shape (c.in_ok-rebuild.ensures.sums view k)

pub returns-clause-splits : goal.returns-clause-splits
returns-clause-splits g c = split_done (by_view g.L.Leaf.size g.L.Leaf.element Removed) c.args.arena.now c.add_block-rear.new.self c.move_half.new.arena
    c.put_in_half.new.arena c.args.block c.args.place c.args.id c.add_block-rear.result c.height_at-height.result _ refl c.requires.forest
    c.requires.block c.requires.full c.requires.id c.requires.apart c.requires.differ (c.requires.fits Removed tt) c.add_block-rear.ensures.fresh
    c.add_block-rear.ensures.leaves c.add_block-rear.ensures.spare c.add_block-rear.ensures.changes c.move_half.ensures c.put_in_half.ensures c.rebuild.new.arena
    c.in_ok-rebuild.ensures.shape (c.in_ok-rebuild.ensures.sums Removed tt) c.rebuild-2.new.arena c.in_ok-rebuild-2.ensures.shape
    (c.in_ok-rebuild-2.ensures.sums Removed tt) c.height_at-height.ensures

pub returns-clause-sums : goal.returns-clause-sums
returns-clause-sums g c = λ view k. split_resums (by_view g.L.Leaf.size g.L.Leaf.element view) c.args.arena.now c.add_block-rear.new.self c.move_half.new.arena
    c.put_in_half.new.arena c.args.block c.args.place c.args.id c.add_block-rear.result c.height_at-height.result _ refl c.requires.forest
    c.requires.block c.requires.full c.requires.id c.requires.apart c.requires.differ (c.requires.fits view k) c.add_block-rear.ensures.fresh
    c.add_block-rear.ensures.leaves c.add_block-rear.ensures.spare c.add_block-rear.ensures.changes c.move_half.ensures c.put_in_half.ensures c.rebuild.new.arena
    c.in_ok-rebuild.ensures.shape (c.in_ok-rebuild.ensures.sums view k) c.rebuild-2.new.arena c.in_ok-rebuild-2.ensures.shape (c.in_ok-rebuild-2.ensures.sums view k)
    c.height_at-height.ensures

pub rebuild-requires-2-clause-floors : goal.rebuild-requires-2-clause-floors
rebuild-requires-2-clause-floors g c = c.in_ok-rebuild.ensures.floors

pub rebuild-requires-2-clause-forest : goal.rebuild-requires-2-clause-forest
rebuild-requires-2-clause-forest g c = c.in_ok-rebuild.ensures.shape.forest

pub returns-clause-floors : goal.returns-clause-floors
returns-clause-floors g c = c.in_ok-rebuild-2.ensures.floors

pub height_at-height-requires : goal.height_at-height-requires
height_at-height-requires g c = c.requires.block

pub add_block-rear-requires : goal.add_block-rear-requires
add_block-rear-requires g c = c.requires.spare

pub move_half-requires-clause-forest : goal.move_half-requires-clause-forest
move_half-requires-clause-forest g c = c.add_block-rear.ensures.sound

pub move_half-requires-clause-block : goal.move_half-requires-clause-block
move_half-requires-clause-block g c = made_still c.args.arena.now c.add_block-rear.new.self c.add_block-rear.result _
    c.add_block-rear.ensures.fresh c.add_block-rear.ensures.changes
    c.args.block c.requires.block

pub move_half-requires-clause-rear : goal.move_half-requires-clause-rear
move_half-requires-clause-rear g c = made_block c.args.arena.now c.add_block-rear.new.self c.add_block-rear.result _ c.add_block-rear.ensures.fresh
    c.add_block-rear.ensures.changes

pub move_half-requires-clause-full : goal.move_half-requires-clause-full
move_half-requires-clause-full g c = ap length (made_kids c.args.arena.now c.add_block-rear.new.self c.add_block-rear.result _
    c.add_block-rear.ensures.fresh c.add_block-rear.ensures.changes
    c.args.block (block_live (entry c.args.arena.now c.args.block) c.requires.block)) ∙ c.requires.full

pub move_half-requires-clause-empty : goal.move_half-requires-clause-empty
move_half-requires-clause-empty g c = made_bare c.args.arena.now c.add_block-rear.new.self c.add_block-rear.result _ c.add_block-rear.ensures.fresh
    c.add_block-rear.ensures.changes

pub move_half-requires-clause-alone : goal.move_half-requires-clause-alone
move_half-requires-clause-alone g c = made_top c.args.arena.now c.add_block-rear.new.self c.add_block-rear.result _ c.add_block-rear.ensures.fresh
    c.add_block-rear.ensures.changes

pub move_half-requires-clause-differ : goal.move_half-requires-clause-differ
move_half-requires-clause-differ g c = new_apart c.args.arena.now c.add_block-rear.new.self c.add_block-rear.result _
    c.add_block-rear.ensures.fresh c.add_block-rear.ensures.changes
    c.args.block (block_live (entry c.args.arena.now c.args.block) c.requires.block)

pub put_in_half-requires-clause-forest : goal.put_in_half-requires-clause-forest
put_in_half-requires-clause-forest g c = c.move_half.ensures.forest

pub put_in_half-requires-clause-block : goal.put_in_half-requires-clause-block
put_in_half-requires-clause-block g c = still_block (c.move_half.ensures.block_values c.args.block)
    (made_still c.args.arena.now c.add_block-rear.new.self c.add_block-rear.result _ c.add_block-rear.ensures.fresh c.add_block-rear.ensures.changes
    c.args.block c.requires.block)

pub put_in_half-requires-clause-rear : goal.put_in_half-requires-clause-rear
put_in_half-requires-clause-rear g c = still_block (c.move_half.ensures.block_values c.add_block-rear.result)
    (made_block c.args.arena.now c.add_block-rear.new.self c.add_block-rear.result _ c.add_block-rear.ensures.fresh c.add_block-rear.ensures.changes)

pub put_in_half-requires-clause-front : goal.put_in_half-requires-clause-front
put_in_half-requires-clause-front g c = ap length c.move_half.ensures.front
    ∙ length-take-le 4 (kids_of c.add_block-rear.new.self c.args.block) (omega (
      arith,
      ap length (made_kids c.args.arena.now c.add_block-rear.new.self c.add_block-rear.result _ c.add_block-rear.ensures.fresh
          c.add_block-rear.ensures.changes
          c.args.block (block_live (entry c.args.arena.now c.args.block) c.requires.block)),
      c.requires.full,
    ))

pub put_in_half-requires-clause-back : goal.put_in_half-requires-clause-back
put_in_half-requires-clause-back g c = omega (
  arith,
  ap length c.move_half.ensures.back,
  length-drop 4 (kids_of c.add_block-rear.new.self c.args.block),
  ap length (made_kids c.args.arena.now c.add_block-rear.new.self c.add_block-rear.result _ c.add_block-rear.ensures.fresh
      c.add_block-rear.ensures.changes
      c.args.block (block_live (entry c.args.arena.now c.args.block) c.requires.block)),
  c.requires.full,
)

pub put_in_half-requires-clause-differ : goal.put_in_half-requires-clause-differ
put_in_half-requires-clause-differ g c = new_apart c.args.arena.now c.add_block-rear.new.self c.add_block-rear.result _
    c.add_block-rear.ensures.fresh c.add_block-rear.ensures.changes
    c.args.block (block_live (entry c.args.arena.now c.args.block) c.requires.block)

pub put_in_half-requires-clause-place : goal.put_in_half-requires-clause-place
put_in_half-requires-clause-place g c = c.requires.place

pub put_in_half-requires-clause-id : goal.put_in_half-requires-clause-id
put_in_half-requires-clause-id g c = live_from_values (entry c.add_block-rear.new.self c.args.id) (entry c.move_half.new.arena c.args.id)
    (c.move_half.ensures.leaf_values c.args.id) (c.move_half.ensures.block_values c.args.id) (made_live c.args.arena.now c.add_block-rear.new.self
    c.add_block-rear.result _ c.add_block-rear.ensures.fresh c.add_block-rear.ensures.changes
    c.args.id c.requires.id)

pub put_in_half-requires-clause-alone : goal.put_in_half-requires-clause-alone
put_in_half-requires-clause-alone g c = c.move_half.ensures.other_parents c.args.id (made_alone c.args.arena.now c.add_block-rear.new.self
    c.add_block-rear.result _ c.add_block-rear.ensures.fresh c.add_block-rear.ensures.changes
    c.args.id c.requires.id c.requires.alone)

pub put_in_half-requires-clause-not_block : goal.put_in_half-requires-clause-not_block
put_in_half-requires-clause-not_block g c = c.requires.differ

pub put_in_half-requires-clause-not_rear : goal.put_in_half-requires-clause-not_rear
put_in_half-requires-clause-not_rear g c = new_apart c.args.arena.now c.add_block-rear.new.self c.add_block-rear.result _
    c.add_block-rear.ensures.fresh c.add_block-rear.ensures.changes
    c.args.id c.requires.id

pub rebuild-requires-clause-block : goal.rebuild-requires-clause-block
rebuild-requires-clause-block g c = still_block (c.put_in_half.ensures.block_values c.args.block ∙ c.move_half.ensures.block_values c.args.block)
    (made_still c.args.arena.now c.add_block-rear.new.self c.add_block-rear.result _ c.add_block-rear.ensures.fresh c.add_block-rear.ensures.changes
    c.args.block c.requires.block)

pub rebuild-requires-clause-forest : goal.rebuild-requires-clause-forest
rebuild-requires-clause-forest g c = c.put_in_half.ensures.forest

pub returns-in_err-rebuild : goal.returns-in_err-rebuild
returns-in_err-rebuild g c =
    let r = c.from_residual in
    record {
      splits = IfOk-from_err r.result _ r.ensures.0;
      floors = IfOk-from_err r.result _ r.ensures.0;
      sums = IfOk-from_err r.result _ r.ensures.0;
    }

pub returns-in_err-rebuild-2 : goal.returns-in_err-rebuild-2
returns-in_err-rebuild-2 g c =
    let r = c.from_residual-in_err-rebuild-2 in
    record {
      splits = IfOk-from_err r.result _ r.ensures.0;
      floors = IfOk-from_err r.result _ r.ensures.0;
      sums = IfOk-from_err r.result _ r.ensures.0;
    }
