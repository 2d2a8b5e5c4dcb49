use Rattle.std.proofs.Common.{ℕ, List, length, refl, ap, ◌∙◌, arith}
use Rattle.ft_arena.specs.Ids.{times}
use Rattle.ft_shape.proofs.SplitLemmas.{split_apart_front, split_apart_rear4, split_done, rear_not_in_front}
use Rattle.ft_arena.specs.Forest.{entry}
use Rattle.ft_shape.proofs.EditLemmas.{dead_apart}
use Rattle.ft_shape.proofs.KindLemmas.{block_live}
use Rattle.ft_shape.proofs.ToldLemmas.{both_tell}
use Rattle.ft_overlap.specs.Inside.{IsSpan, SpansLast}
use Rattle.ft_overlap.proofs.Halved.{no_length, none_fits, none_resums, halves_told, halves_known}
use Rattle.ft_overlap.proofs.grow.split_put.Goals as goal

pub rename-requires-clause-apart : goal.rename-requires-clause-apart
rename-requires-clause-apart g c = split_apart_front no_length c.args.arena.now c.add_block-rear.new.self c.move_half.new.arena c.put_in_half.new.arena c.args.block c.args.place c.args.id c.add_block-rear.result c.height_at-height.result _ refl c.requires.forest c.requires.block c.requires.full c.requires.id c.requires.apart c.requires.differ (none_fits c.args.arena.now _) c.add_block-rear.ensures.fresh c.add_block-rear.ensures.leaves c.add_block-rear.ensures.spare c.add_block-rear.ensures.changes c.move_half.ensures c.put_in_half.ensures

pub rename-requires-clause-filled : goal.rename-requires-clause-filled
rename-requires-clause-filled g c = omega (arith, c.put_in_half.ensures.front_many)

pub rename-requires-clause-known : goal.rename-requires-clause-known
rename-requires-clause-known g c = halves_known (g.P.Places.Knows c.args.at.now) c.args.arena.now c.add_block-rear.new.self
    c.move_half.new.arena c.put_in_half.new.arena c.args.block c.args.place c.args.id c.add_block-rear.result _
    c.add_block-rear.ensures.changes c.move_half.ensures c.put_in_half.ensures c.requires.item c.requires.known

pub rename-requires-2-clause-apart : goal.rename-requires-2-clause-apart
rename-requires-2-clause-apart g c = split_apart_rear4 no_length c.args.arena.now c.add_block-rear.new.self c.move_half.new.arena c.put_in_half.new.arena c.args.block c.args.place c.args.id c.add_block-rear.result c.height_at-height.result _ refl c.requires.forest c.requires.block c.requires.full c.requires.id c.requires.apart c.requires.differ (none_fits c.args.arena.now _) c.add_block-rear.ensures.fresh c.add_block-rear.ensures.leaves c.add_block-rear.ensures.spare c.add_block-rear.ensures.changes c.move_half.ensures c.put_in_half.ensures c.rename.new.arena c.rename.ensures.shape (none_resums c.put_in_half.new.arena c.rename.new.arena c.args.block)

pub rename-requires-2-clause-filled : goal.rename-requires-2-clause-filled
rename-requires-2-clause-filled g c = omega (arith, ap length (c.rename.ensures.shape.kids c.add_block-rear.result), c.put_in_half.ensures.rear_many)

pub returns-clause-splits : goal.returns-clause-splits
returns-clause-splits g c = split_done no_length c.args.arena.now c.add_block-rear.new.self c.move_half.new.arena c.put_in_half.new.arena c.args.block c.args.place c.args.id c.add_block-rear.result c.height_at-height.result _ refl c.requires.forest c.requires.block c.requires.full c.requires.id c.requires.apart c.requires.differ (none_fits c.args.arena.now _) c.add_block-rear.ensures.fresh c.add_block-rear.ensures.leaves c.add_block-rear.ensures.spare c.add_block-rear.ensures.changes c.move_half.ensures c.put_in_half.ensures c.rename.new.arena c.rename.ensures.shape (none_resums c.put_in_half.new.arena c.rename.new.arena c.args.block) c.rename-2.new.arena c.rename-2.ensures.shape (none_resums c.rename.new.arena c.rename-2.new.arena c.add_block-rear.result) c.height_at-height.ensures

pub returns-clause-one : goal.returns-clause-one
returns-clause-one g c = both_tell IsSpan c.args.arena.now c.put_in_half.new.arena c.rename.new.arena c.rename-2.new.arena c.args.block c.add_block-rear.result c.rename.ensures.one c.rename-2.ensures.shape c.rename-2.ensures.one (dead_apart (entry c.args.arena.now) c.args.block c.add_block-rear.result (block_live (entry c.args.arena.now c.args.block) c.requires.block) c.add_block-rear.ensures.fresh) (ap (λ (ks : List ℕ). times ks c.add_block-rear.result) (c.rename.ensures.shape.kids c.args.block) ∙ rear_not_in_front no_length c.args.arena.now c.add_block-rear.new.self c.move_half.new.arena c.put_in_half.new.arena c.args.block c.args.place c.args.id c.add_block-rear.result c.height_at-height.result _ refl c.requires.forest c.requires.block c.requires.full c.requires.id c.requires.apart c.requires.differ (none_fits c.args.arena.now _) c.add_block-rear.ensures.fresh c.add_block-rear.ensures.leaves c.add_block-rear.ensures.spare c.add_block-rear.ensures.changes c.move_half.ensures c.put_in_half.ensures) (halves_told c.args.arena.now c.add_block-rear.new.self c.move_half.new.arena c.put_in_half.new.arena c.args.block c.args.place c.args.id c.add_block-rear.result _ c.add_block-rear.ensures.changes c.move_half.ensures c.put_in_half.ensures)

pub returns-clause-last : goal.returns-clause-last
returns-clause-last g c = both_tell (SpansLast (g.P.Places.end_place c.args.at.now)) c.args.arena.now c.put_in_half.new.arena c.rename.new.arena c.rename-2.new.arena c.args.block c.add_block-rear.result c.rename.ensures.last c.rename-2.ensures.shape c.rename-2.ensures.last (dead_apart (entry c.args.arena.now) c.args.block c.add_block-rear.result (block_live (entry c.args.arena.now c.args.block) c.requires.block) c.add_block-rear.ensures.fresh) (ap (λ (ks : List ℕ). times ks c.add_block-rear.result) (c.rename.ensures.shape.kids c.args.block) ∙ rear_not_in_front no_length c.args.arena.now c.add_block-rear.new.self c.move_half.new.arena c.put_in_half.new.arena c.args.block c.args.place c.args.id c.add_block-rear.result c.height_at-height.result _ refl c.requires.forest c.requires.block c.requires.full c.requires.id c.requires.apart c.requires.differ (none_fits c.args.arena.now _) c.add_block-rear.ensures.fresh c.add_block-rear.ensures.leaves c.add_block-rear.ensures.spare c.add_block-rear.ensures.changes c.move_half.ensures c.put_in_half.ensures) (halves_told c.args.arena.now c.add_block-rear.new.self c.move_half.new.arena c.put_in_half.new.arena c.args.block c.args.place c.args.id c.add_block-rear.result _ c.add_block-rear.ensures.changes c.move_half.ensures c.put_in_half.ensures)
