use Rattle.std.proofs.Common.{◌≡◌, Some, None, ap, ◌∙◌, arith}
use Rattle.ft_arena.specs.Forest.{entry}
use Rattle.ft_arena.specs.Ids.{insert_after}
use Rattle.ft_shape.specs.Tree.{height_of, IsGrowing, IsTree}
use Rattle.ft_shape.specs.Steps.{PutsAt}
use Rattle.ft_shape.proofs.EditLemmas.{dead_apart}
use Rattle.ft_shape.proofs.KindLemmas.{kind_height, block_live}
use Rattle.ft_shape.proofs.PutLemmas.{PutsAt-from}
use Rattle.ft_shape.proofs.GrowLemmas.{put_tree, put_block, split_grows}
use Rattle.ft_shape.proofs.FitLemmas.{gr_high, gr_block, gr_low}
use Rattle.ft_shape.proofs.RefreshLemmas.{SameShape-tree}
use Rattle.ft_shape.proofs.ToldLemmas.{put_keeps, split_keeps}
use Rattle.ft_overlap.specs.Inside.{IsSpan, SpansLast}
use Rattle.ft_overlap.proofs.Halved.{put_known}
use Rattle.ft_overlap.proofs.Inserted.{whole_part, tree_filled, but_one}
use Rattle.ft_overlap.proofs.Raised.{put_unraised}
use Rattle.ft_overlap.proofs.Upward.{apart_from_own}
use Rattle.ft_overlap.proofs.grow.put_leaf.Goals as goal

pub count_of-requires : goal.count_of-requires
count_of-requires g c =
    let p = c.requires.place in
    let s = c.args.arena.now in
    gr_block s c.args.root p.at c.args.id p.step p.edit p.is_edit p.growing c.args.block p.up

pub put_child-requires-clause-block : goal.put_child-requires-clause-block
put_child-requires-clause-block g c =
    let p = c.requires.place in
    let s = c.args.arena.now in
    gr_block s c.args.root p.at c.args.id p.step p.edit p.is_edit p.growing c.args.block p.up

pub put_child-requires-clause-child : goal.put_child-requires-clause-child
put_child-requires-clause-child g c =
    c.requires.place.growing.new_live

pub put_child-requires-clause-at : goal.put_child-requires-clause-at
put_child-requires-clause-at g c =
    c.requires.place.inside

pub put_child-requires-clause-alone : goal.put_child-requires-clause-alone
put_child-requires-clause-alone g c =
    c.requires.place.growing.new_top

pub put_child-requires-clause-differ : goal.put_child-requires-clause-differ
put_child-requires-clause-differ g c =
    let p = c.requires.place in
    let s = c.args.arena.now in
    λ e. omega (arith, p.growing.level, gr_high s c.args.root p.at c.args.id p.step p.edit p.is_edit p.growing c.args.block p.up, ap (height_of s) e)

pub raise_up-requires-clause-tree : goal.raise_up-requires-clause-tree
raise_up-requires-clause-tree g c =
    let p = c.requires.place in
    let s = c.args.arena.now in
    let s1 = c.put_child.new.self in
    let puts : PutsAt s s1 c.args.block c.args.place c.args.id =
    PutsAt-from s s1 c.args.block c.args.place c.args.id c.put_child.ensures.leaves c.put_child.ensures.puts c.put_child.ensures.sound in
    let tree : IsTree s1 c.args.root = put_tree s s1 c.args.root p.at c.args.id c.args.block p.step p.edit p.is_edit p.growing p.up c.args.place p.beside puts in
    whole_part s1 c.args.root tree

pub raise_up-requires-clause-block : goal.raise_up-requires-clause-block
raise_up-requires-clause-block g c =
    let p = c.requires.place in
    let s = c.args.arena.now in
    let s1 = c.put_child.new.self in
    let puts : PutsAt s s1 c.args.block c.args.place c.args.id =
    PutsAt-from s s1 c.args.block c.args.place c.args.id c.put_child.ensures.leaves c.put_child.ensures.puts c.put_child.ensures.sound in
    put_block s s1 c.args.root p.at c.args.id c.args.block p.step p.edit p.is_edit p.growing p.up c.args.place p.beside puts

pub raise_up-requires-clause-known : goal.raise_up-requires-clause-known
raise_up-requires-clause-known g c =
    let p = c.requires.place in
    let s = c.args.arena.now in
    let s1 = c.put_child.new.self in
    let puts : PutsAt s s1 c.args.block c.args.place c.args.id =
    PutsAt-from s s1 c.args.block c.args.place c.args.id c.put_child.ensures.leaves c.put_child.ensures.puts c.put_child.ensures.sound in
    put_known (g.P.Places.Knows c.args.places.now) s s1 puts.leaf_values puts.block_values c.requires.known

pub raise_up-requires-clause-one : goal.raise_up-requires-clause-one
raise_up-requires-clause-one g c =
    let p = c.requires.place in
    let s = c.args.arena.now in
    let s1 = c.put_child.new.self in
    let puts : PutsAt s s1 c.args.block c.args.place c.args.id =
    PutsAt-from s s1 c.args.block c.args.place c.args.id c.put_child.ensures.leaves c.put_child.ensures.puts c.put_child.ensures.sound in
    put_keeps IsSpan s s1 c.args.block c.args.place c.args.id puts (but_one IsSpan s c.args.block c.requires.one)

pub raise_up-requires-clause-last : goal.raise_up-requires-clause-last
raise_up-requires-clause-last g c =
    let p = c.requires.place in
    let s = c.args.arena.now in
    let s1 = c.put_child.new.self in
    let puts : PutsAt s s1 c.args.block c.args.place c.args.id =
    PutsAt-from s s1 c.args.block c.args.place c.args.id c.put_child.ensures.leaves c.put_child.ensures.puts c.put_child.ensures.sound in
    put_keeps (SpansLast (g.P.Places.end_place c.args.places.now)) s s1 c.args.block c.args.place c.args.id puts (but_one (SpansLast (g.P.Places.end_place
    c.args.places.now)) s c.args.block c.requires.last)

pub raise_up-requires-clause-unraised : goal.raise_up-requires-clause-unraised
raise_up-requires-clause-unraised g c =
    let p = c.requires.place in
    let s = c.args.arena.now in
    let s1 = c.put_child.new.self in
    let puts : PutsAt s s1 c.args.block c.args.place c.args.id =
    PutsAt-from s s1 c.args.block c.args.place c.args.id c.put_child.ensures.leaves c.put_child.ensures.puts c.put_child.ensures.sound in
    put_unraised (g.P.Places.end_place c.args.places.now) c.args.item s s1 c.args.block c.args.place c.args.id puts p.growing.shape.forest p.growing.new_top p.leaf
    (omega (arith, c.if-place-eq0.false)) (omega (arith, p.inside, c.if-place-eq0.false)) c.requires.one c.requires.last

pub returns-then-count_of-lt8-clause-tree : goal.returns-then-count_of-lt8-clause-tree
returns-then-count_of-lt8-clause-tree g c =
    let p = c.requires.place in
    let s = c.args.arena.now in
    let s1 = c.put_child.new.self in
    let puts : PutsAt s s1 c.args.block c.args.place c.args.id =
    PutsAt-from s s1 c.args.block c.args.place c.args.id c.put_child.ensures.leaves c.put_child.ensures.puts c.put_child.ensures.sound in
    let tree : IsTree s1 c.args.root = put_tree s s1 c.args.root p.at c.args.id c.args.block p.step p.edit p.is_edit p.growing p.up c.args.place p.beside puts in
    SameShape-tree s1 c.raise_up.new.arena c.args.root tree c.raise_up.ensures.shape

pub returns-then-count_of-lt8-clause-leaves : goal.returns-then-count_of-lt8-clause-leaves
returns-then-count_of-lt8-clause-leaves g c =
    c.raise_up.ensures.shape.leaves ∙ c.put_child.ensures.leaves

pub returns-then-count_of-lt8-clause-leaf_values : goal.returns-then-count_of-lt8-clause-leaf_values
returns-then-count_of-lt8-clause-leaf_values g c =
    λ x. c.raise_up.ensures.shape.leaf_values x ∙ c.put_child.ensures.puts.leaf_values x

pub split_put-rear-requires-clause-forest : goal.split_put-rear-requires-clause-forest
split_put-rear-requires-clause-forest g c =
    c.requires.place.growing.shape.forest

pub split_put-rear-requires-clause-spare : goal.split_put-rear-requires-clause-spare
split_put-rear-requires-clause-spare g c =
    omega (arith, c.requires.spare)

pub split_put-rear-requires-clause-block : goal.split_put-rear-requires-clause-block
split_put-rear-requires-clause-block g c =
    let p = c.requires.place in
    let s = c.args.arena.now in
    gr_block s c.args.root p.at c.args.id p.step p.edit p.is_edit p.growing c.args.block p.up

pub split_put-rear-requires-clause-place : goal.split_put-rear-requires-clause-place
split_put-rear-requires-clause-place g c =
    omega (arith, c.requires.place.inside, c.requires.place.growing.shape.forest.few c.args.block)

pub split_put-rear-requires-clause-id : goal.split_put-rear-requires-clause-id
split_put-rear-requires-clause-id g c =
    c.requires.place.growing.new_live

pub split_put-rear-requires-clause-alone : goal.split_put-rear-requires-clause-alone
split_put-rear-requires-clause-alone g c =
    c.requires.place.growing.new_top

pub split_put-rear-requires-clause-apart : goal.split_put-rear-requires-clause-apart
split_put-rear-requires-clause-apart g c =
    let p = c.requires.place in
    let s = c.args.arena.now in
    apart_from_own s c.args.root (Some c.args.id) None p.growing.shape c.args.block

pub split_put-rear-requires-clause-differ : goal.split_put-rear-requires-clause-differ
split_put-rear-requires-clause-differ g c =
    let p = c.requires.place in
    let s = c.args.arena.now in
    λ e. omega (arith, p.growing.level, gr_high s c.args.root p.at c.args.id p.step p.edit p.is_edit p.growing c.args.block p.up, ap (height_of s) e)

pub grow-top-requires-clause-growing : goal.grow-top-requires-clause-growing
grow-top-requires-clause-growing g c =
    let p = c.requires.place in
    let s = c.args.arena.now in
    let s1 = c.split_put-rear.new.arena in
    let r = c.split_put-rear.ensures.splits in
    let grows : IsGrowing s1 c.args.root c.args.block c.split_put-rear.result (λ xs. insert_after xs c.args.block c.split_put-rear.result) =
    split_grows s s1 c.args.root p.at c.args.id c.args.block p.step p.edit p.is_edit p.growing p.up c.args.place p.beside c.split_put-rear.result r in
    grows

pub grow-top-requires-clause-one : goal.grow-top-requires-clause-one
grow-top-requires-clause-one g c =
    let p = c.requires.place in
    let s = c.args.arena.now in
    let s1 = c.split_put-rear.new.arena in
    let r = c.split_put-rear.ensures.splits in
    let grows : IsGrowing s1 c.args.root c.args.block c.split_put-rear.result (λ xs. insert_after xs c.args.block c.split_put-rear.result) =
    split_grows s s1 c.args.root p.at c.args.id c.args.block p.step p.edit p.is_edit p.growing p.up c.args.place p.beside c.split_put-rear.result r in
    split_keeps IsSpan s s1 c.args.block c.args.place c.args.id c.split_put-rear.result r c.split_put-rear.ensures.one grows.new_top
    (but_one IsSpan s c.args.block c.requires.one)

pub grow-top-requires-clause-last : goal.grow-top-requires-clause-last
grow-top-requires-clause-last g c =
    let p = c.requires.place in
    let s = c.args.arena.now in
    let s1 = c.split_put-rear.new.arena in
    let r = c.split_put-rear.ensures.splits in
    let grows : IsGrowing s1 c.args.root c.args.block c.split_put-rear.result (λ xs. insert_after xs c.args.block c.split_put-rear.result) =
    split_grows s s1 c.args.root p.at c.args.id c.args.block p.step p.edit p.is_edit p.growing p.up c.args.place p.beside c.split_put-rear.result r in
    split_keeps (SpansLast (g.P.Places.end_place c.args.places.now)) s s1 c.args.block c.args.place c.args.id c.split_put-rear.result r c.split_put-rear.ensures.last
    grows.new_top (but_one (SpansLast (g.P.Places.end_place c.args.places.now)) s c.args.block c.requires.last)

pub grow-top-requires-clause-known : goal.grow-top-requires-clause-known
grow-top-requires-clause-known g c =
    c.split_put-rear.ensures.known

pub grow-top-requires-clause-spare : goal.grow-top-requires-clause-spare
grow-top-requires-clause-spare g c =
    let p = c.requires.place in
    let s = c.args.arena.now in
    let s1 = c.split_put-rear.new.arena in
    let r = c.split_put-rear.ensures.splits in
    let root_apart = dead_apart (entry s) c.args.root c.split_put-rear.result (block_live (entry s c.args.root) p.growing.shape.root_is_block) r.fresh in
    let root_high : height_of s1 c.args.root ≡ height_of s c.args.root = kind_height (entry s c.args.root) (entry s1 c.args.root) (r.kinds c.args.root root_apart) in
    let block_apart = dead_apart (entry s) c.args.block c.split_put-rear.result (block_live (entry s c.args.block) (gr_block s c.args.root p.at c.args.id p.step p.edit
    p.is_edit p.growing c.args.block p.up)) r.fresh in
    let block_high : height_of s1 c.args.block ≡ height_of s c.args.block =
    kind_height (entry s c.args.block) (entry s1 c.args.block) (r.kinds c.args.block block_apart) in
    omega (
      arith,
      r.spare,
      c.requires.spare,
      root_high,
      block_high,
      gr_high s c.args.root p.at c.args.id p.step p.edit p.is_edit p.growing c.args.block p.up,
      gr_low s
          c.args.root p.at c.args.id p.step p.edit p.is_edit p.growing c.args.block p.up,
    )

pub grow-top-requires-clause-tall : goal.grow-top-requires-clause-tall
grow-top-requires-clause-tall g c =
    let p = c.requires.place in
    let s = c.args.arena.now in
    let s1 = c.split_put-rear.new.arena in
    let r = c.split_put-rear.ensures.splits in
    let root_apart = dead_apart (entry s) c.args.root c.split_put-rear.result (block_live (entry s c.args.root) p.growing.shape.root_is_block) r.fresh in
    let root_high : height_of s1 c.args.root ≡ height_of s c.args.root = kind_height (entry s c.args.root) (entry s1 c.args.root) (r.kinds c.args.root root_apart) in
    omega (arith, root_high, c.requires.tall)

pub rename_up-requires-clause-tree : goal.rename_up-requires-clause-tree
rename_up-requires-clause-tree g c =
    let p = c.requires.place in
    let s = c.args.arena.now in
    let s1 = c.put_child.new.self in
    let puts : PutsAt s s1 c.args.block c.args.place c.args.id =
    PutsAt-from s s1 c.args.block c.args.place c.args.id c.put_child.ensures.leaves c.put_child.ensures.puts c.put_child.ensures.sound in
    let tree : IsTree s1 c.args.root = put_tree s s1 c.args.root p.at c.args.id c.args.block p.step p.edit p.is_edit p.growing p.up c.args.place p.beside puts in
    whole_part s1 c.args.root tree

pub rename_up-requires-clause-block : goal.rename_up-requires-clause-block
rename_up-requires-clause-block g c =
    let p = c.requires.place in
    let s = c.args.arena.now in
    let s1 = c.put_child.new.self in
    let puts : PutsAt s s1 c.args.block c.args.place c.args.id =
    PutsAt-from s s1 c.args.block c.args.place c.args.id c.put_child.ensures.leaves c.put_child.ensures.puts c.put_child.ensures.sound in
    put_block s s1 c.args.root p.at c.args.id c.args.block p.step p.edit p.is_edit p.growing p.up c.args.place p.beside puts

pub rename_up-requires-clause-filled : goal.rename_up-requires-clause-filled
rename_up-requires-clause-filled g c =
    let p = c.requires.place in
    let s = c.args.arena.now in
    let s1 = c.put_child.new.self in
    let puts : PutsAt s s1 c.args.block c.args.place c.args.id =
    PutsAt-from s s1 c.args.block c.args.place c.args.id c.put_child.ensures.leaves c.put_child.ensures.puts c.put_child.ensures.sound in
    let tree : IsTree s1 c.args.root = put_tree s s1 c.args.root p.at c.args.id c.args.block p.step p.edit p.is_edit p.growing p.up c.args.place p.beside puts in
    tree_filled s1 c.args.root tree

pub rename_up-requires-clause-known : goal.rename_up-requires-clause-known
rename_up-requires-clause-known g c =
    let p = c.requires.place in
    let s = c.args.arena.now in
    let s1 = c.put_child.new.self in
    let puts : PutsAt s s1 c.args.block c.args.place c.args.id =
    PutsAt-from s s1 c.args.block c.args.place c.args.id c.put_child.ensures.leaves c.put_child.ensures.puts c.put_child.ensures.sound in
    put_known (g.P.Places.Knows c.args.places.now) s s1 puts.leaf_values puts.block_values c.requires.known

pub rename_up-requires-clause-one : goal.rename_up-requires-clause-one
rename_up-requires-clause-one g c =
    let p = c.requires.place in
    let s = c.args.arena.now in
    let s1 = c.put_child.new.self in
    let puts : PutsAt s s1 c.args.block c.args.place c.args.id =
    PutsAt-from s s1 c.args.block c.args.place c.args.id c.put_child.ensures.leaves c.put_child.ensures.puts c.put_child.ensures.sound in
    put_keeps IsSpan s s1 c.args.block c.args.place c.args.id puts (but_one IsSpan s c.args.block c.requires.one)

pub rename_up-requires-clause-last : goal.rename_up-requires-clause-last
rename_up-requires-clause-last g c =
    let p = c.requires.place in
    let s = c.args.arena.now in
    let s1 = c.put_child.new.self in
    let puts : PutsAt s s1 c.args.block c.args.place c.args.id =
    PutsAt-from s s1 c.args.block c.args.place c.args.id c.put_child.ensures.leaves c.put_child.ensures.puts c.put_child.ensures.sound in
    put_keeps (SpansLast (g.P.Places.end_place c.args.places.now)) s s1 c.args.block c.args.place c.args.id puts
    (but_one (SpansLast (g.P.Places.end_place c.args.places.now)) s c.args.block c.requires.last)

pub returns-then-place-eq0-clause-tree : goal.returns-then-place-eq0-clause-tree
returns-then-place-eq0-clause-tree g c =
    let p = c.requires.place in
    let s = c.args.arena.now in
    let s1 = c.put_child.new.self in
    let puts : PutsAt s s1 c.args.block c.args.place c.args.id =
    PutsAt-from s s1 c.args.block c.args.place c.args.id c.put_child.ensures.leaves c.put_child.ensures.puts c.put_child.ensures.sound in
    let tree : IsTree s1 c.args.root = put_tree s s1 c.args.root p.at c.args.id c.args.block p.step p.edit p.is_edit p.growing p.up c.args.place p.beside puts in
    SameShape-tree s1 c.rename_up.new.arena c.args.root tree c.rename_up.ensures.shape

pub returns-then-place-eq0-clause-leaves : goal.returns-then-place-eq0-clause-leaves
returns-then-place-eq0-clause-leaves g c =
    c.rename_up.ensures.shape.leaves ∙ c.put_child.ensures.leaves

pub returns-then-place-eq0-clause-leaf_values : goal.returns-then-place-eq0-clause-leaf_values
returns-then-place-eq0-clause-leaf_values g c =
    λ x. c.rename_up.ensures.shape.leaf_values x ∙ c.put_child.ensures.puts.leaf_values x

pub rename_up-requires-2-clause-tree : goal.rename_up-requires-2-clause-tree
rename_up-requires-2-clause-tree g c =
    whole_part c.grow-top.new.arena c.grow-top.result.0 c.grow-top.ensures.tree

pub rename_up-requires-2-clause-block : goal.rename_up-requires-2-clause-block
rename_up-requires-2-clause-block g c =
    c.grow-top.ensures.stale

pub rename_up-requires-2-clause-filled : goal.rename_up-requires-2-clause-filled
rename_up-requires-2-clause-filled g c =
    tree_filled c.grow-top.new.arena c.grow-top.result.0 c.grow-top.ensures.tree

pub rename_up-requires-2-clause-known : goal.rename_up-requires-2-clause-known
rename_up-requires-2-clause-known g c =
    c.grow-top.ensures.known

pub rename_up-requires-2-clause-one : goal.rename_up-requires-2-clause-one
rename_up-requires-2-clause-one g c =
    c.grow-top.ensures.one

pub rename_up-requires-2-clause-last : goal.rename_up-requires-2-clause-last
rename_up-requires-2-clause-last g c =
    c.grow-top.ensures.last

pub returns-clause-tree : goal.returns-clause-tree
returns-clause-tree g c =
    SameShape-tree c.grow-top.new.arena c.rename_up-2.new.arena c.grow-top.result.0 c.grow-top.ensures.tree c.rename_up-2.ensures.shape

pub returns-clause-leaves : goal.returns-clause-leaves
returns-clause-leaves g c =
    c.rename_up-2.ensures.shape.leaves ∙ c.grow-top.ensures.leaves ∙ c.split_put-rear.ensures.splits.leaves

pub returns-clause-leaf_values : goal.returns-clause-leaf_values
returns-clause-leaf_values g c =
    λ x. c.rename_up-2.ensures.shape.leaf_values x ∙ c.grow-top.ensures.leaf_values x ∙ c.split_put-rear.ensures.splits.leaf_values x
