use Rattle.std.proofs.Common.{insert, ◌≡◌, ◌+◌, ℕ, Some, None, ap, sym, ◌∙◌, arith}
use Rattle.std.proofs.lemmas.Option.{slice_get_within}
use Rattle.std.proofs.lemmas.Result.{IfOk-weaker, on_ok_weaker, IfOk-from_err}
use Rattle.ft_arena.specs.Forest.{entry, parent_of, kids_of}
use Rattle.ft_shape.specs.Tree.{height_of, length_of, total, insert_before}
use Rattle.ft_block.specs.Tree.{by_view, by_size}
use Rattle.ft_shape.proofs.EditLemmas.{before_is_edit, dead_apart}
use Rattle.ft_shape.proofs.KindLemmas.{kind_height, block_live}
use Rattle.ft_shape.proofs.PutLemmas.{PutsAt-from}
use Rattle.ft_shape.proofs.GrowLemmas.{put_tree, put_sums, put_owes, put_block, split_grows, split_sums, split_owes, top_is_root}
use Rattle.ft_block.proofs.Floors.{put_floors}
use Rattle.ft_shape.proofs.FitLemmas.{leaf_total, gr_fits, gr_place, gr_high, gr_block, gr_low, gr_child}
use Rattle.ft_block.proofs.ViewLemmas.{all_fit}
use Rattle.ft_block.proofs.ExchangeLemmas.{no_own_child}
use Rattle.ft_block.proofs.grow.grow_front.Goals as goal

pub returns-then-count-lt8-clause-tree : goal.returns-then-count-lt8-clause-tree
returns-then-count-lt8-clause-tree g c =
    let up : parent_of c.args.arena.now c.args.at ≡ Some c.in-Some.block = sym c.parent.ensures ∙ c.in-Some.is in
    let e : c.child_place-place.result.0 + 0 ≡ c.child_place-place.result.0 = omega arith in
    let at_place : insert (kids_of c.args.arena.now c.in-Some.block) c.child_place-place.result.0 c.args.id ≡ insert_before (kids_of c.args.arena.now c.in-Some.block)
    c.args.at c.args.id = ap (λ (n : ℕ). insert (kids_of c.args.arena.now c.in-Some.block) n c.args.id) (sym e)
    ∙ gr_place c.args.arena.now c.args.root c.args.at c.args.id 0 (λ xs. insert_before xs c.args.at c.args.id) (before_is_edit c.args.at c.args.id)
    c.requires.growing c.in-Some.block up c.child_place-place.result.0 c.child_place-place.ensures.place in
    let puts = PutsAt-from c.args.arena.now c.put_child.new.self c.in-Some.block c.child_place-place.result.0 c.args.id c.put_child.ensures.leaves c.put_child.ensures.puts
    c.put_child.ensures.sound in
    put_tree c.args.arena.now c.put_child.new.self c.args.root c.args.at c.args.id c.in-Some.block 0 (λ xs. insert_before xs c.args.at c.args.id)
    (before_is_edit c.args.at c.args.id) c.requires.growing up c.child_place-place.result.0 at_place puts

pub returns-then-count-lt8-clause-stale : goal.returns-then-count-lt8-clause-stale
returns-then-count-lt8-clause-stale g c = λ b q.
    let up : parent_of c.args.arena.now c.args.at ≡ Some c.in-Some.block = sym c.parent.ensures ∙ c.in-Some.is in
    let e : c.child_place-place.result.0 + 0 ≡ c.child_place-place.result.0 = omega arith in
    let at_place : insert (kids_of c.args.arena.now c.in-Some.block) c.child_place-place.result.0 c.args.id ≡ insert_before (kids_of c.args.arena.now c.in-Some.block)
    c.args.at c.args.id = ap (λ (n : ℕ). insert (kids_of c.args.arena.now c.in-Some.block) n c.args.id) (sym e)
    ∙ gr_place c.args.arena.now c.args.root c.args.at c.args.id 0 (λ xs. insert_before xs c.args.at c.args.id) (before_is_edit c.args.at c.args.id)
    c.requires.growing c.in-Some.block up c.child_place-place.result.0 c.child_place-place.ensures.place in
    let puts = PutsAt-from c.args.arena.now c.put_child.new.self c.in-Some.block c.child_place-place.result.0 c.args.id c.put_child.ensures.leaves c.put_child.ensures.puts
    c.put_child.ensures.sound in
    put_block c.args.arena.now c.put_child.new.self c.args.root c.args.at c.args.id c.in-Some.block 0 (λ xs. insert_before xs c.args.at c.args.id)
    (before_is_edit c.args.at c.args.id) c.requires.growing up c.child_place-place.result.0 at_place puts b q

pub returns-then-count-lt8-clause-sums : goal.returns-then-count-lt8-clause-sums
returns-then-count-lt8-clause-sums g c = λ view k.
    let up : parent_of c.args.arena.now c.args.at ≡ Some c.in-Some.block = sym c.parent.ensures ∙ c.in-Some.is in
    let e : c.child_place-place.result.0 + 0 ≡ c.child_place-place.result.0 = omega arith in
    let at_place : insert (kids_of c.args.arena.now c.in-Some.block) c.child_place-place.result.0 c.args.id ≡ insert_before (kids_of c.args.arena.now c.in-Some.block)
    c.args.at c.args.id = ap (λ (n : ℕ). insert (kids_of c.args.arena.now c.in-Some.block) n c.args.id) (sym e)
    ∙ gr_place c.args.arena.now c.args.root c.args.at c.args.id 0 (λ xs. insert_before xs c.args.at c.args.id) (before_is_edit c.args.at c.args.id)
    c.requires.growing c.in-Some.block up c.child_place-place.result.0 c.child_place-place.ensures.place in
    let puts = PutsAt-from c.args.arena.now c.put_child.new.self c.in-Some.block c.child_place-place.result.0 c.args.id c.put_child.ensures.leaves c.put_child.ensures.puts
    c.put_child.ensures.sound in
    put_sums c.args.arena.now c.put_child.new.self c.args.root c.args.at c.args.id c.in-Some.block 0 (λ xs. insert_before xs c.args.at c.args.id)
    (before_is_edit c.args.at c.args.id) c.requires.growing up c.child_place-place.result.0 at_place puts (by_view g.L.Leaf.size g.L.Leaf.element view)
    (c.requires.sums view k)

pub returns-then-count-lt8-clause-owes : goal.returns-then-count-lt8-clause-owes
returns-then-count-lt8-clause-owes g c = λ view more less k h.
    let up : parent_of c.args.arena.now c.args.at ≡ Some c.in-Some.block = sym c.parent.ensures ∙ c.in-Some.is in
    let e : c.child_place-place.result.0 + 0 ≡ c.child_place-place.result.0 = omega arith in
    let at_place : insert (kids_of c.args.arena.now c.in-Some.block) c.child_place-place.result.0 c.args.id ≡ insert_before (kids_of c.args.arena.now c.in-Some.block)
    c.args.at c.args.id = ap (λ (n : ℕ). insert (kids_of c.args.arena.now c.in-Some.block) n c.args.id) (sym e)
    ∙ gr_place c.args.arena.now c.args.root c.args.at c.args.id 0 (λ xs. insert_before xs c.args.at c.args.id) (before_is_edit c.args.at c.args.id)
    c.requires.growing c.in-Some.block up c.child_place-place.result.0 c.child_place-place.ensures.place in
    let puts = PutsAt-from c.args.arena.now c.put_child.new.self c.in-Some.block c.child_place-place.result.0 c.args.id c.put_child.ensures.leaves c.put_child.ensures.puts
    c.put_child.ensures.sound in
    put_owes c.args.arena.now c.put_child.new.self c.args.root c.args.at c.args.id c.in-Some.block 0 (λ xs. insert_before xs c.args.at c.args.id)
    (before_is_edit c.args.at c.args.id) c.requires.growing up c.child_place-place.result.0 at_place puts (by_view g.L.Leaf.size g.L.Leaf.element view) more less h

pub returns-then-count-lt8-clause-floors : goal.returns-then-count-lt8-clause-floors
returns-then-count-lt8-clause-floors g c =
    let up : parent_of c.args.arena.now c.args.at ≡ Some c.in-Some.block = sym c.parent.ensures ∙ c.in-Some.is in
    let e : c.child_place-place.result.0 + 0 ≡ c.child_place-place.result.0 = omega arith in
    let at_place : insert (kids_of c.args.arena.now c.in-Some.block) c.child_place-place.result.0 c.args.id ≡ insert_before (kids_of c.args.arena.now c.in-Some.block)
    c.args.at c.args.id = ap (λ (n : ℕ). insert (kids_of c.args.arena.now c.in-Some.block) n c.args.id) (sym e)
    ∙ gr_place c.args.arena.now c.args.root c.args.at c.args.id 0 (λ xs. insert_before xs c.args.at c.args.id) (before_is_edit c.args.at c.args.id)
    c.requires.growing c.in-Some.block up c.child_place-place.result.0 c.child_place-place.ensures.place in
    let puts = PutsAt-from c.args.arena.now c.put_child.new.self c.in-Some.block c.child_place-place.result.0 c.args.id c.put_child.ensures.leaves c.put_child.ensures.puts
    c.put_child.ensures.sound in
    put_floors c.args.arena.now c.put_child.new.self c.args.root c.args.at c.args.id c.in-Some.block 0 (λ xs. insert_before xs c.args.at c.args.id)
    (before_is_edit c.args.at c.args.id) c.requires.growing up c.child_place-place.result.0 at_place puts c.args.floor c.requires.floors

pub split_put-requires-clause-place : goal.split_put-requires-clause-place
split_put-requires-clause-place g c = omega (
  arith,
  slice_get_within (kids_of c.args.arena.now c.in-Some.block) c.child_place-place.result.0 c.args.at
      c.child_place-place.ensures.place,
  c.requires.growing.shape.forest.few c.in-Some.block,
)

pub split_put-requires-clause-fits : goal.split_put-requires-clause-fits
split_put-requires-clause-fits g c = λ view k.
    let up : parent_of c.args.arena.now c.args.at ≡ Some c.in-Some.block = sym c.parent.ensures ∙ c.in-Some.is in
    let e : c.child_place-place.result.0 + 0 ≡ c.child_place-place.result.0 = omega arith in
    let at_place : insert (kids_of c.args.arena.now c.in-Some.block) c.child_place-place.result.0 c.args.id ≡ insert_before (kids_of c.args.arena.now c.in-Some.block)
    c.args.at c.args.id = ap (λ (n : ℕ). insert (kids_of c.args.arena.now c.in-Some.block) n c.args.id) (sym e)
    ∙ gr_place c.args.arena.now c.args.root c.args.at c.args.id 0 (λ xs. insert_before xs c.args.at c.args.id) (before_is_edit c.args.at c.args.id)
    c.requires.growing c.in-Some.block up c.child_place-place.result.0 c.child_place-place.ensures.place in
    omega (
      arith,
      gr_fits c.args.arena.now c.args.root c.args.at c.args.id 0 (λ xs. insert_before xs c.args.at c.args.id) (before_is_edit c.args.at c.args.id)
          c.requires.growing c.in-Some.block up (by_view g.L.Leaf.size g.L.Leaf.element view) (c.requires.sums view k),
      ap
          (total (length_of (by_view g.L.Leaf.size g.L.Leaf.element view) c.args.arena.now)) at_place,
      all_fit g.L.Leaf.size g.L.Leaf.element view c.args.arena.now
          c.requires.growing.shape.forest,
      c.requires.fits,
    )

pub grow-requires-clause-growing : goal.grow-requires-clause-growing
grow-requires-clause-growing g c =
    let up : parent_of c.args.arena.now c.args.at ≡ Some c.in-Some.block = sym c.parent.ensures ∙ c.in-Some.is in
    let e : c.child_place-place.result.0 + 0 ≡ c.child_place-place.result.0 = omega arith in
    let at_place : insert (kids_of c.args.arena.now c.in-Some.block) c.child_place-place.result.0 c.args.id ≡ insert_before (kids_of c.args.arena.now c.in-Some.block)
    c.args.at c.args.id = ap (λ (n : ℕ). insert (kids_of c.args.arena.now c.in-Some.block) n c.args.id) (sym e)
    ∙ gr_place c.args.arena.now c.args.root c.args.at c.args.id 0 (λ xs. insert_before xs c.args.at c.args.id) (before_is_edit c.args.at c.args.id)
    c.requires.growing c.in-Some.block up c.child_place-place.result.0 c.child_place-place.ensures.place in
    split_grows c.args.arena.now c.split_put.new.arena c.args.root c.args.at c.args.id c.in-Some.block 0 (λ xs. insert_before xs c.args.at c.args.id)
    (before_is_edit c.args.at c.args.id) c.requires.growing up c.child_place-place.result.0 at_place c.in_ok-rear.rear c.in_ok-rear.ensures.splits

pub grow-requires-clause-sums : goal.grow-requires-clause-sums
grow-requires-clause-sums g c = λ view k.
    let up : parent_of c.args.arena.now c.args.at ≡ Some c.in-Some.block = sym c.parent.ensures ∙ c.in-Some.is in
    let e : c.child_place-place.result.0 + 0 ≡ c.child_place-place.result.0 = omega arith in
    let at_place : insert (kids_of c.args.arena.now c.in-Some.block) c.child_place-place.result.0 c.args.id ≡ insert_before (kids_of c.args.arena.now c.in-Some.block)
    c.args.at c.args.id = ap (λ (n : ℕ). insert (kids_of c.args.arena.now c.in-Some.block) n c.args.id) (sym e)
    ∙ gr_place c.args.arena.now c.args.root c.args.at c.args.id 0 (λ xs. insert_before xs c.args.at c.args.id) (before_is_edit c.args.at c.args.id)
    c.requires.growing c.in-Some.block up c.child_place-place.result.0 c.child_place-place.ensures.place in
    split_sums c.args.arena.now c.split_put.new.arena c.args.root c.args.at c.args.id c.in-Some.block 0 (λ xs. insert_before xs c.args.at c.args.id)
    (before_is_edit c.args.at c.args.id) c.requires.growing up c.child_place-place.result.0 at_place c.in_ok-rear.rear c.in_ok-rear.ensures.splits
    (by_view g.L.Leaf.size g.L.Leaf.element view) (c.requires.sums view k) (c.in_ok-rear.ensures.sums view k)

pub grow-requires-clause-fits : goal.grow-requires-clause-fits
grow-requires-clause-fits g c =
    omega (
      arith,
      c.requires.fits,
      leaf_total (by_size g.L.Leaf.size) c.args.arena.now c.split_put.new.arena c.requires.growing.shape.forest
          c.in_ok-rear.ensures.splits.leaves c.in_ok-rear.ensures.splits.leaf_values,
    )

pub returns-clause-owes : goal.returns-clause-owes
returns-clause-owes g c =
    IfOk-weaker c.grow.result _ _ (λ r grown view more less k h.
    let up : parent_of c.args.arena.now c.args.at ≡ Some c.in-Some.block = sym c.parent.ensures ∙ c.in-Some.is in
    let e : c.child_place-place.result.0 + 0 ≡ c.child_place-place.result.0 = omega arith in
    let at_place : insert (kids_of c.args.arena.now c.in-Some.block) c.child_place-place.result.0 c.args.id ≡ insert_before (kids_of c.args.arena.now c.in-Some.block)
    c.args.at c.args.id = ap (λ (n : ℕ). insert (kids_of c.args.arena.now c.in-Some.block) n c.args.id) (sym e)
    ∙ gr_place c.args.arena.now c.args.root c.args.at c.args.id 0 (λ xs. insert_before xs c.args.at c.args.id) (before_is_edit c.args.at c.args.id)
    c.requires.growing c.in-Some.block up c.child_place-place.result.0 c.child_place-place.ensures.place in
    grown view more less k (split_owes c.args.arena.now c.split_put.new.arena c.args.root c.args.at c.args.id c.in-Some.block 0
    (λ xs. insert_before xs c.args.at c.args.id) (before_is_edit c.args.at c.args.id) c.requires.growing up c.child_place-place.result.0 at_place c.in_ok-rear.rear
    c.in_ok-rear.ensures.splits (by_view g.L.Leaf.size g.L.Leaf.element view) (c.requires.sums view k) (c.in_ok-rear.ensures.sums view k) more less h))
    c.grow.ensures.owes

pub returns-clause-leaves : goal.returns-clause-leaves
returns-clause-leaves g c = on_ok_weaker c.grow.result (λ e. e ∙ c.in_ok-rear.ensures.splits.leaves) c.grow.ensures.leaves

pub returns-clause-leaf_values : goal.returns-clause-leaf_values
returns-clause-leaf_values g c = on_ok_weaker c.grow.result (λ e x. e x ∙ c.in_ok-rear.ensures.splits.leaf_values x) c.grow.ensures.leaf_values

pub split_put-requires-clause-floors : goal.split_put-requires-clause-floors
split_put-requires-clause-floors g c = c.requires.floors

pub grow-requires-clause-floors : goal.grow-requires-clause-floors
grow-requires-clause-floors g c = c.in_ok-rear.ensures.floors

pub returns-clause-tree : goal.returns-clause-tree
returns-clause-tree g c = c.grow.ensures.tree

pub returns-clause-stale : goal.returns-clause-stale
returns-clause-stale g c = c.grow.ensures.stale

pub returns-clause-sums : goal.returns-clause-sums
returns-clause-sums g c = c.grow.ensures.sums

pub returns-clause-floors : goal.returns-clause-floors
returns-clause-floors g c = c.grow.ensures.floors

pub returns-then-count-lt8-clause-leaves : goal.returns-then-count-lt8-clause-leaves
returns-then-count-lt8-clause-leaves g c = c.put_child.ensures.leaves

pub parent-requires : goal.parent-requires
parent-requires g c = c.requires.growing.at_live

pub unreachable-requires : goal.unreachable-requires
unreachable-requires g c = c.requires.apart (top_is_root c.args.arena.now c.args.root c.args.at c.args.id c.requires.growing.shape
    c.requires.growing.at_live
    c.requires.growing.at_apart (sym c.parent.ensures ∙ c.in_default.is))

pub child_place-place-requires-clause-block : goal.child_place-place-requires-clause-block
child_place-place-requires-clause-block g c =
    gr_block c.args.arena.now c.args.root c.args.at c.args.id 0 (λ xs. insert_before xs c.args.at c.args.id) (before_is_edit c.args.at c.args.id)
    c.requires.growing c.in-Some.block (sym c.parent.ensures ∙ c.in-Some.is)

pub child_place-place-requires-clause-child : goal.child_place-place-requires-clause-child
child_place-place-requires-clause-child g c = omega (
  arith,
  gr_child c.args.arena.now c.args.root c.args.at c.args.id 0 (λ xs. insert_before xs c.args.at c.args.id) (before_is_edit c.args.at c.args.id)
      c.requires.growing c.in-Some.block (sym c.parent.ensures ∙ c.in-Some.is),
)

pub put_child-requires-clause-block : goal.put_child-requires-clause-block
put_child-requires-clause-block g c =
    gr_block c.args.arena.now c.args.root c.args.at c.args.id 0 (λ xs. insert_before xs c.args.at c.args.id) (before_is_edit c.args.at c.args.id)
    c.requires.growing c.in-Some.block (sym c.parent.ensures ∙ c.in-Some.is)

pub put_child-requires-clause-child : goal.put_child-requires-clause-child
put_child-requires-clause-child g c = c.requires.growing.new_live

pub put_child-requires-clause-at : goal.put_child-requires-clause-at
put_child-requires-clause-at g c =
    omega (
      arith,
      slice_get_within (kids_of c.args.arena.now c.in-Some.block) c.child_place-place.result.0 c.args.at
          c.child_place-place.ensures.place,
    )

pub put_child-requires-clause-room : goal.put_child-requires-clause-room
put_child-requires-clause-room g c = omega (arith, c.child_place-place.ensures.count, c.if-count-lt8.true)

pub put_child-requires-clause-alone : goal.put_child-requires-clause-alone
put_child-requires-clause-alone g c = c.requires.growing.new_top

pub put_child-requires-clause-differ : goal.put_child-requires-clause-differ
put_child-requires-clause-differ g c = λ e. omega (
  arith,
  ap (height_of c.args.arena.now) e,
  c.requires.growing.level,
  c.requires.growing.shape.heights c.args.at c.in-Some.block (sym c.parent.ensures ∙ c.in-Some.is),
)

pub split_put-requires-clause-forest : goal.split_put-requires-clause-forest
split_put-requires-clause-forest g c = c.requires.growing.shape.forest

pub split_put-requires-clause-spare : goal.split_put-requires-clause-spare
split_put-requires-clause-spare g c = omega (arith, c.requires.spare)

pub split_put-requires-clause-block : goal.split_put-requires-clause-block
split_put-requires-clause-block g c =
    gr_block c.args.arena.now c.args.root c.args.at c.args.id 0 (λ xs. insert_before xs c.args.at c.args.id) (before_is_edit c.args.at c.args.id)
    c.requires.growing c.in-Some.block (sym c.parent.ensures ∙ c.in-Some.is)

pub split_put-requires-clause-full : goal.split_put-requires-clause-full
split_put-requires-clause-full g c =
    omega (arith, c.child_place-place.ensures.count, c.if-count-lt8.false, c.requires.growing.shape.forest.few c.in-Some.block)

pub split_put-requires-clause-id : goal.split_put-requires-clause-id
split_put-requires-clause-id g c = c.requires.growing.new_live

pub split_put-requires-clause-alone : goal.split_put-requires-clause-alone
split_put-requires-clause-alone g c = c.requires.growing.new_top

pub split_put-requires-clause-apart : goal.split_put-requires-clause-apart
split_put-requires-clause-apart g c = no_own_child c.args.arena.now c.args.root (Some c.args.id) None c.requires.growing.shape c.in-Some.block

pub split_put-requires-clause-differ : goal.split_put-requires-clause-differ
split_put-requires-clause-differ g c = λ e. omega (
  arith,
  ap (height_of c.args.arena.now) e,
  c.requires.growing.level,
  c.requires.growing.shape.heights c.args.at c.in-Some.block (sym c.parent.ensures ∙ c.in-Some.is),
)

pub grow-requires-clause-spare : goal.grow-requires-clause-spare
grow-requires-clause-spare g c =
    let up : parent_of c.args.arena.now c.args.at ≡ Some c.in-Some.block = sym c.parent.ensures ∙ c.in-Some.is in
    let s = c.args.arena.now in
    let s' = c.split_put.new.arena in
    let r = c.in_ok-rear.ensures.splits in
    let root_apart = dead_apart (entry s) c.args.root c.in_ok-rear.rear (block_live (entry s c.args.root)
    c.requires.growing.shape.root_is_block) r.fresh in
    let block_apart = dead_apart (entry s) c.in-Some.block c.in_ok-rear.rear
    (block_live (entry s c.in-Some.block)
    (gr_block c.args.arena.now c.args.root c.args.at c.args.id 0 (λ xs. insert_before xs c.args.at c.args.id)
    (before_is_edit c.args.at c.args.id) c.requires.growing c.in-Some.block up)) r.fresh in
    omega (
      arith,
      r.spare,
      c.requires.spare,
      kind_height (entry s c.args.root) (entry s' c.args.root) (r.kinds c.args.root root_apart),
      kind_height (entry s c.in-Some.block) (entry s' c.in-Some.block) (r.kinds c.in-Some.block block_apart),
      gr_high c.args.arena.now c.args.root c.args.at c.args.id 0 (λ xs. insert_before xs c.args.at c.args.id) (before_is_edit c.args.at c.args.id)
          c.requires.growing c.in-Some.block up,
      gr_low c.args.arena.now c.args.root c.args.at c.args.id 0 (λ xs. insert_before xs c.args.at c.args.id) (before_is_edit c.args.at c.args.id)
          c.requires.growing c.in-Some.block up,
    )

pub grow-requires-clause-tall : goal.grow-requires-clause-tall
grow-requires-clause-tall g c =
    let s = c.args.arena.now in
    let r = c.in_ok-rear.ensures.splits in
    let root_apart = dead_apart (entry s) c.args.root c.in_ok-rear.rear (block_live (entry s c.args.root)
    c.requires.growing.shape.root_is_block) r.fresh in
    omega (arith, c.requires.tall, kind_height (entry s c.args.root) (entry c.split_put.new.arena c.args.root) (r.kinds c.args.root root_apart))

pub returns-then-count-lt8-clause-leaf_values : goal.returns-then-count-lt8-clause-leaf_values
returns-then-count-lt8-clause-leaf_values g c = c.put_child.ensures.puts.leaf_values

pub returns-in_err-rear : goal.returns-in_err-rear
returns-in_err-rear g c =
    let r = c.from_residual in
    record {
      tree = IfOk-from_err r.result _ r.ensures.0;
      stale = IfOk-from_err r.result _ r.ensures.0;
      sums = IfOk-from_err r.result _ r.ensures.0;
      owes = IfOk-from_err r.result _ r.ensures.0;
      floors = IfOk-from_err r.result _ r.ensures.0;
      leaves = IfOk-from_err r.result _ r.ensures.0;
      leaf_values = IfOk-from_err r.result _ r.ensures.0;
    }
