use Rattle.std.proofs.Common.{insert, ◌≡◌, ◌+◌, ℕ, Some, None, refl, ap, sym, subst, ◌∙◌, arith}
use Rattle.ft_arena.specs.Forest.{entry, parent_of, kids_of}
use Rattle.ft_arena.specs.Ids.{insert_after}
use Rattle.ft_shape.specs.Tree.{height_of, length_of, total, IsGrowing, SumsBut}
use Rattle.ft_block.specs.Tree.{by_view, by_size}
use Rattle.ft_shape.proofs.EditLemmas.{after_is_edit, dead_apart}
use Rattle.ft_shape.proofs.KindLemmas.{kind_height, kind_is_height, block_live}
use Rattle.ft_shape.proofs.PutLemmas.{PutsAt-from}
use Rattle.ft_shape.proofs.GrowLemmas.{put_tree, put_sums, put_owes, put_block, split_grows, split_sums, split_owes, root_tree, root_sums, top_is_root}
use Rattle.ft_block.proofs.Floors.{put_floors}
use Rattle.ft_shape.proofs.FitLemmas.{leaf_total, gr_fits, gr_place, gr_high, gr_block, gr_low, gr_child, gr_root_fits}
use Rattle.ft_block.proofs.ViewLemmas.{all_fit}
use Rattle.ft_block.proofs.ExchangeLemmas.{no_own_child}
use Rattle.std.proofs.lemmas.Option.{slice_get_within}
use Rattle.std.proofs.lemmas.Result.{IfOk-from_err}
use Rattle.ft_block.proofs.grow.grow.Goals as goal

pub up-init : goal.up-init
up-init g c =
    record {
      growing = c.requires.growing;
      sums = c.requires.sums;
      owes = λ view more less k h. h;
      floors = c.requires.floors;
      spare = c.requires.spare;
      fits = c.requires.fits;
      tall = refl;
      leaves = refl;
      leaf_values = λ x. refl;
    }

pub returns-then-count-lt8-clause-tree : goal.returns-then-count-lt8-clause-tree
returns-then-count-lt8-clause-tree g c =
    let up : parent_of c.up.arena c.up.at ≡ Some c.in-Some.block = sym c.parent.ensures ∙ c.in-Some.is in
    let at_place : insert (kids_of c.up.arena c.in-Some.block) (c.child_place-place.result.0 + 1) c.up.id ≡ insert_after (kids_of c.up.arena c.in-Some.block) c.up.at
    c.up.id = gr_place c.up.arena c.args.root c.up.at c.up.id 1 (λ xs. insert_after xs c.up.at c.up.id) (after_is_edit c.up.at c.up.id) c.up.invariant.growing
    c.in-Some.block up c.child_place-place.result.0 c.child_place-place.ensures.place in
    let puts = PutsAt-from c.up.arena c.put_child.new.self c.in-Some.block (c.child_place-place.result.0 + 1) c.up.id c.put_child.ensures.leaves c.put_child.ensures.puts
    c.put_child.ensures.sound in
    put_tree c.up.arena c.put_child.new.self c.args.root c.up.at c.up.id c.in-Some.block 1 (λ xs. insert_after xs c.up.at c.up.id) (after_is_edit c.up.at c.up.id)
    c.up.invariant.growing up (c.child_place-place.result.0 + 1) at_place puts

pub returns-then-count-lt8-clause-stale : goal.returns-then-count-lt8-clause-stale
returns-then-count-lt8-clause-stale g c = λ b e.
    let up : parent_of c.up.arena c.up.at ≡ Some c.in-Some.block = sym c.parent.ensures ∙ c.in-Some.is in
    let at_place : insert (kids_of c.up.arena c.in-Some.block) (c.child_place-place.result.0 + 1) c.up.id ≡ insert_after (kids_of c.up.arena c.in-Some.block) c.up.at
    c.up.id = gr_place c.up.arena c.args.root c.up.at c.up.id 1 (λ xs. insert_after xs c.up.at c.up.id) (after_is_edit c.up.at c.up.id) c.up.invariant.growing
    c.in-Some.block up c.child_place-place.result.0 c.child_place-place.ensures.place in
    let puts = PutsAt-from c.up.arena c.put_child.new.self c.in-Some.block (c.child_place-place.result.0 + 1) c.up.id c.put_child.ensures.leaves c.put_child.ensures.puts
    c.put_child.ensures.sound in
    put_block c.up.arena c.put_child.new.self c.args.root c.up.at c.up.id c.in-Some.block 1 (λ xs. insert_after xs c.up.at c.up.id) (after_is_edit c.up.at c.up.id)
    c.up.invariant.growing up (c.child_place-place.result.0 + 1) at_place puts b e

pub returns-then-count-lt8-clause-sums : goal.returns-then-count-lt8-clause-sums
returns-then-count-lt8-clause-sums g c = λ view k.
    let up : parent_of c.up.arena c.up.at ≡ Some c.in-Some.block = sym c.parent.ensures ∙ c.in-Some.is in
    let at_place : insert (kids_of c.up.arena c.in-Some.block) (c.child_place-place.result.0 + 1) c.up.id ≡ insert_after (kids_of c.up.arena c.in-Some.block) c.up.at
    c.up.id = gr_place c.up.arena c.args.root c.up.at c.up.id 1 (λ xs. insert_after xs c.up.at c.up.id) (after_is_edit c.up.at c.up.id) c.up.invariant.growing
    c.in-Some.block up c.child_place-place.result.0 c.child_place-place.ensures.place in
    let puts = PutsAt-from c.up.arena c.put_child.new.self c.in-Some.block (c.child_place-place.result.0 + 1) c.up.id c.put_child.ensures.leaves c.put_child.ensures.puts
    c.put_child.ensures.sound in
    put_sums c.up.arena c.put_child.new.self c.args.root c.up.at c.up.id c.in-Some.block 1 (λ xs. insert_after xs c.up.at c.up.id) (after_is_edit c.up.at c.up.id)
    c.up.invariant.growing up (c.child_place-place.result.0 + 1) at_place puts (by_view g.L.Leaf.size g.L.Leaf.element view) (c.up.invariant.sums view k)

pub returns-then-count-lt8-clause-owes : goal.returns-then-count-lt8-clause-owes
returns-then-count-lt8-clause-owes g c = λ view more less k h.
    let up : parent_of c.up.arena c.up.at ≡ Some c.in-Some.block = sym c.parent.ensures ∙ c.in-Some.is in
    let at_place : insert (kids_of c.up.arena c.in-Some.block) (c.child_place-place.result.0 + 1) c.up.id ≡ insert_after (kids_of c.up.arena c.in-Some.block) c.up.at
    c.up.id = gr_place c.up.arena c.args.root c.up.at c.up.id 1 (λ xs. insert_after xs c.up.at c.up.id) (after_is_edit c.up.at c.up.id) c.up.invariant.growing
    c.in-Some.block up c.child_place-place.result.0 c.child_place-place.ensures.place in
    let puts = PutsAt-from c.up.arena c.put_child.new.self c.in-Some.block (c.child_place-place.result.0 + 1) c.up.id c.put_child.ensures.leaves c.put_child.ensures.puts
    c.put_child.ensures.sound in
    put_owes c.up.arena c.put_child.new.self c.args.root c.up.at c.up.id c.in-Some.block 1 (λ xs. insert_after xs c.up.at c.up.id) (after_is_edit c.up.at c.up.id)
    c.up.invariant.growing up (c.child_place-place.result.0 + 1) at_place puts (by_view g.L.Leaf.size g.L.Leaf.element view) more less
    (c.up.invariant.owes view more less k h)

pub returns-then-count-lt8-clause-floors : goal.returns-then-count-lt8-clause-floors
returns-then-count-lt8-clause-floors g c =
    let up : parent_of c.up.arena c.up.at ≡ Some c.in-Some.block = sym c.parent.ensures ∙ c.in-Some.is in
    let at_place : insert (kids_of c.up.arena c.in-Some.block) (c.child_place-place.result.0 + 1) c.up.id ≡ insert_after (kids_of c.up.arena c.in-Some.block) c.up.at
    c.up.id = gr_place c.up.arena c.args.root c.up.at c.up.id 1 (λ xs. insert_after xs c.up.at c.up.id) (after_is_edit c.up.at c.up.id) c.up.invariant.growing
    c.in-Some.block up c.child_place-place.result.0 c.child_place-place.ensures.place in
    let puts = PutsAt-from c.up.arena c.put_child.new.self c.in-Some.block (c.child_place-place.result.0 + 1) c.up.id c.put_child.ensures.leaves c.put_child.ensures.puts
    c.put_child.ensures.sound in
    put_floors c.up.arena c.put_child.new.self c.args.root c.up.at c.up.id c.in-Some.block 1 (λ xs. insert_after xs c.up.at c.up.id) (after_is_edit c.up.at c.up.id)
    c.up.invariant.growing up (c.child_place-place.result.0 + 1) at_place puts c.args.floor c.up.invariant.floors

pub returns-then-count-lt8-clause-leaf_values : goal.returns-then-count-lt8-clause-leaf_values
returns-then-count-lt8-clause-leaf_values g c = λ x. c.put_child.ensures.puts.leaf_values x ∙ c.up.invariant.leaf_values x

pub split_put-requires-clause-fits : goal.split_put-requires-clause-fits
split_put-requires-clause-fits g c = λ view k.
    let up : parent_of c.up.arena c.up.at ≡ Some c.in-Some.block = sym c.parent.ensures ∙ c.in-Some.is in
    let at_place : insert (kids_of c.up.arena c.in-Some.block) (c.child_place-place.result.0 + 1) c.up.id ≡ insert_after (kids_of c.up.arena c.in-Some.block) c.up.at
    c.up.id = gr_place c.up.arena c.args.root c.up.at c.up.id 1 (λ xs. insert_after xs c.up.at c.up.id) (after_is_edit c.up.at c.up.id) c.up.invariant.growing
    c.in-Some.block up c.child_place-place.result.0 c.child_place-place.ensures.place in
    omega (
      arith,
      gr_fits c.up.arena c.args.root c.up.at c.up.id 1 (λ xs. insert_after xs c.up.at c.up.id) (after_is_edit c.up.at c.up.id) c.up.invariant.growing
          c.in-Some.block up (by_view g.L.Leaf.size g.L.Leaf.element view) (c.up.invariant.sums view k),
      ap
          (total (length_of (by_view g.L.Leaf.size g.L.Leaf.element view) c.up.arena)) at_place,
      all_fit g.L.Leaf.size g.L.Leaf.element view c.up.arena
          c.up.invariant.growing.shape.forest,
      c.up.invariant.fits,
    )

pub up-preserved : goal.up-preserved
up-preserved g c =
    let up : parent_of c.up.arena c.up.at ≡ Some c.in-Some.block = sym c.parent.ensures ∙ c.in-Some.is in
    let at_place : insert (kids_of c.up.arena c.in-Some.block) (c.child_place-place.result.0 + 1) c.up.id ≡ insert_after (kids_of c.up.arena c.in-Some.block) c.up.at
    c.up.id = gr_place c.up.arena c.args.root c.up.at c.up.id 1 (λ xs. insert_after xs c.up.at c.up.id) (after_is_edit c.up.at c.up.id) c.up.invariant.growing
    c.in-Some.block up c.child_place-place.result.0 c.child_place-place.ensures.place in
    let s = c.up.arena in
    let s' = c.split_put.new.arena in
    let i = c.up.invariant in
    let r = c.in_ok-id.ensures.splits in
    let high : height_of s c.in-Some.block ≡ height_of s c.up.at + 1 =
    gr_high c.up.arena c.args.root c.up.at c.up.id 1 (λ xs. insert_after xs c.up.at c.up.id) (after_is_edit c.up.at c.up.id) c.up.invariant.growing
    c.in-Some.block up in
    let low = gr_low c.up.arena c.args.root c.up.at c.up.id 1 (λ xs. insert_after xs c.up.at c.up.id) (after_is_edit c.up.at c.up.id) c.up.invariant.growing c.in-Some.block up in
    let root_apart = dead_apart (entry s) c.args.root c.in_ok-id.id (block_live (entry s c.args.root) i.growing.shape.root_is_block) r.fresh in
    let block_apart = dead_apart (entry s) c.in-Some.block c.in_ok-id.id
    (block_live (entry s c.in-Some.block) (gr_block c.up.arena c.args.root c.up.at c.up.id 1 (λ xs. insert_after xs c.up.at c.up.id)
    (after_is_edit c.up.at c.up.id) c.up.invariant.growing c.in-Some.block up)) r.fresh in
    let root_high : height_of s' c.args.root ≡ height_of s c.args.root = kind_height (entry s c.args.root) (entry s' c.args.root) (r.kinds c.args.root root_apart) in
    let block_high : height_of s' c.in-Some.block ≡ height_of s c.in-Some.block =
    kind_height (entry s c.in-Some.block) (entry s' c.in-Some.block) (r.kinds c.in-Some.block block_apart) in
    record {
      growing = split_grows c.up.arena c.split_put.new.arena c.args.root c.up.at c.up.id c.in-Some.block 1 (λ xs. insert_after xs c.up.at c.up.id)
          (after_is_edit c.up.at c.up.id) c.up.invariant.growing up (c.child_place-place.result.0 + 1) at_place c.in_ok-id.id r;
      sums = λ view k. split_sums c.up.arena c.split_put.new.arena c.args.root c.up.at c.up.id c.in-Some.block 1 (λ xs. insert_after xs c.up.at c.up.id)
          (after_is_edit c.up.at c.up.id) c.up.invariant.growing up (c.child_place-place.result.0 + 1) at_place c.in_ok-id.id r (by_view g.L.Leaf.size g.L.Leaf.element view)
          (i.sums view k) (c.in_ok-id.ensures.sums view k);
      owes = λ view more less k h. split_owes c.up.arena c.split_put.new.arena c.args.root c.up.at c.up.id c.in-Some.block 1 (λ xs. insert_after xs c.up.at c.up.id)
          (after_is_edit c.up.at c.up.id) c.up.invariant.growing up (c.child_place-place.result.0 + 1) at_place c.in_ok-id.id r (by_view g.L.Leaf.size g.L.Leaf.element view)
          (i.sums view k) (c.in_ok-id.ensures.sums view k) more less (i.owes view more less k h);
      floors = c.in_ok-id.ensures.floors;
      spare = omega (arith, r.spare, i.spare, root_high, block_high, high, low);
      fits = omega (arith, i.fits, leaf_total (by_size g.L.Leaf.size) s s' i.growing.shape.forest r.leaves r.leaf_values);
      tall = root_high ∙ i.tall;
      leaves = r.leaves ∙ i.leaves;
      leaf_values = λ x. r.leaf_values x ∙ i.leaf_values x;
    }

pub root_over-requires-clause-fits : goal.root_over-requires-clause-fits
root_over-requires-clause-fits g c = λ view k.
    let e : c.up.at ≡ c.args.root = top_is_root c.up.arena c.args.root c.up.at c.up.id c.up.invariant.growing.shape c.up.invariant.growing.at_live
    c.up.invariant.growing.at_apart (sym c.parent.ensures ∙ c.in_default.is) in
    let grows : IsGrowing c.up.arena c.args.root c.args.root c.up.id (λ xs. insert_after xs c.args.root c.up.id) =
    subst (λ (z : ℕ). IsGrowing c.up.arena c.args.root z c.up.id (λ xs. insert_after xs z c.up.id)) e c.up.invariant.growing in
    let sums : SumsBut (by_view g.L.Leaf.size g.L.Leaf.element view) c.up.arena (parent_of c.up.arena c.args.root) =
    subst (λ (z : ℕ). SumsBut (by_view g.L.Leaf.size g.L.Leaf.element view) c.up.arena (parent_of c.up.arena z)) e (c.up.invariant.sums view k) in
    omega (
      arith,
      gr_root_fits (by_view g.L.Leaf.size g.L.Leaf.element view) c.up.arena c.args.root c.up.id grows sums,
      all_fit g.L.Leaf.size g.L.Leaf.element view
          c.up.arena c.up.invariant.growing.shape.forest,
      c.up.invariant.fits,
    )

pub returns-clause-tree : goal.returns-clause-tree
returns-clause-tree g c =
    let e : c.up.at ≡ c.args.root = top_is_root c.up.arena c.args.root c.up.at c.up.id c.up.invariant.growing.shape c.up.invariant.growing.at_live
    c.up.invariant.growing.at_apart (sym c.parent.ensures ∙ c.in_default.is) in
    let grows : IsGrowing c.up.arena c.args.root c.args.root c.up.id (λ xs. insert_after xs c.args.root c.up.id) =
    subst (λ (z : ℕ). IsGrowing c.up.arena c.args.root z c.up.id (λ xs. insert_after xs z c.up.id)) e c.up.invariant.growing in
    root_tree c.up.arena c.root_over.new.arena c.args.root c.up.id c.in_ok-top.top grows c.in_ok-top.ensures.roots

pub returns-clause-sums : goal.returns-clause-sums
returns-clause-sums g c = λ view k.
    let e : c.up.at ≡ c.args.root = top_is_root c.up.arena c.args.root c.up.at c.up.id c.up.invariant.growing.shape c.up.invariant.growing.at_live
    c.up.invariant.growing.at_apart (sym c.parent.ensures ∙ c.in_default.is) in
    let grows : IsGrowing c.up.arena c.args.root c.args.root c.up.id (λ xs. insert_after xs c.args.root c.up.id) =
    subst (λ (z : ℕ). IsGrowing c.up.arena c.args.root z c.up.id (λ xs. insert_after xs z c.up.id)) e c.up.invariant.growing in
    let sums : SumsBut (by_view g.L.Leaf.size g.L.Leaf.element view) c.up.arena (parent_of c.up.arena c.args.root) =
    subst (λ (z : ℕ). SumsBut (by_view g.L.Leaf.size g.L.Leaf.element view) c.up.arena (parent_of c.up.arena z)) e (c.up.invariant.sums view k) in
    root_sums c.up.arena c.root_over.new.arena c.args.root c.up.id c.in_ok-top.top grows c.in_ok-top.ensures.roots (by_view g.L.Leaf.size g.L.Leaf.element view) sums
    (c.in_ok-top.ensures.sums view k)

pub returns-clause-leaf_values : goal.returns-clause-leaf_values
returns-clause-leaf_values g c = λ x. c.in_ok-top.ensures.roots.leaf_values x ∙ c.up.invariant.leaf_values x

pub split_put-requires-clause-floors : goal.split_put-requires-clause-floors
split_put-requires-clause-floors g c = c.up.invariant.floors

pub root_over-requires-clause-floors : goal.root_over-requires-clause-floors
root_over-requires-clause-floors g c = c.up.invariant.floors

pub returns-clause-floors : goal.returns-clause-floors
returns-clause-floors g c = c.in_ok-top.ensures.floors

pub returns-clause-leaves : goal.returns-clause-leaves
returns-clause-leaves g c = c.in_ok-top.ensures.roots.leaves ∙ c.up.invariant.leaves

pub returns-then-count-lt8-clause-leaves : goal.returns-then-count-lt8-clause-leaves
returns-then-count-lt8-clause-leaves g c = c.put_child.ensures.leaves ∙ c.up.invariant.leaves

pub returns-clause-stale : goal.returns-clause-stale
returns-clause-stale g c = λ b e. cc

pub parent-requires : goal.parent-requires
parent-requires g c = c.up.invariant.growing.at_live

pub child_place-place-requires-clause-block : goal.child_place-place-requires-clause-block
child_place-place-requires-clause-block g c =
    gr_block c.up.arena c.args.root c.up.at c.up.id 1 (λ xs. insert_after xs c.up.at c.up.id) (after_is_edit c.up.at c.up.id)
    c.up.invariant.growing c.in-Some.block
    (sym c.parent.ensures ∙ c.in-Some.is)

pub child_place-place-requires-clause-child : goal.child_place-place-requires-clause-child
child_place-place-requires-clause-child g c = omega (
  arith,
  gr_child c.up.arena c.args.root c.up.at c.up.id 1 (λ xs. insert_after xs c.up.at c.up.id) (after_is_edit c.up.at c.up.id) c.up.invariant.growing
      c.in-Some.block
      (sym c.parent.ensures ∙ c.in-Some.is),
)

pub put_child-requires-clause-block : goal.put_child-requires-clause-block
put_child-requires-clause-block g c =
    gr_block c.up.arena c.args.root c.up.at c.up.id 1 (λ xs. insert_after xs c.up.at c.up.id) (after_is_edit c.up.at c.up.id)
    c.up.invariant.growing c.in-Some.block
    (sym c.parent.ensures ∙ c.in-Some.is)

pub put_child-requires-clause-child : goal.put_child-requires-clause-child
put_child-requires-clause-child g c = c.up.invariant.growing.new_live

pub put_child-requires-clause-at : goal.put_child-requires-clause-at
put_child-requires-clause-at g c =
    omega (arith, slice_get_within (kids_of c.up.arena c.in-Some.block) c.child_place-place.result.0 c.up.at c.child_place-place.ensures.place)

pub put_child-requires-clause-room : goal.put_child-requires-clause-room
put_child-requires-clause-room g c = omega (arith, c.child_place-place.ensures.count, c.if-count-lt8.true)

pub put_child-requires-clause-alone : goal.put_child-requires-clause-alone
put_child-requires-clause-alone g c = c.up.invariant.growing.new_top

pub put_child-requires-clause-differ : goal.put_child-requires-clause-differ
put_child-requires-clause-differ g c = λ e. omega (
  arith,
  ap (height_of c.up.arena) e,
  c.up.invariant.growing.level,
  c.up.invariant.growing.shape.heights c.up.at c.in-Some.block (sym c.parent.ensures ∙ c.in-Some.is),
)

pub split_put-requires-clause-forest : goal.split_put-requires-clause-forest
split_put-requires-clause-forest g c = c.up.invariant.growing.shape.forest

pub split_put-requires-clause-spare : goal.split_put-requires-clause-spare
split_put-requires-clause-spare g c = omega (arith, c.up.invariant.spare)

pub split_put-requires-clause-block : goal.split_put-requires-clause-block
split_put-requires-clause-block g c =
    gr_block c.up.arena c.args.root c.up.at c.up.id 1 (λ xs. insert_after xs c.up.at c.up.id) (after_is_edit c.up.at c.up.id)
    c.up.invariant.growing c.in-Some.block
    (sym c.parent.ensures ∙ c.in-Some.is)

pub split_put-requires-clause-place : goal.split_put-requires-clause-place
split_put-requires-clause-place g c = omega (
  arith,
  slice_get_within (kids_of c.up.arena c.in-Some.block) c.child_place-place.result.0 c.up.at c.child_place-place.ensures.place,
  c.up.invariant.growing.shape.forest.few c.in-Some.block,
)

pub split_put-requires-clause-full : goal.split_put-requires-clause-full
split_put-requires-clause-full g c =
    omega (arith, c.child_place-place.ensures.count, c.if-count-lt8.false, c.up.invariant.growing.shape.forest.few c.in-Some.block)

pub split_put-requires-clause-id : goal.split_put-requires-clause-id
split_put-requires-clause-id g c = c.up.invariant.growing.new_live

pub split_put-requires-clause-alone : goal.split_put-requires-clause-alone
split_put-requires-clause-alone g c = c.up.invariant.growing.new_top

pub split_put-requires-clause-apart : goal.split_put-requires-clause-apart
split_put-requires-clause-apart g c = no_own_child c.up.arena c.args.root (Some c.up.id) None c.up.invariant.growing.shape c.in-Some.block

pub split_put-requires-clause-differ : goal.split_put-requires-clause-differ
split_put-requires-clause-differ g c = λ e. omega (
  arith,
  ap (height_of c.up.arena) e,
  c.up.invariant.growing.level,
  c.up.invariant.growing.shape.heights c.up.at c.in-Some.block (sym c.parent.ensures ∙ c.in-Some.is),
)

pub up-smaller : goal.up-smaller
up-smaller g c =
    let up : parent_of c.up.arena c.up.at ≡ Some c.in-Some.block = sym c.parent.ensures ∙ c.in-Some.is in
    let s = c.up.arena in
    let i = c.up.invariant in
    let r = c.in_ok-id.ensures.splits in
    let block_apart = dead_apart (entry s) c.in-Some.block c.in_ok-id.id
    (block_live (entry s c.in-Some.block) (gr_block c.up.arena c.args.root c.up.at c.up.id 1 (λ xs. insert_after xs c.up.at c.up.id)
    (after_is_edit c.up.at c.up.id) c.up.invariant.growing c.in-Some.block up)) r.fresh in
    omega (
      arith,
      kind_height (entry s c.in-Some.block) (entry c.split_put.new.arena c.in-Some.block) (r.kinds c.in-Some.block block_apart),
      gr_high c.up.arena c.args.root c.up.at c.up.id 1 (λ xs. insert_after xs c.up.at c.up.id) (after_is_edit c.up.at c.up.id)
          c.up.invariant.growing c.in-Some.block up,
      gr_low c.up.arena c.args.root c.up.at c.up.id 1 (λ xs. insert_after xs c.up.at c.up.id) (after_is_edit c.up.at c.up.id)
          c.up.invariant.growing c.in-Some.block up,
      i.tall,
    )

pub height_at-height-requires : goal.height_at-height-requires
height_at-height-requires g c = c.up.invariant.growing.shape.root_is_block

pub root_over-requires-clause-forest : goal.root_over-requires-clause-forest
root_over-requires-clause-forest g c = c.up.invariant.growing.shape.forest

pub root_over-requires-clause-spare : goal.root_over-requires-clause-spare
root_over-requires-clause-spare g c = omega (arith, c.up.invariant.spare)

pub root_over-requires-clause-height : goal.root_over-requires-clause-height
root_over-requires-clause-height g c = omega (
  arith,
  kind_is_height (entry c.up.arena c.args.root) c.height_at-height.result
      c.height_at-height.ensures,
)

pub root_over-requires-clause-root : goal.root_over-requires-clause-root
root_over-requires-clause-root g c = block_live (entry c.up.arena c.args.root) c.up.invariant.growing.shape.root_is_block

pub root_over-requires-clause-id : goal.root_over-requires-clause-id
root_over-requires-clause-id g c = c.up.invariant.growing.new_live

pub root_over-requires-clause-root_alone : goal.root_over-requires-clause-root_alone
root_over-requires-clause-root_alone g c = c.up.invariant.growing.shape.root_is_top

pub root_over-requires-clause-id_alone : goal.root_over-requires-clause-id_alone
root_over-requires-clause-id_alone g c = c.up.invariant.growing.new_top

pub root_over-requires-clause-differ : goal.root_over-requires-clause-differ
root_over-requires-clause-differ g c = c.up.invariant.growing.new_apart

pub returns-clause-owes : goal.returns-clause-owes
returns-clause-owes g c = λ view more less k owes b e. cc e

pub overflow_add-place : goal.overflow_add-place
overflow_add-place g c =
    omega (
      arith,
      slice_get_within (kids_of c.up.arena c.in-Some.block) c.child_place-place.result.0 c.up.at c.child_place-place.ensures.place,
      c.child_place-place.ensures.count,
    )

pub overflow_add-place-in-Some : goal.overflow_add-place-in-Some
overflow_add-place-in-Some g c =
    omega (
      arith,
      slice_get_within (kids_of c.up.arena c.in-Some.block) c.child_place-place.result.0 c.up.at c.child_place-place.ensures.place,
      c.child_place-place.ensures.count,
    )

pub overflow_add-height : goal.overflow_add-height
overflow_add-height g c = omega (
  arith,
  kind_is_height (entry c.up.arena c.args.root) c.height_at-height.result c.height_at-height.ensures,
  c.up.invariant.tall,
  c.requires.tall,
)

pub returns-in_err-id : goal.returns-in_err-id
returns-in_err-id g c =
    let r = c.from_residual in
    record {
      tree = IfOk-from_err r.result _ r.ensures.0;
      stale = IfOk-from_err r.result _ r.ensures.0;
      sums = IfOk-from_err r.result _ r.ensures.0;
      owes = IfOk-from_err r.result _ r.ensures.0;
      floors = IfOk-from_err r.result _ r.ensures.0;
      leaves = IfOk-from_err r.result _ r.ensures.0;
      leaf_values = IfOk-from_err r.result _ r.ensures.0;
    }

pub returns-in_err-top : goal.returns-in_err-top
returns-in_err-top g c =
    let r = c.from_residual-in_err-top in
    record {
      tree = IfOk-from_err r.result _ r.ensures.0;
      stale = IfOk-from_err r.result _ r.ensures.0;
      sums = IfOk-from_err r.result _ r.ensures.0;
      owes = IfOk-from_err r.result _ r.ensures.0;
      floors = IfOk-from_err r.result _ r.ensures.0;
      leaves = IfOk-from_err r.result _ r.ensures.0;
      leaf_values = IfOk-from_err r.result _ r.ensures.0;
    }
