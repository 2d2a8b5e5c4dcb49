use Rattle.std.proofs.Common.{insert, ◌≡◌, ◌+◌, ℕ, Option, Some, refl, sym, subst, ◌∙◌, arith}
use Rattle.ft_arena.specs.Forest.{entry, parent_of, kids_of}
use Rattle.ft_arena.specs.Ids.{insert_after}
use Rattle.ft_shape.specs.Tree.{height_of, IsGrowing}
use Rattle.ft_shape.specs.Told.{KeepsBut}
use Rattle.ft_shape.proofs.EditLemmas.{after_is_edit, dead_apart}
use Rattle.ft_shape.proofs.KindLemmas.{kind_height, block_live}
use Rattle.ft_shape.proofs.PutLemmas.{PutsAt-from}
use Rattle.ft_shape.proofs.GrowLemmas.{put_tree, put_block, split_grows, root_tree, top_is_root}
use Rattle.ft_shape.proofs.FitLemmas.{gr_place, gr_high, gr_block, gr_low}
use Rattle.ft_shape.proofs.ToldLemmas.{put_keeps, split_keeps, root_keeps}
use Rattle.ft_overlap.specs.Inside.{IsSpan, SpansLast}
use Rattle.ft_overlap.proofs.Halved.{put_known}
use Rattle.ft_overlap.proofs.grow.grow.Goals as goal

pub up-init : goal.up-init
up-init g c =
    record {
      growing = c.requires.growing;
      one = c.requires.one;
      last = c.requires.last;
      known = c.requires.known;
      spare = c.requires.spare;
      tall = refl;
      leaves = refl;
      leaf_values = λ x. refl;
    }

pub returns-then-count-lt8-clause-tree : goal.returns-then-count-lt8-clause-tree
returns-then-count-lt8-clause-tree g c =
    let up : parent_of c.up.arena c.up.at ≡ Some c.in-Some.block = sym c.parent.ensures ∙ c.in-Some.is in
    let at_place : insert (kids_of c.up.arena c.in-Some.block) (c.child_place-place.result.0 + 1) c.up.id ≡ insert_after (kids_of c.up.arena c.in-Some.block) c.up.at
    c.up.id = gr_place c.up.arena c.args.root c.up.at c.up.id 1 (λ xs. insert_after xs c.up.at c.up.id) (after_is_edit c.up.at c.up.id) c.up.invariant.growing
    c.in-Some.block up c.child_place-place.result.0 c.child_place-place.ensures.place in
    let puts = PutsAt-from c.up.arena c.put_child.new.self c.in-Some.block (c.child_place-place.result.0 + 1) c.up.id c.put_child.ensures.leaves c.put_child.ensures.puts
    c.put_child.ensures.sound in
    put_tree c.up.arena c.put_child.new.self c.args.root c.up.at c.up.id c.in-Some.block 1 (λ xs. insert_after xs c.up.at c.up.id) (after_is_edit c.up.at c.up.id)
    c.up.invariant.growing up (c.child_place-place.result.0 + 1) at_place puts

pub returns-then-count-lt8-clause-stale : goal.returns-then-count-lt8-clause-stale
returns-then-count-lt8-clause-stale g c =
    λ b q.
    let up : parent_of c.up.arena c.up.at ≡ Some c.in-Some.block = sym c.parent.ensures ∙ c.in-Some.is in
    let at_place : insert (kids_of c.up.arena c.in-Some.block) (c.child_place-place.result.0 + 1) c.up.id ≡ insert_after (kids_of c.up.arena c.in-Some.block) c.up.at
    c.up.id = gr_place c.up.arena c.args.root c.up.at c.up.id 1 (λ xs. insert_after xs c.up.at c.up.id) (after_is_edit c.up.at c.up.id) c.up.invariant.growing
    c.in-Some.block up c.child_place-place.result.0 c.child_place-place.ensures.place in
    let puts = PutsAt-from c.up.arena c.put_child.new.self c.in-Some.block (c.child_place-place.result.0 + 1) c.up.id c.put_child.ensures.leaves c.put_child.ensures.puts
    c.put_child.ensures.sound in
    put_block c.up.arena c.put_child.new.self c.args.root c.up.at c.up.id c.in-Some.block 1 (λ xs. insert_after xs c.up.at c.up.id) (after_is_edit c.up.at c.up.id)
    c.up.invariant.growing up (c.child_place-place.result.0 + 1) at_place puts b q

pub returns-then-count-lt8-clause-one : goal.returns-then-count-lt8-clause-one
returns-then-count-lt8-clause-one g c =
    let up : parent_of c.up.arena c.up.at ≡ Some c.in-Some.block = sym c.parent.ensures ∙ c.in-Some.is in
    let at_place : insert (kids_of c.up.arena c.in-Some.block) (c.child_place-place.result.0 + 1) c.up.id ≡ insert_after (kids_of c.up.arena c.in-Some.block) c.up.at
    c.up.id = gr_place c.up.arena c.args.root c.up.at c.up.id 1 (λ xs. insert_after xs c.up.at c.up.id) (after_is_edit c.up.at c.up.id) c.up.invariant.growing
    c.in-Some.block up c.child_place-place.result.0 c.child_place-place.ensures.place in
    let puts = PutsAt-from c.up.arena c.put_child.new.self c.in-Some.block (c.child_place-place.result.0 + 1) c.up.id c.put_child.ensures.leaves c.put_child.ensures.puts
    c.put_child.ensures.sound in
    put_keeps IsSpan c.up.arena c.put_child.new.self c.in-Some.block (c.child_place-place.result.0 + 1) c.up.id puts
    (subst (λ (o : Option ℕ). KeepsBut IsSpan c.up.arena o) up c.up.invariant.one)

pub returns-then-count-lt8-clause-last : goal.returns-then-count-lt8-clause-last
returns-then-count-lt8-clause-last g c =
    let up : parent_of c.up.arena c.up.at ≡ Some c.in-Some.block = sym c.parent.ensures ∙ c.in-Some.is in
    let at_place : insert (kids_of c.up.arena c.in-Some.block) (c.child_place-place.result.0 + 1) c.up.id ≡ insert_after (kids_of c.up.arena c.in-Some.block) c.up.at
    c.up.id = gr_place c.up.arena c.args.root c.up.at c.up.id 1 (λ xs. insert_after xs c.up.at c.up.id) (after_is_edit c.up.at c.up.id) c.up.invariant.growing
    c.in-Some.block up c.child_place-place.result.0 c.child_place-place.ensures.place in
    let puts = PutsAt-from c.up.arena c.put_child.new.self c.in-Some.block (c.child_place-place.result.0 + 1) c.up.id c.put_child.ensures.leaves c.put_child.ensures.puts
    c.put_child.ensures.sound in
    put_keeps (SpansLast (g.P.Places.end_place c.args.places.now)) c.up.arena c.put_child.new.self c.in-Some.block (c.child_place-place.result.0 + 1) c.up.id puts (subst (λ (o : Option ℕ). KeepsBut (SpansLast (g.P.Places.end_place c.args.places.now)) c.up.arena o) up c.up.invariant.last)

pub returns-then-count-lt8-clause-known : goal.returns-then-count-lt8-clause-known
returns-then-count-lt8-clause-known g c =
    put_known (g.P.Places.Knows c.args.places.now) c.up.arena c.put_child.new.self c.put_child.ensures.puts.leaf_values c.put_child.ensures.puts.block_values c.up.invariant.known

pub returns-then-count-lt8-clause-leaves : goal.returns-then-count-lt8-clause-leaves
returns-then-count-lt8-clause-leaves g c =
    c.put_child.ensures.leaves ∙ c.up.invariant.leaves

pub returns-then-count-lt8-clause-leaf_values : goal.returns-then-count-lt8-clause-leaf_values
returns-then-count-lt8-clause-leaf_values g c =
    λ x. c.put_child.ensures.puts.leaf_values x ∙ c.up.invariant.leaf_values x

pub up-preserved : goal.up-preserved
up-preserved g c =
    let up : parent_of c.up.arena c.up.at ≡ Some c.in-Some.block = sym c.parent.ensures ∙ c.in-Some.is in
    let at_place : insert (kids_of c.up.arena c.in-Some.block) (c.child_place-place.result.0 + 1) c.up.id ≡ insert_after (kids_of c.up.arena c.in-Some.block) c.up.at
    c.up.id = gr_place c.up.arena c.args.root c.up.at c.up.id 1 (λ xs. insert_after xs c.up.at c.up.id) (after_is_edit c.up.at c.up.id) c.up.invariant.growing
    c.in-Some.block up c.child_place-place.result.0 c.child_place-place.ensures.place in
    let s = c.up.arena in
    let s' = c.split_put-id.new.arena in
    let i = c.up.invariant in
    let r = c.split_put-id.ensures.splits in
    let high : height_of s c.in-Some.block ≡ height_of s c.up.at + 1 =
    gr_high c.up.arena c.args.root c.up.at c.up.id 1 (λ xs. insert_after xs c.up.at c.up.id) (after_is_edit c.up.at c.up.id)
    c.up.invariant.growing c.in-Some.block up in
    let low = gr_low c.up.arena c.args.root c.up.at c.up.id 1 (λ xs. insert_after xs c.up.at c.up.id) (after_is_edit c.up.at c.up.id) c.up.invariant.growing c.in-Some.block up in
    let root_apart = dead_apart (entry s) c.args.root c.split_put-id.result (block_live (entry s c.args.root) i.growing.shape.root_is_block) r.fresh in
    let block_apart = dead_apart (entry s) c.in-Some.block c.split_put-id.result (block_live (entry s c.in-Some.block) (gr_block c.up.arena c.args.root c.up.at c.up.id 1 (λ xs. insert_after xs c.up.at c.up.id) (after_is_edit c.up.at c.up.id) c.up.invariant.growing c.in-Some.block up)) r.fresh in
    let root_high : height_of s' c.args.root ≡ height_of s c.args.root = kind_height (entry s c.args.root) (entry s' c.args.root) (r.kinds c.args.root root_apart) in
    let block_high : height_of s' c.in-Some.block ≡ height_of s c.in-Some.block =
    kind_height (entry s c.in-Some.block) (entry s' c.in-Some.block) (r.kinds c.in-Some.block block_apart) in
    let grows : IsGrowing s' c.args.root c.in-Some.block c.split_put-id.result (λ xs. insert_after xs c.in-Some.block c.split_put-id.result) = split_grows c.up.arena c.split_put-id.new.arena c.args.root c.up.at c.up.id c.in-Some.block 1 (λ xs. insert_after xs c.up.at c.up.id) (after_is_edit c.up.at c.up.id) c.up.invariant.growing up (c.child_place-place.result.0 + 1) at_place c.split_put-id.result r in
    record {
      growing = grows;
      one = split_keeps IsSpan s s' c.in-Some.block (c.child_place-place.result.0 + 1) c.up.id c.split_put-id.result r c.split_put-id.ensures.one grows.new_top
          (subst (λ (o : Option ℕ). KeepsBut IsSpan s o) up i.one);
      last = split_keeps (SpansLast (g.P.Places.end_place c.args.places.now)) s s' c.in-Some.block (c.child_place-place.result.0 + 1)
          c.up.id c.split_put-id.result r c.split_put-id.ensures.last grows.new_top
          (subst (λ (o : Option ℕ). KeepsBut (SpansLast (g.P.Places.end_place c.args.places.now)) s o) up i.last);
      known = c.split_put-id.ensures.known;
      spare = omega (arith, r.spare, i.spare, root_high, block_high, high, low);
      tall = root_high ∙ i.tall;
      leaves = r.leaves ∙ i.leaves;
      leaf_values = λ x. r.leaf_values x ∙ i.leaf_values x;
    }

pub returns-clause-tree : goal.returns-clause-tree
returns-clause-tree g c =
    let e : c.up.at ≡ c.args.root = top_is_root c.up.arena c.args.root c.up.at c.up.id c.up.invariant.growing.shape c.up.invariant.growing.at_live
    c.up.invariant.growing.at_apart (sym c.parent.ensures ∙ c.in_default.is) in
    let grows : IsGrowing c.up.arena c.args.root c.args.root c.up.id (λ xs. insert_after xs c.args.root c.up.id) =
    subst (λ (z : ℕ). IsGrowing c.up.arena c.args.root z c.up.id (λ xs. insert_after xs z c.up.id)) e c.up.invariant.growing in
    let tree = root_tree c.up.arena c.root_over-top.new.arena c.args.root c.up.id c.root_over-top.result grows c.root_over-top.ensures.roots in
    tree

pub returns-clause-one : goal.returns-clause-one
returns-clause-one g c =
    let e : c.up.at ≡ c.args.root = top_is_root c.up.arena c.args.root c.up.at c.up.id c.up.invariant.growing.shape c.up.invariant.growing.at_live
    c.up.invariant.growing.at_apart (sym c.parent.ensures ∙ c.in_default.is) in
    let grows : IsGrowing c.up.arena c.args.root c.args.root c.up.id (λ xs. insert_after xs c.args.root c.up.id) =
    subst (λ (z : ℕ). IsGrowing c.up.arena c.args.root z c.up.id (λ xs. insert_after xs z c.up.id)) e c.up.invariant.growing in
    let tree = root_tree c.up.arena c.root_over-top.new.arena c.args.root c.up.id c.root_over-top.result grows c.root_over-top.ensures.roots in
    root_keeps IsSpan c.up.arena c.root_over-top.new.arena c.args.root c.up.id c.root_over-top.result c.root_over-top.ensures.roots
    c.root_over-top.ensures.one tree.shape.root_is_top
    (subst (λ (o : Option ℕ). KeepsBut IsSpan c.up.arena o) (sym c.parent.ensures ∙ c.in_default.is) c.up.invariant.one)

pub returns-clause-last : goal.returns-clause-last
returns-clause-last g c =
    let e : c.up.at ≡ c.args.root = top_is_root c.up.arena c.args.root c.up.at c.up.id c.up.invariant.growing.shape c.up.invariant.growing.at_live
    c.up.invariant.growing.at_apart (sym c.parent.ensures ∙ c.in_default.is) in
    let grows : IsGrowing c.up.arena c.args.root c.args.root c.up.id (λ xs. insert_after xs c.args.root c.up.id) =
    subst (λ (z : ℕ). IsGrowing c.up.arena c.args.root z c.up.id (λ xs. insert_after xs z c.up.id)) e c.up.invariant.growing in
    let tree = root_tree c.up.arena c.root_over-top.new.arena c.args.root c.up.id c.root_over-top.result grows c.root_over-top.ensures.roots in
    root_keeps (SpansLast (g.P.Places.end_place c.args.places.now)) c.up.arena c.root_over-top.new.arena c.args.root c.up.id
    c.root_over-top.result c.root_over-top.ensures.roots c.root_over-top.ensures.last tree.shape.root_is_top
    (subst (λ (o : Option ℕ). KeepsBut (SpansLast (g.P.Places.end_place c.args.places.now)) c.up.arena o) (sym c.parent.ensures ∙ c.in_default.is) c.up.invariant.last)

pub returns-clause-leaves : goal.returns-clause-leaves
returns-clause-leaves g c =
    c.root_over-top.ensures.roots.leaves ∙ c.up.invariant.leaves

pub returns-clause-leaf_values : goal.returns-clause-leaf_values
returns-clause-leaf_values g c =
    λ x. c.root_over-top.ensures.roots.leaf_values x ∙ c.up.invariant.leaf_values x

pub returns-clause-stale : goal.returns-clause-stale
returns-clause-stale g c =
    λ b e. cc

pub returns-clause-known : goal.returns-clause-known
returns-clause-known g c =
    c.root_over-top.ensures.known
