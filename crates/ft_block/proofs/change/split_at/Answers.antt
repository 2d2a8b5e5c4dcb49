use Rattle.std.proofs.Common.{IsSomeAnd, Option, subst, ◌≡◌, ◌<◌, ◌+◌, ℕ, List, ap, sym, ◌∙◌, arith, IsSome}
use Rattle.ft_arena.specs.Ids.{insert_after}
use Rattle.ft_arena.specs.Forest.{Forest, leaf_value, with_leaf}
use Rattle.ft_shape.specs.declared.headed.Headed.{Headed}
use Rattle.ft_block.specs.declared.summaries.Summary.{Summary}
use Rattle.ft_block.specs.Tree.{shown_length}
use Rattle.ft_shape.specs.Tree.{height_of}
use Rattle.ft_block.specs.Tree.{by_view, by_size}
use Rattle.ft_shape.proofs.InsertLemmas.{room_tree, room_sums, room_values, room_leaves, cut_grows, cut_heights, cut_sums, cut_owes, cut_total, changed_value}
use Rattle.ft_block.proofs.Floors.{room_floors, cut_floors}
use Rattle.ft_shape.proofs.InsertLemmas.{cut_splits, all_settled}
use Rattle.ft_shape.proofs.FitLemmas.{leaf_total}
use Rattle.ft_block.proofs.ViewLemmas.{seen_parts}
use Rattle.ft_shape.proofs.EditLemmas.{is_some_from}
use Rattle.ft_block.proofs.SoundLemmas.{is_some_by}
use Rattle.std.proofs.lemmas.Result.{IfOk-from_err}
use Rattle.ft_block.proofs.change.split_at.Goals as goal

pub grow-requires-clause-growing : goal.grow-requires-clause-growing
grow-requires-clause-growing g c = cut_grows c.reserve.new.self c.link_after-id.new.self c.args.root c.args.leaf c.link_after-id.result c.leaf_mut.result.now
    c.split_off.new.self c.in_ok-rest.rest (room_tree c.args.arena.now c.reserve.new.self c.reserve.ensures.kept c.args.root c.requires.tree) c.leaf_mut.ensures.value
    c.link_after-id.ensures.fresh c.link_after-id.ensures.changes c.link_after-id.ensures.leaves c.link_after-id.ensures.sound

pub grow-requires-clause-sums : goal.grow-requires-clause-sums
grow-requires-clause-sums g c = λ view k. cut_sums c.reserve.new.self c.link_after-id.new.self c.args.root c.args.leaf c.link_after-id.result c.leaf_mut.result.now
    c.split_off.new.self c.in_ok-rest.rest (room_tree c.args.arena.now c.reserve.new.self c.reserve.ensures.kept c.args.root c.requires.tree) c.leaf_mut.ensures.value
    c.link_after-id.ensures.fresh c.link_after-id.ensures.changes c.link_after-id.ensures.leaves c.link_after-id.ensures.sound
    (by_view g.L.Leaf.size g.L.Leaf.element view) (room_sums c.args.arena.now c.reserve.new.self c.reserve.ensures.kept (by_view g.L.Leaf.size g.L.Leaf.element view)
    (c.requires.sums view k))

pub grow-requires-clause-floors : goal.grow-requires-clause-floors
grow-requires-clause-floors g c = cut_floors c.reserve.new.self c.link_after-id.new.self c.args.root c.args.leaf c.link_after-id.result c.leaf_mut.result.now
    c.split_off.new.self c.in_ok-rest.rest (room_tree c.args.arena.now c.reserve.new.self c.reserve.ensures.kept c.args.root c.requires.tree) c.leaf_mut.ensures.value
    c.link_after-id.ensures.fresh c.link_after-id.ensures.changes c.link_after-id.ensures.leaves c.link_after-id.ensures.sound c.args.floor
    (room_floors c.args.arena.now c.reserve.new.self c.reserve.ensures.kept c.args.floor c.requires.floors)

pub grow-requires-clause-fits : goal.grow-requires-clause-fits
grow-requires-clause-fits g c =
    let high : c.args.at < g.L.Leaf.size c.leaf_mut.result.now =
    subst (λ (o : Option g.row.L.Denot). IsSomeAnd o (λ v. c.args.at < g.L.Leaf.size v))
    (sym (room_values c.args.arena.now c.reserve.new.self c.reserve.ensures.kept c.args.leaf) ∙ c.leaf_mut.ensures.value) c.requires.leaf in
    let low = c.requires.low in
    let met = g.met.L.Leaf in
    let whole : g.L.Leaf.size (g.L.Leaf.front c.leaf_mut.result.now c.args.at) + g.L.Leaf.size (g.L.Leaf.rear c.leaf_mut.result.now c.args.at) ≡ g.L.Leaf.size
    c.leaf_mut.result.now = omega (arith, met.front_size c.leaf_mut.result.now c.args.at low high, met.rear_size c.leaf_mut.result.now c.args.at low high) in
    let real = ap (λ (x : g.row.L.Denot). g.L.Leaf.size x + g.L.Leaf.size c.in_ok-rest.rest) c.in_ok-rest.ensures.front
    ∙ ap (λ (x : g.row.L.Denot). g.L.Leaf.size (g.L.Leaf.front c.leaf_mut.result.now c.args.at) + g.L.Leaf.size x) c.in_ok-rest.ensures.rear ∙ whole in
    let same = leaf_total (by_size g.L.Leaf.size) c.args.arena.now c.reserve.new.self c.requires.tree.shape.forest
    (room_leaves c.args.arena.now c.reserve.new.self c.reserve.ensures.kept) (room_values c.args.arena.now c.reserve.new.self c.reserve.ensures.kept) in
    omega (
      arith,
      cut_total c.reserve.new.self c.link_after-id.new.self c.args.root c.args.leaf c.link_after-id.result c.leaf_mut.result.now c.split_off.new.self
          c.in_ok-rest.rest (room_tree c.args.arena.now c.reserve.new.self c.reserve.ensures.kept c.args.root c.requires.tree) c.leaf_mut.ensures.value
          c.link_after-id.ensures.fresh c.link_after-id.ensures.changes c.link_after-id.ensures.leaves c.link_after-id.ensures.sound (by_size g.L.Leaf.size) real,
      same,
      c.requires.fits,
    )

pub grow-requires-clause-spare : goal.grow-requires-clause-spare
grow-requires-clause-spare g c =
    let h = cut_heights c.reserve.new.self c.link_after-id.new.self c.args.root c.args.leaf c.link_after-id.result c.leaf_mut.result.now c.split_off.new.self
    c.in_ok-rest.rest (room_tree c.args.arena.now c.reserve.new.self c.reserve.ensures.kept c.args.root c.requires.tree) c.leaf_mut.ensures.value
    c.link_after-id.ensures.fresh c.link_after-id.ensures.changes c.link_after-id.ensures.leaves c.link_after-id.ensures.sound c.args.root in
    let e = ap (λ (s : Forest g.row.L.Denot (Headed Summary)). height_of s c.args.root) c.reserve.ensures.kept in
    omega (arith, h, e, c.link_after-id.ensures.spare, c.in_ok-reserve.ensures.room, c.nodes_needed-needed.ensures)

pub grow-requires-clause-tall : goal.grow-requires-clause-tall
grow-requires-clause-tall g c =
    let h = cut_heights c.reserve.new.self c.link_after-id.new.self c.args.root c.args.leaf c.link_after-id.result c.leaf_mut.result.now c.split_off.new.self
    c.in_ok-rest.rest (room_tree c.args.arena.now c.reserve.new.self c.reserve.ensures.kept c.args.root c.requires.tree) c.leaf_mut.ensures.value
    c.link_after-id.ensures.fresh c.link_after-id.ensures.changes c.link_after-id.ensures.leaves c.link_after-id.ensures.sound c.args.root in
    let e = ap (λ (s : Forest g.row.L.Denot (Headed Summary)). height_of s c.args.root) c.reserve.ensures.kept in
    omega (arith, h, e, c.nodes_needed-needed.ensures)

pub returns-clause-sums : goal.returns-clause-sums
returns-clause-sums g c = λ view k.
    let high : c.args.at < g.L.Leaf.size c.leaf_mut.result.now =
    subst (λ (o : Option g.row.L.Denot). IsSomeAnd o (λ v. c.args.at < g.L.Leaf.size v))
    (sym (room_values c.args.arena.now c.reserve.new.self c.reserve.ensures.kept c.args.leaf) ∙ c.leaf_mut.ensures.value) c.requires.leaf in
    let low = c.requires.low in
    let met = g.met.L.Leaf in
    let whole : g.L.Leaf.size (g.L.Leaf.front c.leaf_mut.result.now c.args.at) + g.L.Leaf.size (g.L.Leaf.rear c.leaf_mut.result.now c.args.at) ≡ g.L.Leaf.size
    c.leaf_mut.result.now = omega (arith, met.front_size c.leaf_mut.result.now c.args.at low high, met.rear_size c.leaf_mut.result.now c.args.at low high) in
    let real = ap (λ (x : g.row.L.Denot). (shown_length g.L.Leaf.size g.L.Leaf.element view) x + (shown_length g.L.Leaf.size g.L.Leaf.element view) c.in_ok-rest.rest)
    c.in_ok-rest.ensures.front ∙ ap (λ (x : g.row.L.Denot). (shown_length g.L.Leaf.size g.L.Leaf.element view) (g.L.Leaf.front c.leaf_mut.result.now c.args.at) +
    (shown_length g.L.Leaf.size g.L.Leaf.element view) x) c.in_ok-rest.ensures.rear
    ∙ seen_parts g.L.Leaf.size g.L.Leaf.element view c.leaf_mut.result.now (g.L.Leaf.front c.leaf_mut.result.now c.args.at)
    (g.L.Leaf.rear c.leaf_mut.result.now c.args.at) (met.front_element c.leaf_mut.result.now c.args.at low high)
    (met.rear_element c.leaf_mut.result.now c.args.at low high) whole in
    all_settled (by_view g.L.Leaf.size g.L.Leaf.element view) c.grow.new.arena _ (shown_length g.L.Leaf.size g.L.Leaf.element view c.leaf_mut.result.now)
    (c.in_ok-top.ensures.sums view k) (c.in_ok-top.ensures.owes view (shown_length g.L.Leaf.size g.L.Leaf.element view c.leaf_mut.result.now)
    (shown_length g.L.Leaf.size g.L.Leaf.element view c.leaf_mut.result.now) k
    (cut_owes c.reserve.new.self c.link_after-id.new.self c.args.root c.args.leaf c.link_after-id.result c.leaf_mut.result.now c.split_off.new.self c.in_ok-rest.rest
    (room_tree c.args.arena.now c.reserve.new.self c.reserve.ensures.kept c.args.root c.requires.tree) c.leaf_mut.ensures.value c.link_after-id.ensures.fresh
    c.link_after-id.ensures.changes c.link_after-id.ensures.leaves c.link_after-id.ensures.sound (by_view g.L.Leaf.size g.L.Leaf.element view)
    (room_sums c.args.arena.now c.reserve.new.self c.reserve.ensures.kept (by_view g.L.Leaf.size g.L.Leaf.element view) (c.requires.sums view k)) real))

pub returns-clause-splits : goal.returns-clause-splits
returns-clause-splits g c =
    let i = cut_splits c.reserve.new.self c.link_after-id.new.self c.args.root c.args.leaf c.link_after-id.result c.leaf_mut.result.now c.split_off.new.self
    c.in_ok-rest.rest (room_tree c.args.arena.now c.reserve.new.self c.reserve.ensures.kept c.args.root c.requires.tree) c.leaf_mut.ensures.value
    c.link_after-id.ensures.fresh c.link_after-id.ensures.changes c.link_after-id.ensures.leaves c.link_after-id.ensures.sound (λ v. g.L.Leaf.front v c.args.at)
    (λ v. g.L.Leaf.rear v c.args.at) c.in_ok-rest.ensures.front c.in_ok-rest.ensures.rear c.grow.new.arena c.in_ok-top.ensures.leaves
    c.in_ok-top.ensures.leaf_values in
    let e = room_values c.args.arena.now c.reserve.new.self c.reserve.ensures.kept in
    record {
      leaves = i.leaves ∙ ap (λ (zs : List ℕ). insert_after zs c.args.leaf c.link_after-id.result) (room_leaves c.args.arena.now c.reserve.new.self c.reserve.ensures.kept);
      fresh = sym (e c.link_after-id.result) ∙ i.fresh;
      whole = i.whole;
      was = sym (e c.args.leaf) ∙ i.was;
      now = i.now;
      value = i.value;
      others = λ x d n. i.others x d n ∙ e x;
    }

pub returns-clause-tree : goal.returns-clause-tree
returns-clause-tree g c = c.in_ok-top.ensures.tree

pub returns-clause-floors : goal.returns-clause-floors
returns-clause-floors g c = c.in_ok-top.ensures.floors

pub nodes_needed-needed-requires : goal.nodes_needed-needed-requires
nodes_needed-needed-requires g c = c.requires.tree

pub leaf_mut-requires : goal.leaf_mut-requires
leaf_mut-requires g c = subst (λ (o : Option g.row.L.Denot). IsSome o) (sym (room_values c.args.arena.now c.reserve.new.self c.reserve.ensures.kept
    c.args.leaf))
    (is_some_by (leaf_value c.args.arena.now c.args.leaf) (λ v. c.args.at < g.L.Leaf.size v) c.requires.leaf)

pub split_off-requires-clause-low : goal.split_off-requires-clause-low
split_off-requires-clause-low g c = c.requires.low

pub split_off-requires-clause-high : goal.split_off-requires-clause-high
split_off-requires-clause-high g c = subst (λ (o : Option g.row.L.Denot). IsSomeAnd o (λ v. c.args.at < g.L.Leaf.size v))
    (sym (room_values c.args.arena.now c.reserve.new.self c.reserve.ensures.kept c.args.leaf) ∙ c.leaf_mut.ensures.value) c.requires.leaf

pub link_after-id-requires-clause-room : goal.link_after-id-requires-clause-room
link_after-id-requires-clause-room g c = omega (arith, c.in_ok-reserve.ensures.room, c.nodes_needed-needed.ensures)

pub link_after-id-requires-clause-place : goal.link_after-id-requires-clause-place
link_after-id-requires-clause-place g c =
    let w = c.split_off.new.self in
    is_some_from (leaf_value (with_leaf c.reserve.new.self c.args.leaf w) c.args.leaf) w (changed_value c.reserve.new.self c.args.root c.args.leaf
    c.leaf_mut.result.now w
    (room_tree c.args.arena.now c.reserve.new.self c.reserve.ensures.kept c.args.root c.requires.tree) c.leaf_mut.ensures.value)

pub returns-in_err-reserve : goal.returns-in_err-reserve
returns-in_err-reserve g c =
    let r = c.from_residual in
    record {
      tree = IfOk-from_err r.result _ r.ensures.0;
      sums = IfOk-from_err r.result _ r.ensures.0;
      floors = IfOk-from_err r.result _ r.ensures.0;
      splits = IfOk-from_err r.result _ r.ensures.0;
    }

pub returns-in_err-top : goal.returns-in_err-top
returns-in_err-top g c =
    let r = c.from_residual-in_err-top in
    record {
      tree = IfOk-from_err r.result _ r.ensures.0;
      sums = IfOk-from_err r.result _ r.ensures.0;
      floors = IfOk-from_err r.result _ r.ensures.0;
      splits = IfOk-from_err r.result _ r.ensures.0;
    }
