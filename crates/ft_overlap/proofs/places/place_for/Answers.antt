use Rattle.std.proofs.Common.{◌≡◌, ◌<ℤ◌, ◌≤ℤ◌, ◌-◌, ℕ, Some, IsSome, sym, ap, subst, ◌∙◌, arith, rules}
use Rattle.ft_arena.specs.Forest.{entry, kids_of, kids_of_entry, kids_of_node, block_value, block_of_entry, block_of_node, leaf_of_entry, leaf_of_node}
use Rattle.ft_shape.specs.Tree.{height_of, height_of_entry, height_of_node}
use Rattle.ft_shape.proofs.EditLemmas.{is_some_from}
use Rattle.ft_overlap.specs.Search.{IsReached}
use Rattle.ft_overlap.proofs.Descent.{d_high, d_cut_high, d_cut_live, no_place, reach_child, reached_place, root_reached}
use Rattle.ft_overlap.proofs.Keys.{true_lt, false_lt}
use Rattle.ft_overlap.proofs.places.place_for.Goals as goal

pub returns-then-is_before : goal.returns-then-is_before
returns-then-is_before g c =
    let place = g.P.Places.end_place c.args.at.now in
    let b = place c.args.item.now.start in
    no_place place b c.args.arena.now c.args.root c.requires.tree c.start_below.ensures.item c.start_below.ensures.first
    (subst (λ (z : ℕ). b <ℤ place z) (sym c.start_below.ensures.is) (true_lt b (place c.start_below.result) (sym c.is_before.ensures ∙ c.if-is_before.true)))

pub is_before-requires-clause-second : goal.is_before-requires-clause-second
is_before-requires-clause-second g c =
    let f = c.start_below.ensures in
    subst (λ (z : ℕ). g.P.Places.Knows c.args.at.now z) f.is (c.requires.known f.first.leaf f.item f.first.there)

pub levels-init : goal.levels-init
levels-init g c =
    let place = g.P.Places.end_place c.args.at.now in
    let b = place c.args.item.now.start in
    let reached : IsReached place b c.args.arena.now c.args.root =
    root_reached place b c.args.arena.now c.args.root c.requires.tree c.start_below.ensures.item c.start_below.ensures.first
    (subst (λ (z : ℕ). place z ≤ℤ b) (sym c.start_below.ensures.is) (false_lt b (place c.start_below.result) (sym c.is_before.ensures ∙ c.if-is_before.false))) in
    let live : IsSome (entry c.args.arena.now c.args.root) = search rules in
    record { live = live; reached = reached }

pub child_by-node-requires : goal.child_by-node-requires
child_by-node-requires g c =
    let s = c.args.arena.now in
    let n = c.levels.node in
    let value : block_value s n ≡ Some c.in-Block.value = ap block_of_entry c.read.ensures.node ∙ ap block_of_node c.in-Block.is in
    record {
      tree = c.requires.tree;
      spans = c.requires.spans;
      block = is_some_from (block_value s n) c.in-Block.value value;
      kids = ap kids_of_entry c.read.ensures.node ∙ ap kids_of_node c.in-Block.is;
      start = c.requires.start;
      first = c.levels.invariant.reached.first;
      known = c.requires.known;
    }

pub levels-smaller : goal.levels-smaller
levels-smaller g c =
    let s = c.args.arena.now in
    let n = c.levels.node in
    let kids : kids_of s n ≡ c.in-Block.kids = ap kids_of_entry c.read.ensures.node ∙ ap kids_of_node c.in-Block.is in
    let value : block_value s n ≡ Some c.in-Block.value = ap block_of_entry c.read.ensures.node ∙ ap block_of_node c.in-Block.is in
    let block : IsSome (block_value s n) = is_some_from (block_value s n) c.in-Block.value value in
    let kid_high : height_of s c.child_by-node.result ≡ height_of s n - 1 =
    d_cut_high s c.args.root n c.requires.tree block c.in-Block.kids kids c.child_by-node.ensures.front c.child_by-node.result c.child_by-node.ensures.back
    c.child_by-node.ensures.cut in
    omega (arith, kid_high, d_high s c.args.root n c.requires.tree block c.in-Block.kids kids)

pub levels-preserved : goal.levels-preserved
levels-preserved g c =
    let s = c.args.arena.now in
    let n = c.levels.node in
    let kids : kids_of s n ≡ c.in-Block.kids = ap kids_of_entry c.read.ensures.node ∙ ap kids_of_node c.in-Block.is in
    let value : block_value s n ≡ Some c.in-Block.value = ap block_of_entry c.read.ensures.node ∙ ap block_of_node c.in-Block.is in
    let block : IsSome (block_value s n) = is_some_from (block_value s n) c.in-Block.value value in
    let e = c.child_by-node.ensures in
    let kid_high : height_of s c.child_by-node.result ≡ height_of s n - 1 =
    d_cut_high s c.args.root n c.requires.tree block c.in-Block.kids kids e.front c.child_by-node.result e.back e.cut in
    record {
      live = d_cut_live s c.args.root n c.requires.tree block c.in-Block.kids kids e.front c.child_by-node.result e.back e.cut;
      reached = reach_child s c.args.root n c.requires.tree block c.in-Block.kids kids (g.P.Places.end_place c.args.at.now)
          (g.P.Places.end_place c.args.at.now c.args.item.now.start) c.child_by-node.result c.levels.invariant.reached e kid_high;
    }

pub returns : goal.returns
returns g c =
    let s = c.args.arena.now in
    let n = c.levels.node in
    let place = g.P.Places.end_place c.args.at.now in
    reached_place place (place c.args.item.now.start) s n c.in_default.field-0 c.levels.invariant.reached
    (ap leaf_of_entry c.read.ensures.node ∙ ap leaf_of_node c.in_default.is)
    (ap height_of_entry c.read.ensures.node ∙ ap height_of_node c.in_default.is) c.requires.rising
