use Rattle.std.proofs.Common.{◌≡◌, ℕ, List, [], ◌∷◌, length, refl, subst, sym, ◌∙◌, arith}
use Rattle.ft_rebase.specs.Moves.{leaf_stamps}
use Rattle.ft_rebase.specs.StageLists.{inserted_by}
use Rattle.ft_rebase.proofs.MovedSpots.{rest_more, rest_same, spots_more, spots_same}
use Rattle.ft_rebase.proofs.StageMoves.{MovesBlock, moves_first, moves_next, stage_moved, stage_place}
use Rattle.ft_rebase.proofs.moves.put_stage.Goals as goal

empty_items : (xs : List ℕ) → length xs ≡ 0 → xs ≡ []
empty_items [] e = refl
empty_items (x ∷ xs) e = absurd (omega arith)

pub loop-leaf-init : goal.loop-leaf-init
loop-leaf-init g c =
    let xs = c.args.tree.now.leaves in
    let t = inserted_by leaf_stamps c.args.stage in
    let at = c.leaf_before-at.result in
    record {
      moved = subst (λ rest. MovesBlock t xs at rest xs) (sym c.in_ok-leaves.ensures) (moves_first t xs at);
      refs = spots_same c.args.tree.now;
      rest = rest_same c.args.tree.now;
      made = refl;
      usable = c.requires.usable;
    }

pub move_behind-requires-clause-live : goal.move_behind-requires-clause-live
move_behind-requires-clause-live g c =
    let xs = c.args.tree.now.leaves in
    let t = inserted_by leaf_stamps c.args.stage in
    let at = c.leaf_before-at.result in
    let ends = c.requires.ends in
    let place = stage_place c.args.stage c.requires.stage xs c.first_leaf-first.ensures.once ends.count at
    (c.leaf_before-at.ensures ends.count ends.fits ends.is) in
    let moved = subst (λ rest. MovesBlock t xs at rest c.loop-leaf.tree.leaves) c.in-Some.ensures.items c.loop-leaf.invariant.moved in
    let next = moves_next t xs at c.pop.new.self.items c.in-Some.leaf c.loop-leaf.tree.leaves c.first_leaf-first.ensures.once place.0
    place.1 moved in
    next.live

pub move_behind-requires-clause-place : goal.move_behind-requires-clause-place
move_behind-requires-clause-place g c =
    let xs = c.args.tree.now.leaves in
    let t = inserted_by leaf_stamps c.args.stage in
    let at = c.leaf_before-at.result in
    let ends = c.requires.ends in
    let place = stage_place c.args.stage c.requires.stage xs c.first_leaf-first.ensures.once ends.count at
    (c.leaf_before-at.ensures ends.count ends.fits ends.is) in
    let moved = subst (λ rest. MovesBlock t xs at rest c.loop-leaf.tree.leaves) c.in-Some.ensures.items c.loop-leaf.invariant.moved in
    let next = moves_next t xs at c.pop.new.self.items c.in-Some.leaf c.loop-leaf.tree.leaves c.first_leaf-first.ensures.once place.0
    place.1 moved in
    next.place

pub loop-leaf-preserved : goal.loop-leaf-preserved
loop-leaf-preserved g c =
    let xs = c.args.tree.now.leaves in
    let t = inserted_by leaf_stamps c.args.stage in
    let at = c.leaf_before-at.result in
    let ends = c.requires.ends in
    let place = stage_place c.args.stage c.requires.stage xs c.first_leaf-first.ensures.once ends.count at
    (c.leaf_before-at.ensures ends.count ends.fits ends.is) in
    let moved = subst (λ rest. MovesBlock t xs at rest c.loop-leaf.tree.leaves) c.in-Some.ensures.items c.loop-leaf.invariant.moved in
    let next = moves_next t xs at c.pop.new.self.items c.in-Some.leaf c.loop-leaf.tree.leaves c.first_leaf-first.ensures.once place.0
    place.1 moved in
    record {
      moved = subst (MovesBlock t xs at c.pop.new.self.items) (sym c.in_ok-move_behind.ensures.leaves) next.after;
      refs = spots_more c.loop-leaf.invariant.refs c.in_ok-move_behind.ensures.refs;
      rest = rest_more c.loop-leaf.invariant.rest c.in_ok-move_behind.ensures.stays.rest;
      made = c.in_ok-move_behind.ensures.stays.made ∙ c.loop-leaf.invariant.made;
      usable = c.in_ok-move_behind.ensures.stays.usable;
    }

pub returns-clause-leaves : goal.returns-clause-leaves
returns-clause-leaves g c q fits is =
    let xs = c.args.tree.now.leaves in
    let at = c.leaf_before-at.result in
    let none = empty_items c.loop-leaf.leaves.items (omega (arith, c.in_default.ensures.cases, c.loop-leaf.leaves.ok.0)) in
    stage_moved c.args.stage c.requires.stage xs c.first_leaf-first.ensures.once q at c.loop-leaf.tree.leaves fits
    (c.leaf_before-at.ensures q fits is)
    (subst (λ rest. MovesBlock (inserted_by leaf_stamps c.args.stage) xs at rest c.loop-leaf.tree.leaves) none c.loop-leaf.invariant.moved)

pub returns-clause-stays : goal.returns-clause-stays
returns-clause-stays g c = record {
  rest = c.loop-leaf.invariant.rest;
  made = c.loop-leaf.invariant.made;
  usable = c.loop-leaf.invariant.usable;
}
