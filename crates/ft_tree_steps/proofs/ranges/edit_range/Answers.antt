use Rattle.std.proofs.Common.{ℕ, ◌-◌, All, List, Option, Some, length, refl, subst, sym, ◌∙◌, ap, arith, length-append}
use Rattle.ft_arena.specs.Ids.{after}
use Rattle.ft_block.specs.Leaves.{IsPlaceIn, ids}
use Rattle.ft_tree_steps.specs.RangeEdits.{MayEdit}
use Rattle.ft_tree_leaves.specs.Elements.{TreeElement, seen_in}
use Rattle.ft_tree_leaves.specs.LeafLists.{elements}
use Rattle.ft_tree_steps.specs.LeafSteps.{changed_behind}
use Rattle.ft_tree_blocks.specs.Walks.{from_place}
use Rattle.ft_tree_leaves.proofs.CutLeaves.{extends_same}
use Rattle.ft_tree_leaves.proofs.RangeLeaves.{extends_trans, rear_all}
use Rattle.ft_tree_steps.proofs.RangeWalks.{changed_none, changed_skips, changed_zero}
use Rattle.ft_tree_steps.proofs.ranges.edit_range.Goals as goal

pub loop-at-init : goal.loop-at-init
loop-at-init g c = record {
  list = λ f acts. refl;
  may = c.requires.may;
  nodes = extends_same (ids c.args.blocks.now.leaves);
  live = c.requires.place;
  refs = λ r. refl;
  usable = c.requires.usable;
  floor = refl;
}

pub loop-at-preserved : goal.loop-at-preserved
loop-at-preserved g c =
    let us = g.C.Content.units in
    let by = g.C.Content.by in
    let seen = seen_in {U = g.row.C-Unit.Denot} c.args.view in
    let mid = c.loop-at.blocks.leaves in
    let now = c.edit_first.new.blocks.leaves in
    let id = c.in-Some.id in
    let left = c.loop-at.left in
    let n = c.in_ok-n.n in
    let next = after (ids now) id in
    let goes = c.in_ok-n.ensures.goes in
    let skips = c.leaf_to_edit-at.ensures.skips in
    let P : TreeElement g.row.C-Unit.Denot → Type 0 = λ e. MayEdit c.args.edit.now e.overlay in
    let may : All P (elements us by (from_place mid (Some id))) =
    subst (λ (o : Option ℕ). All P (elements us by (from_place mid o))) c.in-Some.is c.loop-at.invariant.may in
    let behind : All P (elements us by (from_place now next)) =
    rear_all us by P goes.es _ (subst (λ (es : List (TreeElement g.row.C-Unit.Denot)). All P es) (sym goes.whole) may) in
    record {
      list = λ f acts.
          changed_skips us by seen f now next c.leaf_to_edit-at.result (left - n) skips
          ∙ c.in_ok-n.ensures.list f acts
          ∙ ap (λ (o : Option ℕ). changed_behind us by seen f mid o left) (sym c.in-Some.is)
          ∙ c.loop-at.invariant.list f acts;
      may = rear_all us by P skips.es _ (subst (λ (es : List (TreeElement g.row.C-Unit.Denot)). All P es) skips.rest behind);
      nodes = extends_trans (ids c.args.blocks.now.leaves) (ids mid) (ids now) c.loop-at.invariant.nodes goes.nodes;
      live = c.leaf_to_edit-at.ensures.live;
      refs = λ r. c.in_ok-n.ensures.refs r ∙ c.loop-at.invariant.refs r;
      usable = c.in_ok-n.ensures.usable;
      floor = c.in_ok-n.ensures.floor ∙ c.loop-at.invariant.floor;
    }

pub loop-at-smaller : goal.loop-at-smaller
loop-at-smaller g c =
    let us = g.C.Content.units in
    let by = g.C.Content.by in
    let mid = c.loop-at.blocks.leaves in
    let now = c.edit_first.new.blocks.leaves in
    let next = after (ids now) c.in-Some.id in
    let goes = c.in_ok-n.ensures.goes in
    let skips = c.leaf_to_edit-at.ensures.skips in
    omega (
      arith,
      ap (λ (o : Option ℕ). length (elements us by (from_place mid o))) c.in-Some.is,
      ap length goes.whole,
      length-append goes.es (elements us by (from_place now next)),
      ap length skips.rest,
      length-append skips.es (elements us by (from_place now c.leaf_to_edit-at.result)),
      goes.some,
    )

pub returns-then-left-eq0 : goal.returns-then-left-eq0
returns-then-left-eq0 g c =
    let us = g.C.Content.units in
    let by = g.C.Content.by in
    let seen = seen_in {U = g.row.C-Unit.Denot} c.args.view in
    let mid = c.loop-at.blocks.leaves in
    record {
      list = λ f acts.
          sym (changed_zero us by seen f mid c.loop-at.at)
          ∙ ap (changed_behind us by seen f mid c.loop-at.at) (sym c.if-left-eq0.true)
          ∙ c.loop-at.invariant.list f acts;
      nodes = c.loop-at.invariant.nodes;
      refs = c.loop-at.invariant.refs;
      usable = c.loop-at.invariant.usable;
      floor = c.loop-at.invariant.floor;
    }

pub edit_first-requires : goal.edit_first-requires
edit_first-requires g c =
    let us = g.C.Content.units in
    let by = g.C.Content.by in
    let mid = c.loop-at.blocks.leaves in
    let P : TreeElement g.row.C-Unit.Denot → Type 0 = λ e. MayEdit c.args.edit.now e.overlay in
    record {
      usable = c.loop-at.invariant.usable;
      live = subst (IsPlaceIn mid) c.in-Some.is c.loop-at.invariant.live;
      some = omega (arith, c.if-left-eq0.false);
      may = subst (λ (o : Option ℕ). All P (elements us by (from_place mid o))) c.in-Some.is c.loop-at.invariant.may;
    }

pub returns : goal.returns
returns g c =
    let us = g.C.Content.units in
    let by = g.C.Content.by in
    let seen = seen_in {U = g.row.C-Unit.Denot} c.args.view in
    let mid = c.loop-at.blocks.leaves in
    record {
      list = λ f acts.
          sym (changed_none us by seen f mid c.loop-at.left)
          ∙ ap (λ (o : Option ℕ). changed_behind us by seen f mid o c.loop-at.left) (sym c.in_default.is)
          ∙ c.loop-at.invariant.list f acts;
      nodes = c.loop-at.invariant.nodes;
      refs = c.loop-at.invariant.refs;
      usable = c.loop-at.invariant.usable;
      floor = c.loop-at.invariant.floor;
    }
