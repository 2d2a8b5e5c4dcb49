use Rattle.std.proofs.Common.{◌≡◌, ℕ, ◌+◌, ◌-◌, All, IsTrue, List, Option, subst, sym, ◌∙◌, ap, arith}
use Rattle.std.proofs.lemmas.List.Elements.{All-drop}
use Rattle.ft_block.specs.Leaves.{IsPlaceIn, LeafList, ids}
use Rattle.ft_tree_leaves.specs.declared.leaves.TreeLeaf.{TreeLeaf}
use Rattle.ft_tree_leaves.specs.Elements.{TreeElement, seen_in}
use Rattle.ft_tree_leaves.specs.LeafLists.{elements}
use Rattle.ft_tree_leaves.proofs.RangeLeaves.{extends_trans}
use Rattle.ft_tree_steps.specs.RangeEdits.{MayEdit}
use Rattle.ft_tree_steps.specs.LeafSteps.{changed_behind, held_place}
use Rattle.ft_tree_blocks.specs.Walks.{from_place, node_behind}
use Rattle.ft_tree_steps.proofs.CutPlaces.{rest_behind}
use Rattle.ft_tree_steps.proofs.RangeWalks.{changes_behind}
use Rattle.ft_tree_blocks.proofs.Walks.{behind_in_place}
use Rattle.ft_tree_steps.proofs.ranges.edit_behind.Goals as goal

pub leaf_behind-start-requires : goal.leaf_behind-start-requires
leaf_behind-start-requires g c = record {
  usable = subst (λ (l : LeafList (TreeLeaf g.row.C.Denot)). IsTrue l.usable) (sym c.list.ensures) c.in_ok-at.ensures.usable;
  place = subst (λ (l : LeafList (TreeLeaf g.row.C.Denot)). IsPlaceIn l.leaves c.in_ok-at.at) (sym c.list.ensures) c.in_ok-at.ensures.cut.live;
}

pub edit_range-requires : goal.edit_range-requires
edit_range-requires g c =
    let us = g.C.Content.units in
    let by = g.C.Content.by in
    let xs = c.args.blocks.now.leaves in
    let mid = c.cut_at.new.blocks.leaves in
    let n = held_place us by xs c.args.found.now.leaf c.args.found.now.offset in
    let start = c.leaf_behind-start.ensures ∙ ap (λ (l : LeafList (TreeLeaf g.row.C.Denot)). node_behind l.leaves c.in_ok-at.at) c.list.ensures in
    let P : TreeElement g.row.C-Unit.Denot → Type 0 = λ e. MayEdit c.args.edit.now e.overlay in
    let rest = ap (λ (o : Option ℕ). elements us by (from_place mid o)) start
    ∙ rest_behind us by n xs mid c.in_ok-at.at c.first-first.ensures.once c.in_ok-at.ensures.cut in
    record {
      usable = c.in_ok-at.ensures.usable;
      place = subst (IsPlaceIn mid) (sym start) (behind_in_place mid c.in_ok-at.at);
      may = subst (λ (es : List (TreeElement g.row.C-Unit.Denot)). All P es) (sym rest) (All-drop P n (elements us by xs) c.requires.may);
    }

pub returns-clause-list : goal.returns-clause-list
returns-clause-list g c = λ p f acts e.
    let us = g.C.Content.units in
    let by = g.C.Content.by in
    let seen = seen_in {U = g.row.C-Unit.Denot} c.args.view in
    let xs = c.args.blocks.now.leaves in
    let mid = c.cut_at.new.blocks.leaves in
    let n = held_place us by xs c.args.found.now.leaf c.args.found.now.offset in
    let start = c.leaf_behind-start.ensures ∙ ap (λ (l : LeafList (TreeLeaf g.row.C.Denot)). node_behind l.leaves c.in_ok-at.at) c.list.ensures in
    let more : p + c.args.count - p ≡ c.args.count = omega arith in
    c.in_ok-edit_range.ensures.list f acts
    ∙ ap (λ (o : Option ℕ). changed_behind us by seen f mid o c.args.count) start
    ∙ ap (changed_behind us by seen f mid _) (sym more)
    ∙ changes_behind us by seen f p (p + c.args.count) n xs mid c.in_ok-at.at c.first-first.ensures.once (omega arith) e c.in_ok-at.ensures.cut

pub returns-clause-nodes : goal.returns-clause-nodes
returns-clause-nodes g c =
    extends_trans (ids c.args.blocks.now.leaves) (ids c.cut_at.new.blocks.leaves) (ids c.edit_range.new.blocks.leaves) c.in_ok-at.ensures.cut.nodes
    c.in_ok-edit_range.ensures.nodes

pub returns-clause-refs : goal.returns-clause-refs
returns-clause-refs g c = λ r. c.in_ok-edit_range.ensures.refs r ∙ c.in_ok-at.ensures.refs r
