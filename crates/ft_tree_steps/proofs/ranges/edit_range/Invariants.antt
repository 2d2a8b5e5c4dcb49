use Rattle.std.proofs.Common.{◌≡◌, All, IsTrue, length}
use Rattle.ft_block.specs.Leaves.{IsPlaceIn, ids}
use Rattle.ft_tree_steps.specs.RangeEdits.{MayEdit, edited_leaf}
use Rattle.ft_tree_leaves.specs.Elements.{TreeElement, seen_in}
use Rattle.ft_tree_leaves.specs.LeafLists.{Extends, elements}
use Rattle.ft_tree_leaves.specs.References.{KeepsReferences}
use Rattle.ft_tree_steps.specs.LeafSteps.{Acts, changed_behind}
use Rattle.ft_tree_blocks.specs.Walks.{from_place}
use Rattle.ft_tree_steps.proofs.ranges.edit_range.Given as goal

-- what is changed, and what is to be changed from the leaf of this node on, are the whole change
abbrev pub invariant-loop-at : goal.invariant-loop-at
invariant-loop-at g l =
    let us = g.C.Content.units in
    let by = g.C.Content.by in
    record {
      list : (f : TreeElement g.row.C-Unit.Denot → TreeElement g.row.C-Unit.Denot) → Acts us by (edited_leaf g.C.Content.stamped l.edit) f
          → changed_behind us by (seen_in l.view) f l.blocks.leaves l.at l.left ≡ changed_behind us by (seen_in l.view) f l.initial.blocks.leaves l.initial.at l.initial.left;
      may : All (λ e. MayEdit l.edit e.overlay) (elements us by (from_place l.blocks.leaves l.at));
      nodes : Extends (ids l.initial.blocks.leaves) (ids l.blocks.leaves);
      live : IsPlaceIn l.blocks.leaves l.at;
      refs : KeepsReferences l.initial.blocks.refs l.blocks.refs;
      usable : IsTrue l.blocks.usable;
      floor : l.blocks.floor ≡ l.initial.blocks.floor;
    }

abbrev pub decreases-loop-at : goal.decreases-loop-at
decreases-loop-at g l = length (elements g.C.Content.units g.C.Content.by (from_place l.blocks.leaves l.at))
