-- What a tree keeps, and what an insertion and an edit make of it. No public clause cites this module.
use Rattle.std.specs.Prelude.{◌≡◌, ℕ, ◌+◌, ◌≤◌, Bool, IsTrue, List, Option, cond, length}
use Rattle.ft_base.specs.declared.stamps.Stamp.{Stamp}
use Rattle.ft_base.specs.Scan.{put}
use Rattle.ft_base.specs.Visibility.{is_of_stage}
use Rattle.ft_block.specs.Leaves.{IsPlaceIn, ids}
use Rattle.ft_tree_steps.specs.declared.ranges.RangeEdit.{RangeEdit}
use Rattle.ft_tree_steps.specs.declared.ranges.RangeEdit.TheVariants.{Change, Remove}
use Rattle.ft_tree_leaves.specs.declared.block_leaf.LeafChange.TheVariants.{SetAcked, PushPending, DropPending, DropAll, Ack}
use Rattle.ft_tree_leaves.specs.declared.leaves.TreeLeaf.{TreeLeaf}
use Rattle.ft_tree_leaves.specs.Edits.{with_place}
use Rattle.ft_tree_leaves.specs.Elements.{TreeElement, removed_stamps, sequenced_overlay, with_overlay, with_stamps}
use Rattle.ft_tree_leaves.specs.LeafLists.{Extends, elements, leaf_elements}
use Rattle.ft_tree_leaves.specs.Places.{put_place, shifted_place}
use Rattle.ft_tree_leaves.specs.References.{ChangesReferences}
use Rattle.ft_props.specs.Overlay.{after_ack, after_acked_changes, after_drop, after_pending_changes}
use Rattle.ft_props.specs.Properties.{max_safe_integer}
use Rattle.ft_tree.specs.State.{KeepsRest, TreeState}
use Rattle.ft_tree.specs.declared.tree.Tree.TheInside.{Inside}

module _ {C U : Type 0} where
  abbrev pub view_of : Inside C U → TreeState C
  view_of a = record {
    leaves = a.blocks.leaves;
    refs = a.blocks.refs;
    floor = a.blocks.floor;
    sweep = a.sweep;
    made = a.made;
    depth = a.blocks.depth;
    usable = a.usable;
  }

  -- the blocks may be used; the elements are no more than were ever made; the sweep begins at a leaf
  pub record IsSound (units : C → List U) (by : C → Option Stamp) (a : Inside C U) : Type 0 where
    pub blocks : IsTrue a.blocks.usable
    pub fits : length (elements units by a.blocks.leaves) ≤ a.made
    pub small : a.made ≤ max_safe_integer
    pub sweep : IsPlaceIn a.blocks.leaves a.sweep

  -- the same where the tree may still be used
  abbrev pub IsSoundIfUsable : (C → List U) → (C → Option Stamp) → Inside C U → Type 0
  IsSoundIfUsable units by a = IsTrue a.usable → IsSound units by a

module _ {C U : Type 0} (units : C → List U) (by : C → Option Stamp) where
  -- an insertion of a tree, with its references
  pub record Puts (seen past : TreeElement U → Bool) (p : ℕ) (leaf : TreeLeaf C) (old now : TreeState C) : Type 0 where
    pub list : elements units by now.leaves ≡ put seen past p (leaf_elements units by leaf) (elements units by old.leaves)
    pub refs : ChangesReferences (with_place (shifted_place (put_place seen past p (elements units by old.leaves)) (length (units leaf.content)))) old.refs now.refs
    pub nodes : Extends (ids old.leaves) (ids now.leaves)
    pub rest : KeepsRest old now
    pub made : now.made ≡ old.made + length (units leaf.content)

-- what an edit of a range makes of an element, where `author` is what an acknowledgement makes of its author
abbrev pub edited_element : {U : Type 0} → (ℕ → ℕ → Option Stamp) → RangeEdit → TreeElement U → TreeElement U
edited_element author (Remove t) = with_stamps (removed_stamps t)
edited_element author (Change (SetAcked set)) = with_overlay (after_acked_changes set)
edited_element author (Change (PushPending k set)) = with_overlay (after_pending_changes k set)
edited_element author (Change (DropPending k)) = with_overlay (after_drop k)
edited_element author (Change DropAll) = with_overlay sequenced_overlay
edited_element author (Change (Ack k s c)) = λ e. record e { by = cond (is_of_stage k e.stamps.ins) (author s c) e.by; overlay = after_ack k e.overlay }
