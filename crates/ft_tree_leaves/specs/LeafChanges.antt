-- What a change makes of one leaf, and of one leaf of a list.
use Rattle.std.specs.Prelude.{ℕ, cond, nat_eq, []}
use Rattle.ft_base.specs.declared.elements.Element.{Element as ElementStamps}
use Rattle.ft_base.specs.declared.stamps.Stamp.{Stamp}
use Rattle.ft_base.specs.Visibility.{is_of_stage}
use Rattle.ft_block.specs.declared.leaves.LenView.{LenView}
use Rattle.ft_block.specs.Leaves.{sees_in}
use Rattle.ft_props.specs.Overlay.{OverlayState, after_ack}
use Rattle.ft_props.specs.Properties.{PropertyList}
use Rattle.ft_tree_leaves.specs.declared.leaves.TreeLeaf.{TreeLeaf}
use Rattle.ft_tree_leaves.specs.Edits.{sequenced_leaf, unmarked_leaf}
use Rattle.ft_tree_leaves.specs.Elements.{acked_stamps}

-- a leaf with this change of its stamps
abbrev pub with_leaf_stamps : {C : Type 0} → (ElementStamps → ElementStamps) → TreeLeaf C → TreeLeaf C
with_leaf_stamps f x = record x { stamps = f x.stamps }

-- a leaf with this change of its properties
abbrev pub with_leaf_overlay : {C : Type 0} → (OverlayState → OverlayState) → TreeLeaf C → TreeLeaf C
with_leaf_overlay f x = record x { overlay = f x.overlay }

-- a leaf that is changed if the view sees it
abbrev pub changed_in : {C : Type 0} → LenView → (TreeLeaf C → TreeLeaf C) → TreeLeaf C → TreeLeaf C
changed_in view g x = cond (sees_in view x.stamps) (g x) x

-- a leaf after stage k was acknowledged under number s of connection c
abbrev pub acked_leaf : {C : Type 0} → (C → ℕ → ℕ → C) → ℕ → ℕ → ℕ → TreeLeaf C → TreeLeaf C
acked_leaf stamped k s c x = record {
  content = cond (is_of_stage k x.stamps.ins) (stamped x.content s c) x.content;
  stamps = acked_stamps k s c x.stamps;
  overlay = after_ack k x.overlay;
}

-- the same with its node
abbrev pub acked_pair : {C : Type 0} → (C → ℕ → ℕ → C) → ℕ → ℕ → ℕ → ℕ × TreeLeaf C → ℕ × TreeLeaf C
acked_pair stamped k s c x = (x.0, acked_leaf stamped k s c x.1)

-- a leaf of new elements, which nobody has removed or changed
abbrev pub fresh_leaf : {C : Type 0} → C → Stamp → PropertyList → TreeLeaf C
fresh_leaf content ins props = record { content = content; stamps = record { ins = ins; dels = [] }; overlay = record { acked = props; pending = [] } }

-- the leaf of a node without its removal mark and its changes of stage k, and any other as it is
abbrev pub unmarked_pair : {C : Type 0} → ℕ → ℕ → ℕ × TreeLeaf C → ℕ × TreeLeaf C
unmarked_pair id k x = (x.0, cond (nat_eq x.0 id) (unmarked_leaf k x.1) x.1)

-- the leaf of a node without pending removal marks and pending changes, and any other as it is
abbrev pub sequenced_pair : {C : Type 0} → ℕ → ℕ × TreeLeaf C → ℕ × TreeLeaf C
sequenced_pair id x = (x.0, cond (nat_eq x.0 id) (sequenced_leaf x.1) x.1)
