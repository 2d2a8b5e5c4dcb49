-- What a change makes of a leaf that stands in blocks.
use Rattle.std.specs.Prelude.{ℕ, cond, ⊤}
use Rattle.ft_base.specs.Visibility.{is_of_stage}
use Rattle.ft_props.specs.Overlay.{OverlayState, after_ack, after_acked_changes, after_drop, after_pending_changes}
use Rattle.ft_tree_leaves.specs.declared.leaves.TreeLeaf.{TreeLeaf}
use Rattle.ft_tree_leaves.specs.declared.block_leaf.LeafChange.{LeafChange}
use Rattle.ft_tree_leaves.specs.declared.block_leaf.LeafChange.TheVariants.{SetAcked, PushPending, DropPending, DropAll, Ack}
use Rattle.ft_tree_leaves.specs.Elements.{IsAboveChanges, IsLowestChange, sequenced_overlay}

-- the change may be made where these properties are
abbrev pub MayChange : LeafChange → OverlayState → Type 0
MayChange (SetAcked set) o = ⊤
MayChange (PushPending k set) o = IsAboveChanges k o
MayChange (DropPending k) o = ⊤
MayChange DropAll o = ⊤
MayChange (Ack k s c) o = IsLowestChange k o

module _ {C : Type 0} (stamped : C → ℕ → ℕ → C) where
  -- the leaf after the change, where `stamped` is what an acknowledged insertion makes of a content
  abbrev pub changed_leaf : TreeLeaf C → LeafChange → TreeLeaf C
  changed_leaf x (SetAcked set) = record x { overlay = after_acked_changes set x.overlay }
  changed_leaf x (PushPending k set) = record x { overlay = after_pending_changes k set x.overlay }
  changed_leaf x (DropPending k) = record x { overlay = after_drop k x.overlay }
  changed_leaf x DropAll = record x { overlay = sequenced_overlay x.overlay }
  changed_leaf x (Ack k s c) =
      record x { content = cond (is_of_stage k x.stamps.ins) (stamped x.content s c) x.content; overlay = after_ack k x.overlay }
