-- What an edit makes of a leaf of a range.
use Rattle.std.specs.Prelude.{ℕ, ⊤}
use Rattle.ft_props.specs.Overlay.{OverlayState}
use Rattle.ft_tree_leaves.specs.declared.leaves.TreeLeaf.{TreeLeaf}
use Rattle.ft_tree_leaves.specs.BlockChanges.{MayChange, changed_leaf}
use Rattle.ft_tree_leaves.specs.Elements.{removed_stamps}
use Rattle.ft_tree_steps.specs.declared.ranges.RangeEdit.{RangeEdit}
use Rattle.ft_tree_steps.specs.declared.ranges.RangeEdit.TheVariants.{Change, Remove}

-- the edit may be made where these properties are
abbrev pub MayEdit : RangeEdit → OverlayState → Type 0
MayEdit (Remove t) o = ⊤
MayEdit (Change c) o = MayChange c o

-- the leaf after the edit, where `stamped` is what an acknowledged insertion makes of a content
abbrev pub edited_leaf : {C : Type 0} → (C → ℕ → ℕ → C) → RangeEdit → TreeLeaf C → TreeLeaf C
edited_leaf stamped (Remove t) x = record x { stamps = removed_stamps t x.stamps }
edited_leaf stamped (Change c) x = changed_leaf stamped x c
