-- What a contract sees of `LeafBlocks`.
use Rattle.std.specs.Prelude.{ℕ, Bool, List}
use Rattle.ft_block.specs.Leaves.{LeafList}
use Rattle.ft_tree_leaves.specs.declared.leaves.TreeLeaf.{TreeLeaf}
use Rattle.ft_tree_leaves.specs.declared.references.Reference.{Reference}

-- the leaves from first to last, each with its node, how many blocks stand below the root on the way to a leaf, the floor, the
-- references, each under its number, and
-- whether they may still be used
pub record TrackedLeaves (C : Type 0) : Type 0 where
  pub leaves : List (ℕ × TreeLeaf C)
  pub depth : ℕ
  pub floor : ℕ
  pub refs : List (ℕ × Reference)
  pub usable : Bool

-- the same as blocks show it
abbrev pub list_of : {C : Type 0} → TrackedLeaves C → LeafList (TreeLeaf C)
list_of s = record { leaves = s.leaves; depth = s.depth; floor = s.floor; usable = s.usable }
