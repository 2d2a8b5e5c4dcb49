-- A compaction of all leaves that goes from one with a sequenced removal to the next, as the loop does it. No public clause
-- cites this module.
use Rattle.std.specs.Prelude.{◌≡◌, ℕ, ◌+◌, ◌-◌, not, List, [], ◌∷◌, ◌++◌, Option, Some, None, filter}
use Rattle.ft_base.specs.declared.stamps.Stamp.{Stamp}
use Rattle.ft_block.specs.declared.blocks.Found.{Found}
use Rattle.ft_block.specs.Leaves.{length_by, place_by}
use Rattle.ft_tree_leaves.specs.declared.leaves.TreeLeaf.{TreeLeaf}
use Rattle.ft_tree_leaves.specs.Edits.{with_place}
use Rattle.ft_tree_leaves.specs.LeafLists.{elements, leaf_removed}
use Rattle.ft_tree_leaves.specs.Places.{seen_before}
use Rattle.ft_tree_leaves.specs.References.{ChangesReferences}
use Rattle.ft_tree.specs.State.{TreeState}
use Rattle.ft_zamboni.specs.Scours.{Writes, collected, is_collectable}
use Rattle.ft_zamboni.specs.Sweeps.{Goes, Sweeps}

-- the node of the leaf that was found
abbrev pub leaf_found : Option Found → Option ℕ
leaf_found None = None
leaf_found (Some found) = found.leaf

-- the node of the first leaf with a sequenced removal behind those that have so many elements with one
abbrev pub next_removed : {C U : Type 0} → (C → List U) → ℕ → List (ℕ × TreeLeaf C) → Option ℕ
next_removed units passed xs = leaf_found (place_by (leaf_removed units) xs (passed + 1))

-- the elements of a leaf, if it was kept
abbrev pub length_kept : Option ℕ → ℕ → ℕ
length_kept None n = 0
length_kept (Some id) n = n

module _ {C U : Type 0} (units : C → List U) (by : C → Option Stamp) where
  -- all leaves up to some were looked at, and those that were kept have so many elements with a sequenced removal
  pub record Collects (old now : TreeState C) (passed : ℕ) (given taken : List C) : Type 0 where
    pub seen : List (ℕ × TreeLeaf C)
    pub ahead : List (ℕ × TreeLeaf C)
    pub kept : List (ℕ × TreeLeaf C)
    pub last : Option ℕ
    pub sweeps : Sweeps units by old now [] seen ahead [] last given taken
    pub now_is : now.leaves ≡ kept ++ ahead
    pub passed_is : passed ≡ length_by (leaf_removed units) kept

  -- all leaves were looked at
  pub record CollectsAll (old now : TreeState C) (given taken : List C) : Type 0 where
    pub list : Writes old.floor (elements units by now.leaves)
        (filter (λ e. not (is_collectable old.floor e.stamps)) (elements units by old.leaves))
    pub taken_is : taken ≡ given ++ collected old.floor old.leaves
    pub refs : ChangesReferences
        (with_place (λ i. i - seen_before (λ e. is_collectable old.floor e.stamps) (elements units by old.leaves) i)) old.refs now.refs
    pub sweep : now.sweep ≡ None
    pub goes : Goes old now
