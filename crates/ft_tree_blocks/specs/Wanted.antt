-- What a leaf is to have of a pending stage, and the next stage of which one has it. No public clause cites this module.
use Rattle.std.specs.Prelude.{◌≡◌, ℕ, ◌<◌, ◌≤◌, Bool, true, false, List, Option, Some, None}
use Rattle.std.specs.List.{list_any}
use Rattle.ft_base.specs.Visibility.{is_of_stage}
use Rattle.ft_block.specs.Leaves.{value_at}
use Rattle.ft_tree_leaves.specs.declared.leaves.TreeLeaf.{TreeLeaf}
use Rattle.ft_tree_leaves.specs.Edits.{is_touched_by}
use Rattle.ft_tree_blocks.specs.declared.next_stages.Wanted.{Wanted}
use Rattle.ft_tree_blocks.specs.declared.next_stages.Wanted.TheVariants.{Removal, Anything}

-- the leaf has that of stage k
abbrev pub has_wanted : {C : Type 0} → Wanted → ℕ → TreeLeaf C → Bool
has_wanted Removal k x = list_any (is_of_stage k) x.stamps.dels
has_wanted Anything k x = is_touched_by k x

-- the leaf is one, and has that of stage k
abbrev pub is_wanted_by : {C : Type 0} → Wanted → ℕ → Option (TreeLeaf C) → Bool
is_wanted_by w k None = false
is_wanted_by w k (Some x) = has_wanted w k x

-- the same of the leaf of this node
abbrev pub is_wanted_at : {C : Type 0} → Wanted → List (ℕ × TreeLeaf C) → ℕ → ℕ → Bool
is_wanted_at w leaves k id = is_wanted_by w k (value_at leaves id)

-- the stage is the least one above k at which a node passes the test: none exactly where there is none
abbrev pub IsLeastStage : ℕ → (ℕ → ℕ → Bool) → Option ℕ → Type 0
IsLeastStage k test None = (j id : ℕ) → k < j → test j id ≡ true → ⊥
IsLeastStage k test (Some m) =
    (k < m) × ((id : ℕ) × (test m id ≡ true)) × ((j id : ℕ) → k < j → test j id ≡ true → m ≤ j)
