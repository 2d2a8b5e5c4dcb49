-- Which leaves each pending stage touched: lists of nodes by rising stage. They may list a leaf that has nothing of the stage. No
-- public clause cites this module.
use Rattle.std.specs.Prelude.{◌≡◌, ℕ, ◌<◌, Bool, true, false, cond, not, ◌&&◌, ◌||◌, nat_eq, nat_lt, List, [], ◌∷◌, ◌++◌, Option, Some, None, IsSome, filter, map, ⊤, ◌⊎◌}
use Rattle.std.specs.List.{AllByRecursion, list_any, prefix_len}
use Rattle.ft_base.specs.declared.elements.Element.{Element}
use Rattle.ft_base.specs.Visibility.{is_of_stage}
use Rattle.ft_block.specs.Leaves.{value_at}
use Rattle.ft_tree_leaves.specs.declared.block_leaf.LeafChange.{LeafChange}
use Rattle.ft_tree_leaves.specs.declared.block_leaf.LeafChange.TheVariants.{SetAcked, PushPending, DropPending, DropAll, Ack}
use Rattle.ft_tree_leaves.specs.declared.leaves.TreeLeaf.{TreeLeaf}
use Rattle.ft_tree_leaves.specs.Edits.{is_touched_by}

-- a pending stage, and nodes of leaves that it touched
pub record NodesOfStage : Type 0 where
  pub stage : ℕ
  pub nodes : List ℕ

-- the node is one of these
abbrev pub holds : List ℕ → ℕ → Bool
holds ids id = list_any (λ n. nat_eq n id) ids

-- the node is listed for stage k
abbrev pub is_listed : List NodesOfStage → ℕ → ℕ → Bool
is_listed [] k id = false
is_listed (s ∷ ss) k id = (nat_eq s.stage k && holds s.nodes id) || is_listed ss k id

-- the stages rise
abbrev pub AreRising : List NodesOfStage → Type 0
AreRising [] = ⊤
AreRising (s ∷ ss) = AllByRecursion (λ t. s.stage < t.stage) ss × AreRising ss

-- how many lists are of lower stages
abbrev pub stages_below : ℕ → List NodesOfStage → ℕ
stages_below k ss = prefix_len (λ s. nat_lt s.stage k) ss

-- the list is one, and of stage k
abbrev pub is_list_of : ℕ → Option NodesOfStage → Bool
is_list_of k None = false
is_list_of k (Some s) = nat_eq s.stage k

-- with the second node wherever the first one is listed
abbrev pub with_heir : ℕ → ℕ → NodesOfStage → NodesOfStage
with_heir front rear s = cond (holds s.nodes front) (record s { nodes = s.nodes ++ rear ∷ [] }) s

-- without the node
abbrev pub purged : ℕ → NodesOfStage → NodesOfStage
purged id s = record s { nodes = filter (λ n. not (nat_eq n id)) s.nodes }

-- there is a node
abbrev pub is_some_node : List ℕ → Bool
is_some_node [] = false
is_some_node (n ∷ ns) = true

-- the lists without the node, of which those without any go
abbrev pub all_purged : ℕ → List NodesOfStage → List NodesOfStage
all_purged id ss = filter (λ s. is_some_node s.nodes) (map (purged id) ss)

-- the same, if a node is given
abbrev pub purged_at : Option ℕ → List NodesOfStage → List NodesOfStage
purged_at None ss = ss
purged_at (Some id) ss = all_purged id ss

-- this node alone is listed for more stages than before
pub record Notes (id : ℕ) (old new : List NodesOfStage) : Type 0 where
  pub kept : (k z : ℕ) → is_listed old k z ≡ true → is_listed new k z ≡ true
  pub only : (k z : ℕ) → is_listed new k z ≡ true → (is_listed old k z ≡ true) ⊎ (z ≡ id)
  pub rising : AreRising new

-- one of the stamps is pending, of stage k
abbrev pub is_stamped_by : ℕ → Element → Bool
is_stamped_by k e = is_of_stage k e.ins || list_any (is_of_stage k) e.dels

-- the stage of the changes that this change of a leaf adds, if it adds any
abbrev pub added_stage : LeafChange → Option ℕ
added_stage (SetAcked set) = None
added_stage (PushPending k set) = Some k
added_stage (DropPending k) = None
added_stage DropAll = None
added_stage (Ack k s c) = None

-- each leaf is listed for each stage of which it has something, and each listed node is a leaf's
pub record Tracks {C : Type 0} (leaves : List (ℕ × TreeLeaf C)) (ss : List NodesOfStage) : Type 0 where
  pub covers : (k id : ℕ) (x : TreeLeaf C) → value_at leaves id ≡ Some x → is_touched_by k x ≡ true → is_listed ss k id ≡ true
  pub live : (k id : ℕ) → is_listed ss k id ≡ true → IsSome (value_at leaves id)
  pub rising : AreRising ss

-- each leaf that has something of stage k is that of one of these nodes
abbrev pub HaveAllOf : {C : Type 0} → ℕ → List (ℕ × TreeLeaf C) → List ℕ → Type 0
HaveAllOf {C} k leaves ids = (id : ℕ) (x : TreeLeaf C) → value_at leaves id ≡ Some x → is_touched_by k x ≡ true → holds ids id ≡ true
