-- What a contract sees of an `Arena`.
use Rattle.std.specs.Prelude.{◌≡◌, ◌≢◌, ℕ, ◌≤◌, List, [], length, Option, Some, None, IsSome, slice_index_or, slice_set, insert, remove}
use Rattle.ft_arena.specs.declared.nodes.Node.{Node}
use Rattle.ft_arena.specs.declared.nodes.Node.TheVariants.{Leaf, Block}
use Rattle.ft_arena.specs.Ids.{times, points}

-- a node with its parent
pub record Entry (L B : Type 0) : Type 0 where
  pub node : Node L B
  pub parent : Option ℕ

-- the leaves from first to last, the node or nothing at each number, and how many nodes may be made
-- without memory
pub record Forest (L B : Type 0) : Type 0 where
  pub leaves : List ℕ
  pub nodes : List (Option (Entry L B))
  pub spare : ℕ

-- 1 for something, 0 for nothing
abbrev pub count_some : {X : Type 0} → Option X → ℕ
count_some None = 0
count_some (Some x) = 1

module _ {L B : Type 0} where
  -- the node of this number, if it is live
  abbrev pub entry : Forest L B → ℕ → Option (Entry L B)
  entry s id = slice_index_or s.nodes id None

  abbrev pub leaf_of_node : Node L B → Option L
  leaf_of_node (Leaf value) = Some value
  leaf_of_node (Block kids value) = None

  abbrev pub block_of_node : Node L B → Option B
  block_of_node (Leaf value) = None
  block_of_node (Block kids value) = Some value

  abbrev pub kids_of_node : Node L B → List ℕ
  kids_of_node (Leaf value) = []
  kids_of_node (Block kids value) = kids

  -- the node with other children, if it is a block
  abbrev pub with_kids : Node L B → List ℕ → Node L B
  with_kids (Leaf value) ks = Leaf value
  with_kids (Block kids value) ks = Block ks value

  abbrev pub leaf_of_entry : Option (Entry L B) → Option L
  leaf_of_entry None = None
  leaf_of_entry (Some e) = leaf_of_node e.node

  abbrev pub block_of_entry : Option (Entry L B) → Option B
  block_of_entry None = None
  block_of_entry (Some e) = block_of_node e.node

  abbrev pub kids_of_entry : Option (Entry L B) → List ℕ
  kids_of_entry None = []
  kids_of_entry (Some e) = kids_of_node e.node

  abbrev pub parent_of_entry : Option (Entry L B) → Option ℕ
  parent_of_entry None = None
  parent_of_entry (Some e) = e.parent

  -- the value of a live leaf, or of a live block
  abbrev pub leaf_value : Forest L B → ℕ → Option L
  leaf_value s id = leaf_of_entry (entry s id)

  abbrev pub block_value : Forest L B → ℕ → Option B
  block_value s id = block_of_entry (entry s id)

  -- the place is before all leaves, or after a live one
  abbrev pub IsPlace : Forest L B → Option ℕ → Type 0
  IsPlace s None = Unit {0}
  IsPlace s (Some id) = IsSome (leaf_value s id)

  -- the children of a block, and none for any other number
  abbrev pub kids_of : Forest L B → ℕ → List ℕ
  kids_of s id = kids_of_entry (entry s id)

  abbrev pub parent_of : Forest L B → ℕ → Option ℕ
  parent_of s id = parent_of_entry (entry s id)

  -- the list of leaves has each live leaf once and nothing else, and a child stands once among the
  -- children of its parent and nowhere else
  pub record IsForest (s : Forest L B) : Type 0 where
    pub leaf_once : (id : ℕ) → times s.leaves id ≡ count_some (leaf_value s id)
    pub child_once : (block id : ℕ) → times (kids_of s block) id ≡ points (parent_of s id) block
    pub few : (block : ℕ) → length (kids_of s block) ≤ 8

  -- this number has this entry, and every other keeps what it had
  pub record Changes (old new : Forest L B) (id : ℕ) (now : Option (Entry L B)) : Type 0 where
    pub changed : entry new id ≡ now
    pub others : (other : ℕ) → other ≢ id → entry new other ≡ entry old other

  -- the child stands at this place among the block's children, and nothing else changes
  pub record PutsChild (old new : Forest L B) (block at child : ℕ) : Type 0 where
    pub kids : kids_of new block ≡ insert (kids_of old block) at child
    pub other_kids : (b : ℕ) → b ≢ block → kids_of new b ≡ kids_of old b
    pub parent : parent_of new child ≡ Some block
    pub other_parents : (id : ℕ) → id ≢ child → parent_of new id ≡ parent_of old id
    pub leaf_values : (id : ℕ) → leaf_value new id ≡ leaf_value old id
    pub block_values : (id : ℕ) → block_value new id ≡ block_value old id

  -- the child at this place is taken out, and nothing else changes
  pub record TakesChild (old new : Forest L B) (block at child : ℕ) : Type 0 where
    pub kids : kids_of new block ≡ remove (kids_of old block) at
    pub other_kids : (b : ℕ) → b ≢ block → kids_of new b ≡ kids_of old b
    pub parent : parent_of new child ≡ None
    pub other_parents : (id : ℕ) → id ≢ child → parent_of new id ≡ parent_of old id
    pub leaf_values : (id : ℕ) → leaf_value new id ≡ leaf_value old id
    pub block_values : (id : ℕ) → block_value new id ≡ block_value old id

  -- the leaf has this value
  abbrev pub with_leaf : Forest L B → ℕ → L → Forest L B
  with_leaf s id value = record s { nodes = slice_set s.nodes id (Some record { node = Leaf value; parent = parent_of s id }) }

  abbrev pub with_block_entry : Option (Entry L B) → B → Option (Entry L B)
  with_block_entry None value = None
  with_block_entry (Some e) value = Some record { node = Block (kids_of_node e.node) value; parent = e.parent }

  -- the block has this value
  abbrev pub with_block : Forest L B → ℕ → B → Forest L B
  with_block s id value = record s { nodes = slice_set s.nodes id (with_block_entry (entry s id) value) }
