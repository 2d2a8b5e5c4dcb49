-- A balanced tree over an arena, whatever its blocks keep besides their height. The height of a block stands in its value, so
-- that what makes a tree is said node by node, and the leaves are read level by level from the root.
use Rattle.std.specs.Prelude.{◌≡◌, ◌≢◌, ℕ, zero, suc, ◌+◌, ◌-◌, ◌≤◌, List, [], ◌∷◌, ◌++◌, length, insert, slice_get, Option, Some, None, IsSome}
use Rattle.std.specs.Prelude.{if◌then◌else◌, nat_le, ◌==◌}
use Rattle.std.specs.List.{flat_map}
use Rattle.ft_arena.specs.declared.nodes.Node.{Node}
use Rattle.ft_arena.specs.declared.nodes.Node.TheVariants.{Leaf, Block}
use Rattle.ft_arena.specs.Forest.{Forest, Entry, IsForest, entry, kids_of, parent_of, block_value, leaf_value}
use Rattle.ft_arena.specs.Ids.{times, without}
use Rattle.ft_shape.specs.declared.headed.Headed.{Headed}

-- the sum of f over the list
abbrev pub total : (ℕ → ℕ) → List ℕ → ℕ
total f [] = 0
total f (x ∷ xs) = f x + total f xs

-- the number in whose stretch the p-th place lies, and how far into it, where p counts from 1
abbrev pub seek : (ℕ → ℕ) → List ℕ → ℕ → Option (ℕ × ℕ)
seek f [] p = None
seek f (x ∷ xs) p = if nat_le p (f x) then Some (x, p) else seek f xs (p - f x)

-- the numbers before x
abbrev pub numbers_before : List ℕ → ℕ → List ℕ
numbers_before [] x = []
numbers_before (y ∷ ys) x = if y == x then [] else y ∷ numbers_before ys x

-- the same, or all where no number is given
abbrev pub up_to : List ℕ → Option ℕ → List ℕ
up_to ys None = ys
up_to ys (Some x) = numbers_before ys x

-- the list with new put directly before each at
abbrev pub insert_before : List ℕ → ℕ → ℕ → List ℕ
insert_before [] at new = []
insert_before (y ∷ ys) at new =
    if y == at then new ∷ y ∷ insert_before ys at new else y ∷ insert_before ys at new

-- an edit of a list that puts a new number beside each at, this many places from it
pub record IsEdit (step : ℕ) (e : List ℕ → List ℕ) (at new : ℕ) : Type 0 where
  pub none : e [] ≡ []
  pub joins : (xs ys : List ℕ) → e (xs ++ ys) ≡ e xs ++ e ys
  pub apart : (xs : List ℕ) → times xs at ≡ 0 → e xs ≡ xs
  pub others : (xs : List ℕ) (x : ℕ) → x ≢ new → times (e xs) x ≡ times xs x
  pub counts : (xs : List ℕ) → times xs at ≡ 1 → times (e xs) new ≡ times xs new + 1
  pub longer : (xs : List ℕ) → length xs ≤ length (e xs)
  pub totals : (f : ℕ → ℕ) (xs : List ℕ) → times xs at ≡ 1 → total f (e xs) ≡ total f xs + f new
  pub places : (xs : List ℕ) (i : ℕ) → slice_get xs i ≡ Some at → times xs at ≤ 1 → insert xs (i + step) new ≡ e xs

-- how the nodes of a tree are measured: a leaf by its value, a block by what it keeps
pub record Measure (L S : Type 0) : Type 0 where
  pub leaf : L → ℕ
  pub block : (Headed S) → ℕ

module _ {L S : Type 0} where
  abbrev pub height_of_node : Node L (Headed S) → ℕ
  height_of_node (Leaf value) = 0
  height_of_node (Block kids value) = value.height

  abbrev pub length_of_node : Measure L S → Node L (Headed S) → ℕ
  length_of_node measure (Leaf value) = measure.leaf value
  length_of_node measure (Block kids value) = measure.block value

  -- nothing for a leaf, the height for a block
  abbrev pub kind_of_node : Node L (Headed S) → Option ℕ
  kind_of_node (Leaf value) = None
  kind_of_node (Block kids value) = Some value.height

  abbrev pub height_of_entry : Option (Entry L (Headed S)) → ℕ
  height_of_entry None = 0
  height_of_entry (Some e) = height_of_node e.node

  abbrev pub length_of_entry : Measure L S → Option (Entry L (Headed S)) → ℕ
  length_of_entry measure None = 0
  length_of_entry measure (Some e) = length_of_node measure e.node

  abbrev pub kind_of_entry : Option (Entry L (Headed S)) → Option (Option ℕ)
  kind_of_entry None = None
  kind_of_entry (Some e) = Some (kind_of_node e.node)

  -- how many levels of blocks a node heads; a leaf heads none
  abbrev pub height_of : Forest L (Headed S) → ℕ → ℕ
  height_of s id = height_of_entry (entry s id)

  -- the length of a node by this measure
  abbrev pub length_of : Measure L S → Forest L (Headed S) → ℕ → ℕ
  length_of measure s id = length_of_entry measure (entry s id)

  -- no node, a leaf, or a block of some height
  abbrev pub kind_of : Forest L (Headed S) → ℕ → Option (Option ℕ)
  kind_of s id = kind_of_entry (entry s id)

  -- the nodes that many levels below these
  abbrev pub below : Forest L (Headed S) → ℕ → List ℕ → List ℕ
  below s zero xs = xs
  below s (suc j) xs = below s j (flat_map (kids_of s) xs)

  -- the shape of a balanced tree, beside which one node may stand that is not in it, and in which one block may have too
  -- few children
  pub record IsShape (s : Forest L (Headed S)) (root : ℕ) (extra short : Option ℕ) : Type 0 where
    pub forest : IsForest s
    pub root_is_block : IsSome (block_value s root)
    pub root_is_top : parent_of s root ≡ None
    pub one_top : (id : ℕ) → IsSome (entry s id) → id ≢ root → extra ≢ Some id → IsSome (parent_of s id)
    pub low : (id : ℕ) → IsSome (entry s id) → height_of s id ≤ height_of s root
    pub heights : (id block : ℕ) → parent_of s id ≡ Some block → height_of s block ≡ height_of s id + 1
    pub high : (block : ℕ) → IsSome (block_value s block) → 1 ≤ height_of s block
    pub half_full : (block : ℕ) → IsSome (block_value s block) → block ≢ root → short ≢ Some block → 4 ≤ length (kids_of s block)
    pub root_filled : 1 ≤ length (kids_of s root)

  -- a balanced tree whose lowest level is the list of leaves
  pub record IsTree (s : Forest L (Headed S)) (root : ℕ) : Type 0 where
    pub shape : IsShape s root None None
    pub leaves : s.leaves ≡ below s (height_of s root) (root ∷ [])

  -- each block, but one, is as long as its children together
  abbrev pub SumsBut : Measure L S → Forest L (Headed S) → Option ℕ → Type 0
  SumsBut measure s stale =
      (block : ℕ) → IsSome (block_value s block) → stale ≢ Some block → length_of measure s block ≡ total (length_of measure s) (kids_of s block)

  -- what the block keeps is too little by `more` and too much by `less` for these children
  abbrev pub Owes : Measure L S → Forest L (Headed S) → ℕ → List ℕ → ℕ → ℕ → Type 0
  Owes measure s block kids more less = length_of measure s block + more ≡ total (length_of measure s) kids + less

  -- the same for the children of this block, if one is given
  abbrev pub OwesAt : Measure L S → Forest L (Headed S) → Option ℕ → ℕ → ℕ → Type 0
  OwesAt measure s stale more less = (block : ℕ) → stale ≡ Some block → Owes measure s block (kids_of s block) more less

  -- the same for the children of the node's parent, once they are edited
  abbrev pub OwesAbove : Measure L S → Forest L (Headed S) → ℕ → (List ℕ → List ℕ) → ℕ → ℕ → Type 0
  OwesAbove measure s at e more less = (block : ℕ) → parent_of s at ≡ Some block → Owes measure s block (e (kids_of s block)) more less

  -- a balanced tree of some of the leaves, but for a lower node beside it and a block that has too few children
  pub record IsPartTree (s : Forest L (Headed S)) (root : ℕ) (extra short : Option ℕ) : Type 0 where
    pub shape : IsShape s root extra short
    pub low : (id : ℕ) → extra ≡ Some id → height_of s id ≡ 0
    pub part : (f : ℕ → ℕ) → total f (below s (height_of s root) (root ∷ [])) ≤ total f s.leaves

  -- a balanced tree of all leaves but this one, which has no parent, where one block may have too few children
  pub record IsApart (s : Forest L (Headed S)) (root id : ℕ) (short : Option ℕ) : Type 0 where
    pub shape : IsShape s root (Some id) short
    pub live : IsSome (leaf_value s id)
    pub top : parent_of s id ≡ None
    pub leaves : without s.leaves id ≡ below s (height_of s root) (root ∷ [])
    pub filled : (block : ℕ) → short ≡ Some block → 1 ≤ length (kids_of s block)

  -- a node that is not in the tree yet, to be put beside this one on its level, as the edit says
  pub record IsGrowing (s : Forest L (Headed S)) (root at new : ℕ) (e : List ℕ → List ℕ) : Type 0 where
    pub shape : IsShape s root (Some new) None
    pub new_live : IsSome (entry s new)
    pub new_top : parent_of s new ≡ None
    pub new_apart : new ≢ root
    pub at_live : IsSome (entry s at)
    pub at_apart : at ≢ new
    pub at_filled : 1 ≤ height_of s at → 4 ≤ length (kids_of s at)
    pub level : height_of s new ≡ height_of s at
    pub leaves : s.leaves ≡ below s (height_of s at) (e (below s (height_of s root - height_of s at) (root ∷ [])))

  -- no node at all
  pub record IsBare (s : Forest L (Headed S)) : Type 0 where
    pub forest : IsForest s
    pub leaves : s.leaves ≡ []
    pub nodes : (id : ℕ) → entry s id ≡ None
