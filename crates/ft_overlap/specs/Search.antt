-- What a search leaves, and what it costs.
use Rattle.std.specs.Prelude.{◌≡◌, ℕ, ℤ, ◌+◌, ◌*◌, ◌≤◌, Bool, true, false, List, [], ◌∷◌, ◌++◌, length, ◌-◌, ◌≤ℤ◌, Some}
use Rattle.ft_overlap.specs.declared.items.Item.{Item}
use Rattle.ft_arena.specs.Forest.{leaf_value}
use Rattle.ft_shape.specs.Tree.{height_of, below}
use Rattle.ft_overlap.specs.Inside.{Nodes, items_of, items_below, IsBehind}
use Rattle.ft_overlap.specs.Items.{keys_within, ends_from, key_if, IsRising}

-- the keys of the items whose end's place is at least a, in order
abbrev pub keys_from : (ℕ → ℤ) → ℤ → List Item → List ℕ
keys_from place a [] = []
keys_from place a (x ∷ xs) = key_if (ends_from place a x) x.key (keys_from place a xs)

-- the node heads h levels and is above k items that meet the range: it took at most so many reads
pub record IsCheap (h k before after : ℕ) : Type 0 where
  pub leaf : h ≡ 0 → after ≤ before + 1
  pub block : 1 ≤ h → after ≤ before + 9 * h * (k + 1)

-- the keys of these items were found, of which a node that heads h levels is the root; where there may be more behind them,
-- all that reach a were found, and the reads are of the keys found alone; else nothing behind them meets the range
pub record Collects (place : ℕ → ℤ) (a b : ℤ) (xs : List Item) (h : ℕ) (old new : List ℕ) (before after : ℕ) (more : Bool) : Type 0 where
  pub keys : new ≡ old ++ keys_within place a b xs
  pub whole : more ≡ true → keys_within place a b xs ≡ keys_from place a xs
  pub past : more ≡ false → (ys : List Item) → IsRising place (xs ++ ys) → keys_within place a b ys ≡ []
  pub cost : more ≡ true → after ≤ before + 1 + 9 * h * length (keys_within place a b xs)

-- the first item below the node
pub record IsFirstBelow (s : Nodes) (node : ℕ) (x : Item) : Type 0 where
  pub leaf : ℕ
  pub there : leaf_value s leaf ≡ Some x
  pub rest : List Item
  pub items : items_below s node ≡ x ∷ rest

-- the first item below the node starts at this end
pub record StartsBelow (s : Nodes) (node start : ℕ) : Type 0 where
  pub item : Item
  pub first : IsFirstBelow s node item
  pub is : item.start ≡ start

-- the first item below the node starts by b
pub record IsStartedBy (place : ℕ → ℤ) (b : ℤ) (s : Nodes) (node : ℕ) : Type 0 where
  pub item : Item
  pub rest : List Item
  pub items : items_below s node ≡ item ∷ rest
  pub by : place item.start ≤ℤ b

-- of these children of a block, the last whose first item starts by b
pub record IsChildBy (place : ℕ → ℤ) (b : ℤ) (s : Nodes) (block : ℕ) (kids : List ℕ) (kid : ℕ) : Type 0 where
  pub front : List ℕ
  pub back : List ℕ
  pub cut : kids ≡ front ++ kid ∷ back
  pub behind : IsBehind place b (items_of s (below s (height_of s block - 1) back))
  pub first : IsStartedBy place b s kid

-- the first item that starts behind b, if there is one, is the first right of what is below the node, or is below it but not its first
pub record IsReached (place : ℕ → ℤ) (b : ℤ) (s : Nodes) (node : ℕ) : Type 0 where
  pub left : List ℕ
  pub right : List ℕ
  pub cut : s.leaves ≡ left ++ (below s (height_of s node) (node ∷ []) ++ right)
  pub behind : IsBehind place b (items_of s right)
  pub first : IsStartedBy place b s node
