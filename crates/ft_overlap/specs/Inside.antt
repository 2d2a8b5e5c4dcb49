-- How an `Index` keeps its items. No public clause cites this module.
use Rattle.std.specs.Prelude.{◌≡◌, ◌≢◌, ◌⊎◌, ℕ, ℤ, zero, suc, ◌+◌, ◌-◌, ◌<◌, ◌≤◌, ◌≤ℤ◌, ◌<ℤ◌, List, [], ◌∷◌, ◌++◌, length, map, insert, Option, Some, None, option_map, cond, All, Contains}
use Rattle.std.specs.List.{flat_map}
use Rattle.std.specs.BTreeMap as tree_map
use Rattle.std.specs.BTreeMap.{BTreeMap}
use Rattle.std.specs.Ordering.{is_eq, nat_cmp}
use Rattle.ft_arena.specs.Forest.{Forest, leaf_value, block_value, kids_of, parent_of}
use Rattle.ft_arena.specs.Ids.{times, without}
use Rattle.ft_shape.specs.declared.headed.Headed.{Headed}
use Rattle.ft_shape.specs.Tree.{IsTree, IsGrowing, IsEdit, IsBare, height_of, below}
use Rattle.ft_shape.specs.Told.{sum_of, told, KeepsBut}
use Rattle.ft_overlap.specs.declared.items.Item.{Item}
use Rattle.ft_overlap.specs.declared.items.Span.{Span}
use Rattle.ft_overlap.specs.declared.index.Index.TheInside.{Inside}
use Rattle.ft_overlap.specs.declared.index.Keyed.{Keyed}
use Rattle.ft_overlap.specs.Items.{Below, ItemList, IsGreatest, item_at, without_key}

abbrev pub Nodes : Type 0
Nodes = Forest Item (Headed Span)

abbrev pub item_of : Option Item → List Item → List Item
item_of None rest = rest
item_of (Some x) rest = x ∷ rest

-- the items of these leaves
abbrev pub items_of : Nodes → List ℕ → List Item
items_of s [] = []
items_of s (id ∷ ids) = item_of (leaf_value s id) (items_of s ids)

-- the items so many levels below this node
abbrev pub items_under : Nodes → ℕ → ℕ → List Item
items_under s h id = items_of s (below s h (id ∷ []))

-- the items below the node
abbrev pub items_below : Nodes → ℕ → List Item
items_below s id = items_under s (height_of s id) id

abbrev pub block_of : Option (Headed Span) → List Item → List Below → List Below
block_of None items rest = rest
block_of (Some v) items rest = record { named = v.sum.last; items = items } ∷ rest

-- those of these nodes that are blocks, with the items so many levels below each
abbrev pub blocks_of : Nodes → ℕ → List ℕ → List Below
blocks_of s h [] = []
blocks_of s h (x ∷ xs) = block_of (block_value s x) (items_under s h x) (blocks_of s h xs)

-- these blocks, which head so many levels, and all blocks below them, level by level
abbrev pub blocks_below : Nodes → ℕ → List ℕ → List Below
blocks_below s zero xs = []
blocks_below s (suc h) xs = blocks_of s (suc h) xs ++ blocks_below s h (flat_map (kids_of s) xs)

abbrev pub depth_of : Nodes → Option ℕ → ℕ
depth_of s None = 0
depth_of s (Some root) = height_of s root - 1

abbrev pub all_blocks : Nodes → Option ℕ → List Below
all_blocks s None = []
all_blocks s (Some root) = blocks_below s (height_of s root) (root ∷ [])

-- the id of each item by its key
abbrev pub ids_of : BTreeMap ℕ Keyed → List (ℕ × List ℕ)
ids_of by_key = map (λ (e : ℕ × Keyed). (e.0, e.1.id)) by_key.entries

-- at each number the second look-up has what the first one has, but this at the key
abbrev pub HasAt : {V : Type 0} → ℕ → Option V → (ℕ → Option V) → (ℕ → Option V) → Type 0
HasAt key w m m' = (j : ℕ) → m' j ≡ cond (is_eq (nat_cmp key j)) w (m j)

-- the leaf of the item with this key
abbrev pub leaf_in : BTreeMap ℕ Keyed → ℕ → Option ℕ
leaf_in by_key key = option_map (λ (v : Keyed). v.leaf) (tree_map.get nat_cmp by_key key)

abbrev pub view_of : Inside → ItemList
view_of a =
    record {
      items = items_of a.arena a.arena.leaves;
      depth = depth_of a.arena a.root;
      blocks = all_blocks a.arena a.root;
      ids = ids_of a.by_key;
    }

-- a tree with this root, or nothing where there is no root
abbrev pub IsRooted : Nodes → Option ℕ → Type 0
IsRooted s None = IsBare s
IsRooted s (Some root) = IsTree s root

-- how many nodes one item more may take
abbrev pub room_for : Nodes → Option ℕ → ℕ
room_for s None = 2
room_for s (Some root) = height_of s root + 2

abbrev pub either_named : Option Item → Option Item → Option Item
either_named (Some x) o = Some x
either_named None o = o

abbrev pub span_last : Option Span → Option Item
span_last None = None
span_last (Some v) = Some v.last

abbrev pub span_start : Option Span → Option ℕ
span_start None = None
span_start (Some v) = Some v.start

-- what a node names, as it tells it: a leaf its item, a block the one that it keeps
abbrev pub named_by : Option Item × Option Span → Option Item
named_by t = either_named t.0 (span_last t.1)

abbrev pub either_start : Option Item → Option ℕ → Option ℕ
either_start (Some x) o = Some x.start
either_start None o = o

-- where the first item of a node starts, as the node tells it: a leaf of its item, a block of what it keeps
abbrev pub start_by : Option Item × Option Span → Option ℕ
start_by t = either_start t.0 (span_start t.1)

-- the same of the first of these nodes
abbrev pub first_start : List (Option Item × Option Span) → Option ℕ
first_start [] = None
first_start (t ∷ ts) = start_by t

-- the item is one that a child names
abbrev pub NamesOne : Item → List (Option Item × Option Span) → Type 0
NamesOne v ts = (t : Option Item × Option Span) × Contains ts t × (named_by t ≡ Some v)

-- no child names an item that ends behind it
abbrev pub NamesLast : (ℕ → ℤ) → Item → List (Option Item × Option Span) → Type 0
NamesLast place v ts = All (λ t. (x : Item) → named_by t ≡ Some x → place x.end ≤ℤ place v.end) ts

-- the end of each item that a node names is known
abbrev pub EndsKnown : (ℕ → Type 0) → Nodes → Type 0
EndsKnown Knows s = (id : ℕ) (x : Item) → named_by (told s id) ≡ Some x → Knows x.end

-- what a block keeps, where its children tell this: the start of the first, and an item that one of them names
pub record IsSpan (v : Span) (ts : List (Option Item × Option Span)) : Type 0 where
  pub one : NamesOne v.last ts
  pub start : first_start ts ≡ Some v.start

-- no child names an item that ends behind the block's
abbrev pub SpansLast : (ℕ → ℤ) → Span → List (Option Item × Option Span) → Type 0
SpansLast place v ts = NamesLast place v.last ts

-- one child of the block names the new item, and no other names one that ends behind v; where the new one doesn't either, a child names v
pub record MayRise (place : ℕ → ℤ) (item : Item) (s : Nodes) (b : ℕ) (v : Span) : Type 0 where
  pub there : NamesOne item (map (told s) (kids_of s b))
  pub start : first_start (map (told s) (kids_of s b)) ≡ Some v.start
  pub one : place item.end ≤ℤ place v.last.end → NamesOne v.last (map (told s) (kids_of s b))
  pub others : (x : ℕ) (y : Item) → 1 ≤ times (kids_of s b) x → named_by (told s x) ≡ Some y → (y ≡ item) ⊎ (place y.end ≤ℤ place v.last.end)

-- this block, if there is one, names what it did before one of its children named the new item
abbrev pub IsUnraised : (ℕ → ℤ) → Item → Nodes → Option ℕ → Type 0
IsUnraised place item s stale = (b : ℕ) (v : Span) → stale ≡ Some b → sum_of (block_value s b) ≡ Some v → MayRise place item s b v

-- the block named an item that ends before the new one, and names the new one
pub record Rises (place : ℕ → ℤ) (item : Item) (old new : Nodes) (b : ℕ) : Type 0 where
  pub before : Item
  pub was : named_by (told old b) ≡ Some before
  pub now : named_by (told new b) ≡ Some item
  pub start : start_by (told new b) ≡ start_by (told old b)
  pub ends : place before.end <ℤ place item.end

-- the leaf with this item is to be put at this place among the block's children, beside one of them
pub record IsLeafPlace (s : Nodes) (root block place id : ℕ) (item : Item) : Type 0 where
  pub at : ℕ
  pub step : ℕ
  pub edit : List ℕ → List ℕ
  pub is_edit : IsEdit step edit at id
  pub growing : IsGrowing s root at id edit
  pub up : parent_of s at ≡ Some block
  pub beside : insert (kids_of s block) place id ≡ edit (kids_of s block)
  pub inside : place ≤ length (kids_of s block)
  pub leaf : leaf_value s id ≡ Some item

-- each block names an item below it
abbrev pub AreNamed : Nodes → Type 0
AreNamed s = (b : ℕ) (v : Headed Span) → block_value s b ≡ Some v → Contains (items_below s b) v.sum.last

-- and that item's end is the greatest
abbrev pub AreGreatest : (ℕ → ℤ) → Nodes → Type 0
AreGreatest place s = (b : ℕ) (v : Headed Span) → block_value s b ≡ Some v → IsGreatest place v.sum.last (items_below s b)

-- the leaf of each item is the one at its key, and there are no others
pub record IsKeyed (s : Nodes) (leaf_at : ℕ → Option ℕ) : Type 0 where
  pub there : (id : ℕ) (x : Item) → leaf_value s id ≡ Some x → leaf_at x.key ≡ Some id
  pub only : (key id : ℕ) → leaf_at key ≡ Some id → (x : Item) × (leaf_value s id ≡ Some x) × (x.key ≡ key)

pub record IsSound (a : Inside) : Type 0 where
  pub rooted : IsRooted a.arena a.root
  pub names : KeepsBut IsSpan a.arena None
  pub keyed : IsKeyed a.arena (leaf_in a.by_key)

-- the last number
abbrev pub last_of : List ℕ → Option ℕ
last_of [] = None
last_of (x ∷ []) = Some x
last_of (x ∷ (y ∷ ys)) = last_of (y ∷ ys)

-- the first of the items, if there is one, starts behind b
abbrev pub IsBehind : (ℕ → ℤ) → ℤ → List Item → Type 0
IsBehind place b [] = Unit {0}
IsBehind place b (x ∷ xs) = b <ℤ place x.start

-- the list of leaves is cut here: the items left of the cut start by b, and the first right of it doesn't; the leaf is the
-- last one left of it, if there is one
pub record IsPlaceFor (place : ℕ → ℤ) (b : ℤ) (s : Nodes) (at : Option ℕ) : Type 0 where
  pub left : List ℕ
  pub right : List ℕ
  pub cut : s.leaves ≡ left ++ right
  pub last : at ≡ last_of left
  pub before : All (λ x. place x.start ≤ℤ b) (items_of s left)
  pub behind : IsBehind place b (items_of s right)

-- a new leaf with this item; each other one keeps its own
pub record AddsLeaf (old new : Nodes) (id : ℕ) (item : Item) : Type 0 where
  pub fresh : leaf_value old id ≡ None
  pub value : leaf_value new id ≡ Some item
  pub others : (x : ℕ) → x ≢ id → leaf_value new x ≡ leaf_value old x

-- the leaf's item is the first with this key
pub record IsFirstWith (key : ℕ) (s : Nodes) (id : ℕ) : Type 0 where
  pub item : Item
  pub there : leaf_value s id ≡ Some item
  pub first : item_at key (items_of s s.leaves) ≡ Some item
  pub rest : items_of s (without s.leaves id) ≡ without_key key (items_of s s.leaves)

-- a blank of this name and so many parts, of which there is one, is that of the ledger
pub record IsBlankOf (ledger_name ledger_parts blank_name blank_parts : ℕ) : Type 0 where
  pub name : blank_name ≡ ledger_name
  pub parts : blank_parts ≡ ledger_parts
  pub one : 0 < blank_parts
