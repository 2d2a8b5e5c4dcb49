-- What a contract sees of an `Index`: the items in order, the blocks, each with the item that it names, and the ids by keys.
use Rattle.std.specs.Prelude.{◌≡◌, ◌⊎◌, ℕ, ℤ, int_lt, ◌≤ℤ◌, Bool, true, false, not, ◌&&◌, ◌==◌, if◌then◌else◌, List, [], ◌∷◌, Option, Some, None, All, Contains}
use Rattle.std.specs.BTreeMap.{is_at}
use Rattle.std.specs.Map.{lookup}
use Rattle.std.specs.Ordering.{nat_cmp}
use Rattle.ft_overlap.specs.declared.items.Item.{Item}

-- a block: the item that it names, and the items below it from first to last
pub record Below : Type 0 where
  pub named : Item
  pub items : List Item

-- the items from first to last, how many blocks stand below the root on the way to an item, all blocks, and the id of each item
-- by its key
pub record ItemList : Type 0 where
  pub items : List Item
  pub depth : ℕ
  pub blocks : List Below
  pub ids : List (ℕ × List ℕ)

-- no items
abbrev pub no_items : ItemList
no_items = record { items = []; depth = 0; blocks = []; ids = [] }

-- the id at this key
abbrev pub id_at : ℕ → List (ℕ × List ℕ) → Option (List ℕ)
id_at key ids = lookup (is_at (nat_cmp key)) ids

-- the place of its start is at most b
abbrev pub starts_by : (ℕ → ℤ) → ℤ → Item → Bool
starts_by place b x = not (int_lt b (place x.start))

-- the place of its end is at least a
abbrev pub ends_from : (ℕ → ℤ) → ℤ → Item → Bool
ends_from place a x = not (int_lt (place x.end) a)

-- the keys with this one first, if it is wanted
abbrev pub key_if : Bool → ℕ → List ℕ → List ℕ
key_if true key keys = key ∷ keys
key_if false key keys = keys

-- the keys of the items that meet the range from a to b, in order
abbrev pub keys_within : (ℕ → ℤ) → ℤ → ℤ → List Item → List ℕ
keys_within place a b [] = []
keys_within place a b (x ∷ xs) = key_if (starts_by place b x && ends_from place a x) x.key (keys_within place a b xs)

-- no start has a place above that of a later one
abbrev pub IsRising : (ℕ → ℤ) → List Item → Type 0
IsRising place [] = Unit {0}
IsRising place (x ∷ xs) = All (λ y. place x.start ≤ℤ place y.start) xs × IsRising place xs

-- of the ends of these items, this one's has the greatest place
abbrev pub IsGreatest : (ℕ → ℤ) → Item → List Item → Type 0
IsGreatest place named xs = All (λ y. place y.end ≤ℤ place named.end) xs

-- the same of the item that the block names
abbrev pub NamesGreatest : (ℕ → ℤ) → Below → Type 0
NamesGreatest place b = IsGreatest place b.named b.items

-- the starts rise, and each block names an item whose end is the greatest below it
pub record IsInOrder (place : ℕ → ℤ) (x : ItemList) : Type 0 where
  pub rising : IsRising place x.items
  pub greatest : All (NamesGreatest place) x.blocks

-- both ends of each item are known
abbrev pub AreKnown : (ℕ → Type 0) → List Item → Type 0
AreKnown Knows xs = All (λ x. Knows x.start × Knows x.end) xs

-- the number is that of an end of one of the items
abbrev pub IsEndIn : List Item → ℕ → Type 0
IsEndIn xs e = (x : Item) × Contains xs x × ((x.start ≡ e) ⊎ (x.end ≡ e))

-- of two ends of the items, one that isn't behind the other by p isn't by q
abbrev pub KeepsOrder : (ℕ → ℤ) → (ℕ → ℤ) → List Item → Type 0
KeepsOrder p q xs = (x y : ℕ) → IsEndIn xs x → IsEndIn xs y → p x ≤ℤ p y → q x ≤ℤ q y

-- an item with this key is there
abbrev pub has_key : ℕ → List Item → Bool
has_key key [] = false
has_key key (x ∷ xs) = if x.key == key then true else has_key key xs

-- the item with this key
abbrev pub item_at : ℕ → List Item → Option Item
item_at key [] = None
item_at key (x ∷ xs) = if x.key == key then Some x else item_at key xs

-- the items without the one of this key
abbrev pub without_key : ℕ → List Item → List Item
without_key key [] = []
without_key key (x ∷ xs) = if x.key == key then xs else x ∷ without_key key xs

-- the items with a new one behind those whose start's place isn't above that of its own
abbrev pub put_item : (ℕ → ℤ) → Item → List Item → List Item
put_item place new [] = new ∷ []
put_item place new (x ∷ xs) = if starts_by place (place new.start) x then x ∷ put_item place new xs else new ∷ x ∷ xs
