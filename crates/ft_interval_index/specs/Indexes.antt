-- The indexes of the acknowledged intervals, one for each label. Each interval with both ends on elements has an item there: its
-- key, and the number of its start, is the reference at its start, and the number of its end the one at its end. Both may have
-- lost their elements since.
use Rattle.std.specs.Prelude.{◌≡◌, ℕ, ℤ, pos, negsuc, int_le, ◌<ℤ◌, ◌<◌, ◌≤◌, min, Bool, true, false, ◌&&◌, cond, nat_eq, List, [], ◌∷◌, Option, Some, None, find, is_some, option_map, IfSome, length}
use Rattle.std.specs.List.{list_any}
use Rattle.std.specs.Ordering.{is_eq}
use Rattle.ft_base.specs.Scan.{len}
use Rattle.ft_props.specs.Keys.{Characters, text_cmp}
use Rattle.ft_overlap.specs.declared.items.Item.{Item}
use Rattle.ft_overlap.specs.Items.{IsInOrder, ItemList, KeepsOrder, id_at, item_at, key_if, no_items, put_item, without_key}
use Rattle.ft_tree_leaves.specs.References.{reference_place}
use Rattle.ft_interval_store.specs.declared.intervals.EndPair.{EndPair}
use Rattle.ft_interval_store.specs.declared.intervals.Interval.{Interval}
use Rattle.ft_op.specs.declared.operations.TextOp.{TextOp}
use Rattle.ft_interval_store.specs.Ends.{References, no_ends}
use Rattle.ft_interval_store.specs.Intervals.{Name, is_on, name_cmp}
use Rattle.ft_interval_index.specs.Order.{IsWithin, list_place}
use Rattle.ft_interval_store.specs.State.{ends_of_name}

-- the index of a label
pub record LabelIndex : Type 0 where
  pub label : Characters
  pub index : ItemList

-- the index of this label with these items
abbrev pub labelled : Characters → ItemList → LabelIndex
labelled label index = record { label = label; index = index }

-- the same where there is one
abbrev pub labelled_if : Characters → Option ItemList → Option LabelIndex
labelled_if label index = option_map (labelled label) index

-- the index of the label, if it has one
abbrev pub index_of : Characters → List LabelIndex → Option LabelIndex
index_of label xs = find (λ x. is_eq (text_cmp label x.label)) xs

-- its list of items, empty where there is none
abbrev pub list_in : Option LabelIndex → ItemList
list_in None = no_items
list_in (Some x) = x.index

-- the id of the interval that starts at this reference
abbrev pub id_in : Option LabelIndex → ℕ → Option Characters
id_in None k = None
id_in (Some x) k = id_at k x.index.ids

-- the item of an interval with these references at its ends
abbrev pub item_for : ℕ → ℕ → Item
item_for s e = record { key = s; start = s; end = e }

-- the references at both ends, if both are attached
abbrev pub if_attached : References → ℕ → ℕ → Option (ℕ × ℕ)
if_attached refs s e = cond (is_some (reference_place refs s)) (cond (is_some (reference_place refs e)) (Some (s, e)) None) None

abbrev pub attached_start : References → ℕ → Option ℕ → Option (ℕ × ℕ)
attached_start refs s None = None
attached_start refs s (Some e) = if_attached refs s e

abbrev pub attached_both : References → Option ℕ → Option ℕ → Option (ℕ × ℕ)
attached_both refs None end = None
attached_both refs (Some s) end = attached_start refs s end

abbrev pub attached_ends : References → EndPair ℕ → Option (ℕ × ℕ)
attached_ends refs e = attached_both refs e.start e.end

-- both ends are references, and attached
pub record AreAttached (refs : References) (ends : EndPair ℕ) (s e : ℕ) : Type 0 where
  pub start : ends.start ≡ Some s
  pub end : ends.end ≡ Some e
  pub first : is_some (reference_place refs s) ≡ true
  pub second : is_some (reference_place refs e) ≡ true

-- the same items and ids
pub record IsSameIndex (old new : Option LabelIndex) : Type 0 where
  pub list : list_in new ≡ list_in old
  pub ids : (k : ℕ) → id_in new k ≡ id_in old k

-- numbers of 63 bits for a range; none is at or before the second where the first is none
pub record IsRange (a b : ℕ) (low high : ℤ) : Type 0 where
  pub fits : a ≤ 9223372036854775807 → (low ≡ pos a) × (high ≡ pos (min b 9223372036854775807))
  pub past : 9223372036854775807 < a → high <ℤ negsuc 0

-- whether an item starts at or before b and ends at or after a
abbrev pub meets_range : (ℕ → ℤ) → ℕ → ℕ → Item → Bool
meets_range place a b y = int_le (place y.start) (pos b) && int_le (pos a) (place y.end)

-- the keys of the items that do, in order
abbrev pub keys_meeting : (ℕ → ℤ) → ℕ → ℕ → List Item → List ℕ
keys_meeting place a b [] = []
keys_meeting place a b (y ∷ ys) = key_if (meets_range place a b y) y.key (keys_meeting place a b ys)

-- the item with this key is that of an interval: this one's id, and its ends
pub record IsItemOf (ends_of : Characters → EndPair ℕ) (x : Option LabelIndex) (k : ℕ) (y : Item) : Type 0 where
  pub id : Characters
  pub id_is : id_in x k ≡ Some id
  pub item : y ≡ item_for k y.end
  pub ends : ends_of id ≡ record { start = Some k; end = Some y.end }

-- where it is in order by some places, it is by all others that keep the order of its ends
abbrev pub StaysInOrder : ItemList → Type 0
StaysInOrder x = (p q : ℕ → ℤ) → KeepsOrder p q x.items → IsInOrder p x → IsInOrder q x

-- the items are those of these intervals, each by its id, and in order among n elements; the ends of each are both attached or both not
pub record IsListed (n : ℕ) (refs : References) (ends_of : Characters → EndPair ℕ) (x : Option LabelIndex) : Type 0 where
  pub listed : (id : Characters) (s e : ℕ) → attached_ends refs (ends_of id) ≡ Some (s, e)
      → (item_at s (list_in x).items ≡ Some (item_for s e)) × (id_in x s ≡ Some id)
  pub only : (k : ℕ) (y : Item) → item_at k (list_in x).items ≡ Some y → IsItemOf ends_of x k y
  pub once : (k : ℕ) → len (λ (y : Item). nat_eq y.key k) (list_in x).items ≤ 1
  pub order : IsInOrder (list_place refs) (list_in x)
  pub law : StaysInOrder (list_in x)
  pub within : (k : ℕ) (y : Item) → item_at k (list_in x).items ≡ Some y → IsWithin n (reference_place refs y.start) × IsWithin n (reference_place refs y.end)
  pub together : (k : ℕ) (y : Item) → item_at k (list_in x).items ≡ Some y → is_some (reference_place refs y.start) ≡ is_some (reference_place refs y.end)

-- an item more
pub record PutsItem (refs : References) (id : Characters) (s e : ℕ) (old new : Option LabelIndex) : Type 0 where
  pub items : (list_in new).items ≡ put_item (list_place refs) (item_for s e) (list_in old).items
  pub order : IsInOrder (list_place refs) (list_in new)
  pub law : StaysInOrder (list_in new)
  pub ids : (k : ℕ) → id_in new k ≡ cond (nat_eq s k) (Some id) (id_in old k)

-- the item with this key taken out
pub record TakesItem (refs : References) (s : ℕ) (old new : Option LabelIndex) : Type 0 where
  pub items : (list_in new).items ≡ without_key s (list_in old).items
  pub order : IsInOrder (list_place refs) (list_in new)
  pub law : StaysInOrder (list_in new)
  pub ids : (k : ℕ) → id_in new k ≡ cond (nat_eq s k) None (id_in old k)

-- what an interval with these ends makes of the index of its label; where that has no items it may go
abbrev pub Enlists : References → Characters → EndPair ℕ → Option LabelIndex → Option LabelIndex → Type 0
Enlists refs id ends old new = elim (attached_ends refs ends) as (λ _. Type 0) [
  | None ↦ IsSameIndex old new
  | Some p ↦ PutsItem refs id p.0 p.1 old new
]

-- and what it makes of it where it goes
abbrev pub Unlists : References → EndPair ℕ → Option LabelIndex → Option LabelIndex → Type 0
Unlists refs ends old new = elim ends.start as (λ _. Type 0) [ None ↦ new ≡ old | Some s ↦ TakesItem refs s old new ]

-- an index, where there is one, has items
abbrev pub HasItems : Option LabelIndex → Type 0
HasItems x = IfSome x (λ y. 1 ≤ length y.index.items)

-- the indexes of all other labels stay
abbrev pub KeepsOtherLabels : Characters → List LabelIndex → List LabelIndex → Type 0
KeepsOtherLabels label old new = (l : Characters) → is_eq (text_cmp l label) ≡ false → index_of l new ≡ index_of l old

-- the ends of the interval of a name, none where it is this name
abbrev pub ends_without : Name → List (Interval ℕ) → Name → EndPair ℕ
ends_without m is n = cond (is_eq (name_cmp n m)) no_ends (ends_of_name n is)

-- the same where the operation is on it
abbrev pub ends_but : TextOp → List (Interval ℕ) → Name → EndPair ℕ
ends_but op is n = cond (is_on n op) no_ends (ends_of_name n is)

-- each index is that of the intervals of its label with these ends
abbrev pub AreListed : ℕ → References → (Name → EndPair ℕ) → List LabelIndex → Type 0
AreListed n refs ends xs = (l : Characters) → IsListed n refs (λ id. ends (l, id)) (index_of l xs)

-- whether the id is this one, if there is one
abbrev pub is_id : Characters → Option Characters → Bool
is_id id None = false
is_id id (Some i) = is_eq (text_cmp id i)

-- whether one of these keys of the index is that of the interval of that name
abbrev pub is_found : Name → LabelIndex → List ℕ → Bool
is_found n x keys = is_eq (text_cmp n.0 x.label) && list_any (λ k. is_id n.1 (id_in (Some x) k)) keys

-- whether the index has an item of that name that meets the range
abbrev pub is_met : (ℕ → ℤ) → ℕ → ℕ → Name → Option LabelIndex → Bool
is_met place a b n None = false
is_met place a b n (Some x) = is_found n x (keys_meeting place a b x.index.items)

-- the ends of the interval of that name are places among so many elements, if it is there and both are attached
abbrev pub AreNamedEndsWithin : ℕ → References → Name → List (Interval ℕ) → Type 0
AreNamedEndsWithin k refs m is =
    (s e : ℕ) → AreAttached refs (ends_of_name m is) s e → IsWithin k (reference_place refs s) × IsWithin k (reference_place refs e)

-- the same of the interval that the operation is on
abbrev pub AreEndsWithin : ℕ → References → TextOp → List (Interval ℕ) → Type 0
AreEndsWithin k refs op is = (n : Name) → is_on n op ≡ true → AreNamedEndsWithin k refs n is
