-- Lists of items, each the stamps of some elements with their number.
--     seen r c items      the lengths of the items that the perspective (r, c) sees
--     folded_items floor items      the items as they are written at a floor
use Rattle.std.specs.Prelude.{ℕ, ◌+◌, Bool, false, not, cond, nat_le, List, [], ◌∷◌, ◌++◌}
use Rattle.std.specs.List.{list_any}
use Rattle.ft_base.specs.declared.stamps.Stamp.{Stamp}
use Rattle.ft_base.specs.declared.stamps.Stamp.TheVariants.{Acked, Local}
use Rattle.ft_base.specs.declared.elements.Element.{Element}
use Rattle.ft_base.specs.Visibility.{sees}
use Rattle.ft_base.specs.Scan.{retain_map}

-- elements of equal stamps, and how many they are
pub record Item : Type 0 where
  pub element : Element
  pub len : ℕ

-- n elements of these stamps
abbrev pub item_of : Element → ℕ → Item
item_of e n = record { element = e; len = n }

-- the stamps of an insertion that nobody removed
abbrev pub inserted_element : ℕ → ℕ → Element
inserted_element seq conn = record { ins = Acked seq conn; dels = [] }

-- the stamps with one more removal
abbrev pub removed : ℕ → ℕ → Element → Element
removed seq conn e = record e { dels = e.dels ++ (Acked seq conn ∷ []) }

-- the lengths of the items whose stamps pass the test
abbrev pub length_where : (Element → Bool) → List Item → ℕ
length_where p [] = 0
length_where p (x ∷ xs) = cond (p x.element) x.len 0 + length_where p xs

-- the lengths of the items that the perspective (r, c) sees
abbrev pub length_seen : ℕ → ℕ → List Item → ℕ
length_seen r c xs = length_where (λ e. sees e r c) xs

-- an insertion as it is written at a floor: (0, 0) where it is at or below it
abbrev pub folded_stamp : ℕ → Stamp → Stamp
folded_stamp floor (Acked seq conn) = cond (nat_le seq floor) (Acked 0 0) (Acked seq conn)
folded_stamp floor (Local stage) = Local stage

-- a removal at or below the floor
abbrev pub is_at_most : ℕ → Stamp → Bool
is_at_most floor (Acked seq conn) = nat_le seq floor
is_at_most floor (Local stage) = false

-- no removal of the item is at or below the floor
abbrev pub is_kept : ℕ → Item → Bool
is_kept floor x = not (list_any (is_at_most floor) x.element.dels)

-- the item with its insertion as it is written at the floor
abbrev pub folded_item : ℕ → Item → Item
folded_item floor x = record x { element = record x.element { ins = folded_stamp floor x.element.ins } }

-- the items without those removed at or below the floor, with insertions as they are written there
abbrev pub folded_items : ℕ → List Item → List Item
folded_items floor xs = retain_map (is_kept floor) (folded_item floor) xs
