-- What compaction may take away from a list of elements, and what a summary keeps of one. Below the floor nobody looks:
-- no perspective that still comes has a smaller reference number.
use Rattle.std.specs.Prelude.{◌≡◌, ℕ, Bool, true, false, cond, not, ◌&&◌, nat_le, List, [], ◌∷◌}
use Rattle.ft_base.specs.declared.stamps.Stamp.{Stamp}
use Rattle.ft_base.specs.declared.stamps.Stamp.TheVariants.{Acked, Local}
use Rattle.ft_base.specs.Scan.{retain_map}
use Rattle.ft_props.specs.Element.{ListElement, ElementId, id, is_pending, is_sequenced}
use Rattle.ft_props.specs.Steps.{Sequence}

-- whether the first removal is at or below the floor
abbrev pub has_collectable_removal : ℕ → List Stamp → Bool
has_collectable_removal floor (Acked s c ∷ dels) = nat_le s floor
has_collectable_removal floor _ = false

-- whether the element is sequenced and its first removal at or below the floor
abbrev pub is_collectable : ℕ → ListElement → Bool
is_collectable floor e = is_sequenced e && has_collectable_removal floor e.dels

-- whether the insertion is sequenced at or below the floor
abbrev pub is_insertion_at_or_below : ℕ → Stamp → Bool
is_insertion_at_or_below floor (Acked s c) = nat_le s floor
is_insertion_at_or_below floor (Local k) = false

-- the element with its insertion written as (0, 0), the one that everybody sees
abbrev pub with_universal_insertion : ListElement → ListElement
with_universal_insertion e = record e { ins = Acked 0 0 }

-- whether the next element is pending
abbrev pub is_before_pending : List ListElement → Bool
is_before_pending [] = false
is_before_pending (e ∷ xs) = is_pending e

-- kept elements of a list: all but collectable ones that nothing holds and that stand before no pending element, where
-- insertions at or below the floor may be written as the universal one
pub data Keeps (floor : ℕ) (held : ElementId → Bool) : List ListElement → List ListElement → Type 0 where
  none : Keeps floor held [] []
  same : {e : ListElement} {ks xs : List ListElement} → Keeps floor held ks xs → Keeps floor held (e ∷ ks) (e ∷ xs)
  universal : {e : ListElement} {ks xs : List ListElement} → is_insertion_at_or_below floor e.ins ≡ true → Keeps floor held ks xs
      → Keeps floor held (with_universal_insertion e ∷ ks) (e ∷ xs)
  collected : {e : ListElement} {ks xs : List ListElement} → is_collectable floor e ≡ true → held (id e) ≡ false
      → is_before_pending xs ≡ false → Keeps floor held ks xs → Keeps floor held ks (e ∷ xs)

-- the same for a list with its count
pub record KeepsList (floor : ℕ) (held : ElementId → Bool) (kept list : Sequence) : Type 0 where
  pub items : Keeps floor held kept.items list.items
  pub made : kept.made ≡ list.made

-- an element as a summary has it: an insertion at or below the minimum is written as the universal one
abbrev pub trim_element : ℕ → ListElement → ListElement
trim_element min e = cond (is_insertion_at_or_below min e.ins) (with_universal_insertion e) e

-- a list as a summary has it: without the collectable elements
abbrev pub trim_list : ℕ → Sequence → Sequence
trim_list min list = record list { items = retain_map (λ e. not (is_collectable min e)) (trim_element min) list.items }
