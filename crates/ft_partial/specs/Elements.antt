-- What an element adds to the entries.
use Rattle.std.specs.Prelude.{◌≡◌, ℕ, ◌+◌, ◌<◌, ◌≤◌, ◌%◌, ◌^◌, Bool, true, false, ◌&&◌, ◌||◌, not, nat_le, nat_eq, min, List, [], ◌∷◌, Option, Some, None}
use Rattle.std.specs.List.{list_any}
use Rattle.ft_base.specs.declared.stamps.Stamp.{Stamp}
use Rattle.ft_base.specs.declared.stamps.Stamp.TheVariants.{Acked, Local}
use Rattle.ft_base.specs.declared.elements.Element.{Element}
use Rattle.ft_base.specs.Visibility.{is_acked, is_present, sees}
use Rattle.ft_partial.specs.declared.entries.Entry.{Entry}
use Rattle.ft_partial.specs.declared.items.Removal.{Removal}
use Rattle.ft_partial.specs.Entries.{amount, unseen}

-- the sequence number of a stamp, or 2 ^ 64 where it is pending
abbrev pub stamp_number : Stamp → ℕ
stamp_number (Acked seq conn) = seq
stamp_number (Local stage) = 2 ^ 64

-- the least sequence number of a removal, or 2 ^ 64 where none is sequenced
abbrev pub first_removal : List Stamp → ℕ
first_removal [] = 2 ^ 64
first_removal (x ∷ dels) = min (stamp_number x) (first_removal dels)

-- the stamp is sequenced, and by this connection
abbrev pub is_stamp_by : ℕ → Stamp → Bool
is_stamp_by c (Acked seq conn) = nat_eq conn c
is_stamp_by c (Local stage) = false

-- the removal is the first sequenced one of these, or none is sequenced
abbrev pub IsFirst : List Stamp → Option Removal → Type 0
IsFirst dels None = list_any is_acked dels ≡ false
IsFirst dels (Some x) = (x.seq ≡ first_removal dels) × (list_any (is_stamp_by x.conn) dels ≡ true) × (list_any is_acked dels ≡ true)

-- how many of n elements of these stamps all see in the end
abbrev pub last_length : Element → ℕ → ℕ
last_length e n = amount (is_present is_acked e) n

-- connection c is neither this one nor that of a stamp
abbrev pub is_other : ℕ → ℕ → List Stamp → Bool
is_other c conn stamps = not (nat_eq conn c || list_any (is_stamp_by c) stamps)

-- those count `by` more who haven't seen the number, and are none of these connections
abbrev pub AddsBut : ℕ → List Entry → List Entry → ℕ → ℕ → ℕ → List Stamp → Type 0
AddsBut floor old new seq by conn stamps = (r c : ℕ) → floor ≤ r
    → unseen r c new % 2 ^ 64 ≡ (unseen r c old + amount (not (nat_le seq r) && is_other c conn stamps) by) % 2 ^ 64

-- those count `by` less who haven't seen the number, and made one of the stamps, but are not this connection
abbrev pub TakesOwn : List Entry → List Entry → ℕ → ℕ → ℕ → List Stamp → Type 0
TakesOwn old new seq by conn stamps = (r c : ℕ)
    → (unseen r c new + amount (not (nat_le seq r) && (not (nat_eq conn c) && list_any (is_stamp_by c) stamps)) by) % 2 ^ 64 ≡ unseen r c old % 2 ^ 64

-- the same for one stamp, where its connection made none of those before
abbrev pub TakesOne : List Entry → List Entry → ℕ → ℕ → ℕ → List Stamp → Stamp → Type 0
TakesOne old new seq by conn before stamp = (r c : ℕ)
    → (unseen r c new + amount (not (nat_le seq r) && (is_other c conn before && is_stamp_by c stamp)) by) % 2 ^ 64 ≡ unseen r c old % 2 ^ 64

-- from the floor up each perspective counts n elements more where it sees them, besides what all see in the end
abbrev pub AddsItem : ℕ → List Entry → List Entry → Element → ℕ → Type 0
AddsItem floor old new e n = (r c : ℕ) → floor ≤ r → r < 2 ^ 64 → c < 2 ^ 32
    → (unseen r c new + last_length e n) % 2 ^ 64 ≡ (unseen r c old + amount (sees e r c) n) % 2 ^ 64
