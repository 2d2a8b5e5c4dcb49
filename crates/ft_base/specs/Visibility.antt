-- Who sees an element. Both tests are one: whether the element is present where only the stamps that have occurred count,
-- from the perspective of a message's sender, or at a pending stage of a client.
use Rattle.std.specs.Prelude.{ℕ, Bool, true, false, not, ◌&&◌, ◌||◌, nat_le, nat_eq}
use Rattle.std.specs.List.{list_any}
use Rattle.ft_base.specs.declared.stamps.Stamp.{Stamp}
use Rattle.ft_base.specs.declared.stamps.Stamp.TheVariants.{Acked, Local}
use Rattle.ft_base.specs.declared.elements.Element.{Element}

-- the stamp is sequenced with a number at most r, or by connection c
abbrev pub has_occurred : ℕ → ℕ → Stamp → Bool
has_occurred r c (Acked seq conn) = nat_le seq r || nat_eq conn c
has_occurred r c (Local stage) = false

-- the stamp is sequenced, or of a pending stage at most k
abbrev pub has_occurred_at_stage : ℕ → Stamp → Bool
has_occurred_at_stage k (Acked seq conn) = true
has_occurred_at_stage k (Local stage) = nat_le stage k

-- its insertion passes the test, and none of its removals does
abbrev pub is_present : (Stamp → Bool) → Element → Bool
is_present occurred e = occurred e.ins && not (list_any occurred e.dels)

-- the perspective (r, c) sees the element
abbrev pub sees : Element → ℕ → ℕ → Bool
sees e r c = is_present (has_occurred r c) e

-- a client sees the element at its pending stage k; at stage 0: its insertion is sequenced, and no removal of it is
abbrev pub seen_at : Element → ℕ → Bool
seen_at e k = is_present (has_occurred_at_stage k) e

-- the stamp is sequenced
abbrev pub is_acked : Stamp → Bool
is_acked (Acked seq conn) = true
is_acked (Local stage) = false

-- the stamp is pending, of stage k
abbrev pub is_of_stage : ℕ → Stamp → Bool
is_of_stage k (Acked seq conn) = false
is_of_stage k (Local stage) = nat_eq stage k
