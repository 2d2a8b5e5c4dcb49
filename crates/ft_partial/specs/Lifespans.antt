-- Elements that are there from one number on, and until another one.
use Rattle.std.specs.Prelude.{◌≡◌, ℕ, ◌+◌, ◌≤◌, ◌%◌, ◌^◌, Bool, true, false, ◌&&◌, not, nat_le, List, Option, Some, None}
use Rattle.ft_partial.specs.declared.entries.Entry.{Entry}
use Rattle.ft_partial.specs.declared.lifespans.Lifespan.{Lifespan}
use Rattle.ft_partial.specs.Entries.{amount, unseen}
use Rattle.ft_partial.specs.Tables.{Lengths, length_at, AddsChange}

-- they are gone at the number k
abbrev pub is_gone_at : ℕ → Option ℕ → Bool
is_gone_at k None = false
is_gone_at k (Some n) = nat_le n k

-- they are there at the number k
abbrev pub is_there_at : Lifespan → ℕ → Bool
is_there_at lifespan k = nat_le lifespan.from k && not (is_gone_at k lifespan.until)

-- they are there in the end
abbrev pub stays : Option ℕ → Bool
stays None = true
stays (Some n) = false

-- each connection but number 0 counts n elements more at the numbers where they are there, besides those that stay
abbrev pub AddsLifespan : List Entry → List Entry → Lifespan → ℕ → Type 0
AddsLifespan old new lifespan n = (k c : ℕ) → 1 ≤ c
    → (unseen k c new + amount (stays lifespan.until) n) % 2 ^ 64 ≡ (unseen k c old + amount (is_there_at lifespan k) n) % 2 ^ 64

-- once the change is added to a table, each connection but number 0 counts m elements more where those of the one lifespan are there, and n less where
-- those of the other one are
abbrev pub ExchangesLifespans : Lengths → Lifespan → ℕ → Lifespan → ℕ → Type 0
ExchangesLifespans change gone n come m = (old new : Lengths) → AddsChange old new change.entries change.last
    → (k c : ℕ) → 1 ≤ c → (length_at new k c + amount (is_there_at gone k) n) % 2 ^ 64 ≡ (length_at old k c + amount (is_there_at come k) m) % 2 ^ 64
