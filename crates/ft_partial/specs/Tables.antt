-- What a table says: for each perspective from its floor up a length, below 2 ^ 64.
--     length_at t r c      the length for the perspective (r, c)
--     StandsFor t items      from the floor up each perspective sees that much of the items, round 2 ^ 64
use Rattle.std.specs.Prelude.{◌≡◌, ℕ, ◌+◌, ◌<◌, ◌≤◌, ◌%◌, ◌^◌, List}
use Rattle.ft_base.specs.declared.elements.Element.{Element}
use Rattle.ft_base.specs.Visibility.{sees}
use Rattle.ft_partial.specs.declared.entries.Entry.{Entry}
use Rattle.ft_partial.specs.Entries.{amount, unseen, IsRising, AreUpTo}
use Rattle.ft_partial.specs.Items.{Item, length_seen}

-- a table: its floor, how many elements all see in the end, and what those count besides who haven't seen a number yet
pub record Lengths : Type 0 where
  pub floor : ℕ
  pub last : ℕ
  pub entries : List Entry

-- the length for the perspective (r, c)
unfoldable pub length_at : Lengths → ℕ → ℕ → ℕ
length_at t r c = (t.last + unseen r c t.entries) % 2 ^ 64

-- what a table keeps: its entries rise up to the number `latest`, and the last length is small
pub record IsSoundTable (t : Lengths) (latest : ℕ) : Type 0 where
  pub rising : IsRising t.entries
  pub up_to : AreUpTo latest t.entries

-- from the floor up each perspective sees that much of the items, round 2 ^ 64
abbrev pub CountsItems : Lengths → List Item → Type 0
CountsItems t xs = (r c : ℕ) → t.floor ≤ r → r < 2 ^ 64 → c < 2 ^ 32 → length_at t r c ≡ length_seen r c xs % 2 ^ 64

-- from the floor up each length is higher by n where the element is seen
abbrev pub Adds : Lengths → Lengths → Element → ℕ → Type 0
Adds old new e n = (r c : ℕ) → old.floor ≤ r → r < 2 ^ 64 → c < 2 ^ 32 → length_at new r c ≡ (length_at old r c + amount (sees e r c) n) % 2 ^ 64

-- from the floor up each length is higher by m where f is seen, and lower by n where e is
abbrev pub Exchanges : Lengths → Lengths → Element → ℕ → Element → ℕ → Type 0
Exchanges old new e n f m = (r c : ℕ) → old.floor ≤ r → r < 2 ^ 64 → c < 2 ^ 32
    → (length_at new r c + amount (sees e r c) n) % 2 ^ 64 ≡ (length_at old r c + amount (sees f r c) m) % 2 ^ 64

-- each length is that of both tables together
abbrev pub AddsAll : Lengths → Lengths → Lengths → Type 0
AddsAll old other new = (r c : ℕ) → r < 2 ^ 64 → c < 2 ^ 32 → length_at new r c ≡ (length_at old r c + length_at other r c) % 2 ^ 64

-- each length is higher by `last` and by what the perspective counts of the entries
abbrev pub AddsChange : Lengths → Lengths → List Entry → ℕ → Type 0
AddsChange old new more last = (r c : ℕ) → length_at new r c ≡ (length_at old r c + (last + unseen r c more)) % 2 ^ 64

-- each length is higher by n
abbrev pub AddsForAll : Lengths → Lengths → ℕ → Type 0
AddsForAll old new n = (r c : ℕ) → length_at new r c ≡ (length_at old r c + n) % 2 ^ 64

-- from the floor up all lengths stay
abbrev pub SameFrom : ℕ → Lengths → Lengths → Type 0
SameFrom floor old new = (r c : ℕ) → floor ≤ r → r < 2 ^ 64 → c < 2 ^ 32 → length_at new r c ≡ length_at old r c

-- a change that adds `last` and what the perspective counts of the entries exchanges n of the element e for m of f
abbrev pub IsExchange : ℕ → List Entry → ℕ → Element → ℕ → Element → ℕ → Type 0
IsExchange floor more last e n f m = (old new : Lengths) → old.floor ≡ floor → AddsChange old new more last → Exchanges old new e n f m
