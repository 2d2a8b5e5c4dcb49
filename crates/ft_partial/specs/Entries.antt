-- Entries: what those count besides who haven't seen a sequence number yet.
--     unseen r c entries      what the perspective (r, c) counts of the entries
use Rattle.std.specs.Prelude.{◌≡◌, ℕ, ◌+◌, ◌≤◌, ◌%◌, ◌^◌, Bool, not, ◌&&◌, cond, nat_le, nat_eq, List, [], ◌∷◌, take, drop, length, slice_index_or}
use Rattle.ft_base.specs.Scan.{len}
use Rattle.ft_partial.specs.declared.entries.Entry.{Entry}

-- n where the test passes, else 0
abbrev pub amount : Bool → ℕ → ℕ
amount b n = cond b n 0

-- the entry is for connection c: for it alone, or for all but another one
abbrev pub is_for : ℕ → Entry → Bool
is_for c x = cond x.own (nat_eq x.conn c) (not (nat_eq x.conn c))

-- the entry counts for the perspective (r, c)
abbrev pub counts : ℕ → ℕ → Entry → Bool
counts r c x = not (nat_le x.seq r) && is_for c x

-- what the perspective (r, c) counts of the entry
abbrev pub share : ℕ → ℕ → Entry → ℕ
share r c x = amount (counts r c x) x.by

-- what the perspective (r, c) counts of the entries
abbrev pub unseen : ℕ → ℕ → List Entry → ℕ
unseen r c [] = 0
unseen r c (x ∷ xs) = share r c x + unseen r c xs

-- how many of the entries are up to the floor
abbrev pub old_count : ℕ → List Entry → ℕ
old_count floor xs = len (λ x. nat_le x.seq floor) xs

-- no entry's number is above k
abbrev pub AreUpTo : ℕ → List Entry → Type 0
AreUpTo k [] = Unit {0}
AreUpTo k (x ∷ xs) = (x.seq ≤ k) × AreUpTo k xs

-- the last number that there is
abbrev pub last_number : ℕ
last_number = 18446744073709551615

-- no entry's number is below k
abbrev pub AreFrom : ℕ → List Entry → Type 0
AreFrom k [] = Unit {0}
AreFrom k (x ∷ xs) = (k ≤ x.seq) × AreFrom k xs

-- the numbers of the entries rise
abbrev pub IsRising : List Entry → Type 0
IsRising [] = Unit {0}
IsRising (x ∷ xs) = AreFrom x.seq xs × IsRising xs

-- among rising entries a new one with the number k may stand at i
pub record IsPlace (xs : List Entry) (k i : ℕ) : Type 0 where
  pub inside : i ≤ length xs
  pub below : AreUpTo k (take i xs)
  pub above : AreFrom k (drop i xs)

-- the j-th entry has the number of x, and is for the same connections
abbrev pub IsAlikeAt : List Entry → ℕ → Entry → Type 0
IsAlikeAt xs j x = (d : Entry) → ((slice_index_or xs j d).seq ≡ x.seq) × ((slice_index_or xs j d).conn ≡ x.conn) × ((slice_index_or xs j d).own ≡ x.own)

-- each perspective counts x more, round 2 ^ 64
pub record AddsEntry (old new : List Entry) (x : Entry) : Type 0 where
  pub rising : IsRising new
  pub sums : (r c : ℕ) → unseen r c new % 2 ^ 64 ≡ (unseen r c old + share r c x) % 2 ^ 64

-- each perspective counts the entries `more` more, round 2 ^ 64, none of which has a number above the last one
pub record AddsEntries (old new more : List Entry) : Type 0 where
  pub rising : IsRising new
  pub numbers : AreUpTo last_number more
  pub sums : (r c : ℕ) → unseen r c new % 2 ^ 64 ≡ (unseen r c old + unseen r c more) % 2 ^ 64

-- each perspective from the floor up counts what it did, and no number is higher
pub record DropsOld (old new : List Entry) (floor : ℕ) : Type 0 where
  pub rising : IsRising new
  pub up_to : (k : ℕ) → AreUpTo k old → AreUpTo k new
  pub sums : (r c : ℕ) → floor ≤ r → unseen r c new ≡ unseen r c old
