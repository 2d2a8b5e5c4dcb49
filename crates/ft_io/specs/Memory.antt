-- A source and a sink over memory: what they are seen as, which of their calls fail, and what each call does.
use Rattle.std.specs.Prelude.{◌≡◌, ℕ, ◌-◌, Bool, true, false, ◌&&◌, ◌||◌, not, ◌==◌, min, List, [], ◌++◌, length, take, drop, Result, MatchResult}
use Rattle.std.specs.List.{list_any}
use Rattle.ft_io.specs.Streams.{one_more}

-- a source over memory: the bytes left, the length of its pieces, the calls that fail, and how many calls and faults there were
pub record Supply : Type 0 where
  pub left : List ℕ
  pub piece : ℕ
  pub fails : List ℕ
  pub calls : ℕ
  pub faults : ℕ

-- a source that has not been called
abbrev pub new_supply : List ℕ → ℕ → List ℕ → Supply
new_supply bytes piece fails = record { left = bytes; piece = piece; fails = fails; calls = 0; faults = 0 }

-- a sink over memory: the bytes taken, the length of its pieces, the calls that fail, its room, and how many calls and faults there were
pub record Store : Type 0 where
  pub taken : List ℕ
  pub piece : ℕ
  pub fails : List ℕ
  pub room : ℕ
  pub calls : ℕ
  pub faults : ℕ

-- a sink that has not been called
abbrev pub new_store : ℕ → List ℕ → ℕ → Store
new_store piece fails room = record { taken = []; piece = piece; fails = fails; room = room; calls = 0; faults = 0 }

-- whether the list names the call after so many calls
abbrev pub is_named : List ℕ → ℕ → Bool
is_named fails calls = list_any (λ n. n == one_more calls) fails

-- how many bytes the next read gives to a buffer of this length, if it doesn't fail
abbrev pub read_len : Supply → ℕ → ℕ
read_len s room = min (min (length s.left) room) s.piece

-- the source after a read that gave n bytes
abbrev pub after_read : Supply → ℕ → Supply
after_read s n = record s { left = drop n s.left; calls = one_more s.calls }

-- the source after a read that failed
abbrev pub after_failed_read : Supply → Supply
after_failed_read s = record s { calls = one_more s.calls; faults = one_more s.faults }

-- What a read does: it fails exactly where the list names its call, and else gives the next piece and leaves the rest of the buffer.
abbrev pub ReadsPiece : {E : Type 0} → Supply → Supply → List ℕ → List ℕ → Result ℕ E → Type 0
ReadsPiece old new before after result =
    MatchResult result
    (λ n. (is_named old.fails old.calls ≡ false) × (n ≡ read_len old (length before)) × (new ≡ after_read old n) × (after ≡ take n old.left ++ drop n before))
    (λ _. (is_named old.fails old.calls ≡ true) × (new ≡ after_failed_read old) × (after ≡ before))

-- whether a write of these bytes finds no room
abbrev pub is_full_for : Store → List ℕ → Bool
is_full_for s bytes = length s.taken == s.room && not (length bytes == 0)

-- how many of these bytes the next write takes, if it doesn't fail
abbrev pub write_len : Store → List ℕ → ℕ
write_len s bytes = min (min (s.room - length s.taken) (length bytes)) s.piece

-- the sink after a write that took these bytes
abbrev pub after_write : Store → List ℕ → Store
after_write s bytes = record s { taken = s.taken ++ bytes; calls = one_more s.calls }

-- the sink after a write that failed
abbrev pub after_failed_write : Store → Store
after_failed_write s = record s { calls = one_more s.calls; faults = one_more s.faults }

-- What a write does: it fails exactly where the list names its call or there are bytes and no room for them, and else takes the next piece.
abbrev pub WritesPiece : {E : Type 0} → Store → Store → List ℕ → Result ℕ E → Type 0
WritesPiece old new bytes result =
    MatchResult result
    (λ n. ((is_named old.fails old.calls || is_full_for old bytes) ≡ false) × (n ≡ write_len old bytes) × (new ≡ after_write old (take n bytes)))
    (λ _. ((is_named old.fails old.calls || is_full_for old bytes) ≡ true) × (new ≡ after_failed_write old))
