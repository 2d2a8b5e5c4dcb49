-- The lines of bytes. A line ends with LF, the byte 10, which is no part of it.
use Rattle.std.specs.Prelude.{◌≡◌, ℕ, Bool, false, List, [], ◌∷◌, ◌++◌, ◌==◌, if◌then◌else◌}
use Rattle.std.specs.List.{list_any}

-- the byte that ends a line
abbrev pub lf : ℕ
lf = 10

-- whether a byte ends a line
abbrev pub is_lf : ℕ → Bool
is_lf byte = byte == lf

-- no byte ends a line
abbrev pub IsUnbroken : List ℕ → Type 0
IsUnbroken bytes = list_any is_lf bytes ≡ false

-- the byte in front of the first line, or as a line of its own where there is none
abbrev pub onto_first : ℕ → List (List ℕ) → List (List ℕ)
onto_first byte [] = (byte ∷ []) ∷ []
onto_first byte (line ∷ later) = (byte ∷ line) ∷ later

-- the lines; a last line without LF counts if it has a byte
abbrev pub lines : List ℕ → List (List ℕ)
lines [] = []
lines (byte ∷ bytes) = if is_lf byte then [] ∷ lines bytes else onto_first byte (lines bytes)

-- the byte in front of the first line, if there is one
abbrev pub onto_first_ended : ℕ → List (List ℕ) → List (List ℕ)
onto_first_ended byte [] = []
onto_first_ended byte (line ∷ later) = (byte ∷ line) ∷ later

-- the lines that end with LF
abbrev pub ended_lines : List ℕ → List (List ℕ)
ended_lines [] = []
ended_lines (byte ∷ bytes) = if is_lf byte then [] ∷ ended_lines bytes else onto_first_ended byte (ended_lines bytes)

-- a line with its LF
abbrev pub with_lf : List ℕ → List ℕ
with_lf line = line ++ lf ∷ []
