-- The numbers of names: 1, 2, 3 and so on in the order of their first appearance.
use Rattle.std.specs.Prelude.{◌≡◌, ℕ, suc, zero, false, List, [], ◌∷◌, Option, None, String, bytes_eq, chars, cond, slice_get, string_bytes, ⊤}
use Rattle.std.specs.List.{list_any}
use Rattle.std.specs.declared.alloc.Global.{Global}

-- the number that a name has in a table, or that it gets
abbrev pub number_of : List (List ℕ) → List ℕ → ℕ
number_of [] name = 1
number_of (first ∷ names) name = cond (bytes_eq first name) 1 (suc (number_of names name))

-- the table after a name appeared
abbrev pub names_after : List (List ℕ) → List ℕ → List (List ℕ)
names_after [] name = name ∷ []
names_after (first ∷ names) name = cond (bytes_eq first name) (first ∷ names) (first ∷ names_after names name)

-- the name of a number, none for 0 and above the count
abbrev pub name_at : List (List ℕ) → ℕ → Option (List ℕ)
name_at names zero = None
name_at names (suc n) = slice_get names n

-- each entry is kept under the characters of its name
abbrev pub KeysSpellNames : List (String Global × List ℕ) → Type 0
KeysSpellNames [] = ⊤
KeysSpellNames (entry ∷ entries) = (chars (string_bytes entry.0) ≡ entry.1) × KeysSpellNames entries

-- no name stands twice
abbrev pub AreDistinct : List (List ℕ) → Type 0
AreDistinct [] = ⊤
AreDistinct (first ∷ names) = (list_any (bytes_eq first) names ≡ false) × AreDistinct names
