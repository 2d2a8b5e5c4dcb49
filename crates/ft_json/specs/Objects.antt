-- The entries of a map of `serde_json`.
use Rattle.std.specs.Prelude.{◌≡◌, ℕ, List, [], ◌∷◌, map, String, string_bytes, chars, ⊤}
use Rattle.std.specs.Ordering.{nat_cmp}
use Rattle.std.specs.declared.cmp.Ordering.TheVariants.{Less}
use Rattle.std.specs.Cmp.Lexicographic.{slice_cmp}
use Rattle.std.specs.declared.alloc.Global.{Global}
use Rattle.serde_json.specs.Data.{Data}
use Rattle.serde_json.specs.View.{view}
use Rattle.serde_json.specs.declared.value.Value.{Value}

-- the characters of each key, with the value there
abbrev pub entry_pairs : List (String Global × Value) → List (List ℕ × Data)
entry_pairs es = map (λ e. (chars (string_bytes e.0), view e.1)) es

-- the name comes before the first of the pairs, by its characters
abbrev pub IsNameBefore : List ℕ → List (List ℕ × Data) → Type 0
IsNameBefore name [] = ⊤
IsNameBefore name (p ∷ ps) = slice_cmp nat_cmp name p.0 ≡ Less

-- each name comes before the next, by its characters; this is also the order of the bytes
abbrev pub NamesRise : List (List ℕ × Data) → Type 0
NamesRise [] = ⊤
NamesRise (p ∷ ps) = IsNameBefore p.0 ps × NamesRise ps
