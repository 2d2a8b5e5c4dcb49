-- What the characters of a text are.
use Rattle.std.specs.Prelude.{◌≡◌, true, ℕ, List}
use Rattle.std.specs.Str.{all_scalars}

-- each character is a Unicode scalar value
abbrev pub IsText : List ℕ → Type 0
IsText text = all_scalars text ≡ true
