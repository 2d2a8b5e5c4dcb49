-- The lines of bytes whose front is known.
use Rattle.std.proofs.Common.{◌≡◌, ℕ, ◌<◌, false, List, [], ◌∷◌, ◌++◌, All, length, refl, ◌∙◌, ap, arith, append_assoc}
use Rattle.std.specs.List.{flat_map}
use Rattle.std.proofs.lemmas.List.Elements.{All-head, All-tail}
use Rattle.ft_io.specs.Lines.{lf, is_lf, IsUnbroken, lines, ended_lines, with_lf}

unbroken-tail : (byte : ℕ) (bytes : List ℕ) → IsUnbroken (byte ∷ bytes) → IsUnbroken bytes
unbroken-tail byte bytes h = grind arith

unbroken-head : (byte : ℕ) (bytes : List ℕ) → IsUnbroken (byte ∷ bytes) → is_lf byte ≡ false
unbroken-head byte bytes h = grind arith

pub lines-line : (line rest : List ℕ) → IsUnbroken line → lines (line ++ lf ∷ rest) ≡ line ∷ lines rest
lines-line [] rest h = refl
lines-line (byte ∷ line) rest h =
    grind (arith, unbroken-head byte line h, lines-line line rest (unbroken-tail byte line h))

pub lines-last : (line : List ℕ) → IsUnbroken line → 0 < length line → lines line ≡ line ∷ []
lines-last [] h some = absurd (omega arith)
lines-last (byte ∷ []) h some = grind (arith, unbroken-head byte [] h)
lines-last (byte ∷ next ∷ line) h some =
    grind (arith, unbroken-head byte (next ∷ line) h, lines-last (next ∷ line) (unbroken-tail byte (next ∷ line) h) (omega arith))

pub ended_lines-line : (line rest : List ℕ) → IsUnbroken line → ended_lines (line ++ lf ∷ rest) ≡ line ∷ ended_lines rest
ended_lines-line [] rest h = refl
ended_lines-line (byte ∷ line) rest h =
    grind (arith, unbroken-head byte line h, ended_lines-line line rest (unbroken-tail byte line h))

pub ended_lines-unbroken : (line : List ℕ) → IsUnbroken line → ended_lines line ≡ []
ended_lines-unbroken [] h = refl
ended_lines-unbroken (byte ∷ line) h =
    grind (arith, unbroken-head byte line h, ended_lines-unbroken line (unbroken-tail byte line h))

pub lines-flat_map : (handed : List (List ℕ)) (rest : List ℕ) → All IsUnbroken handed → lines (flat_map with_lf handed ++ rest) ≡ handed ++ lines rest
lines-flat_map [] rest h = refl
lines-flat_map (line ∷ handed) rest h =
    ap lines (append_assoc (line ++ lf ∷ []) (flat_map with_lf handed) rest ∙ append_assoc line (lf ∷ []) (flat_map with_lf handed ++ rest))
    ∙ lines-line line (flat_map with_lf handed ++ rest) (All-head IsUnbroken line handed h)
    ∙ ap (λ later. line ∷ later) (lines-flat_map handed rest (All-tail IsUnbroken line handed h))

pub ended_lines-flat_map : (handed : List (List ℕ)) (rest : List ℕ) → All IsUnbroken handed → ended_lines (flat_map with_lf handed ++ rest) ≡ handed ++ ended_lines rest
ended_lines-flat_map [] rest h = refl
ended_lines-flat_map (line ∷ handed) rest h =
    ap ended_lines (append_assoc (line ++ lf ∷ []) (flat_map with_lf handed) rest ∙ append_assoc line (lf ∷ []) (flat_map with_lf handed ++ rest))
    ∙ ended_lines-line line (flat_map with_lf handed ++ rest) (All-head IsUnbroken line handed h)
    ∙ ap (λ later. line ∷ later) (ended_lines-flat_map handed rest (All-tail IsUnbroken line handed h))
