-- How a line is put together from the pieces of an input.
use Rattle.std.specs.Prelude.{◌≡◌, ℕ, List, [], ◌∷◌, ◌++◌}
use Rattle.ft_io.specs.Lines.{lf, IsUnbroken}
use Rattle.ft_io.specs.Reader.{handed_out}
use Rattle.ft_io.specs.declared.reader.Line.{Line}
use Rattle.ft_io.specs.declared.reader.Line.TheVariants.{End}
use Rattle.ft_io.specs.declared.intake.Part.{Part}
use Rattle.ft_io.specs.declared.intake.Part.TheVariants.{Last, More}

-- what a piece has of a line that has these bytes so far: the last of it and its LF, before what is left, or more of it and no LF
abbrev pub CutsLine : ℕ → List ℕ → List ℕ → List ℕ → Part → Type 0
CutsLine limit so_far piece left (Last line) = (front : List ℕ) × (piece ≡ front ++ lf ∷ left) × IsUnbroken front × (line ≡ handed_out limit (so_far ++ front))
CutsLine limit so_far piece left (More line) = IsUnbroken piece × (line ≡ handed_out limit (so_far ++ piece))

-- what is answered where the input ends behind these bytes of a line
abbrev pub answer_at_end : ℕ → List ℕ → Line
answer_at_end limit [] = End
answer_at_end limit (byte ∷ bytes) = handed_out limit (byte ∷ bytes)
