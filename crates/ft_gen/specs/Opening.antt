-- What is still to come of the opening.
use Rattle.std.specs.Prelude.{ℕ, ◌+◌, ◌≤◌, List, [], ◌∷◌, ◌++◌, Option, Some, None, ⊤}
use Rattle.ft_op.specs.declared.operations.Target.TheVariants.{Rows as rows, Cols as columns}
use Rattle.ft_seqr.specs.declared.events.Event.{Event}
use Rattle.ft_gen.specs.declared.opening.Opening.{Opening}
use Rattle.ft_gen.specs.declared.opening.Opening.TheVariants.{Start, Connect, Greet, Rows, Cols, Submit, Learn}
use Rattle.ft_gen.specs.Rounds.{connects, each, each_both, from, is_told, tickets}
use Rattle.ft_gen.specs.Generated.{adds_four, starts}

-- of each part the clients from i on, with all other parts behind it

abbrev pub grid_lessons_from : ℕ → ℕ → List Event
grid_lessons_from count i = each is_told (from count i)

abbrev pub submission : ℕ → List Event
submission count = tickets 1 ∷ grid_lessons_from count 1

abbrev pub columns_on : ℕ → List Event
columns_on count = adds_four columns ∷ submission count

abbrev pub rows_on : ℕ → List Event
rows_on count = adds_four rows ∷ columns_on count

abbrev pub greetings_from : ℕ → ℕ → List Event
greetings_from count i = each is_told (from count i) ++ rows_on count

abbrev pub starts_from : ℕ → ℕ → List Event
starts_from count i = each_both starts connects (from count i) ++ greetings_from count 1

-- what is still to come
abbrev pub opening_to_come : ℕ → Opening → List Event
opening_to_come count (Start i) = starts_from count i
opening_to_come count (Connect i) = connects i ∷ starts_from count (i + 1)
opening_to_come count (Greet i) = greetings_from count i
opening_to_come count Rows = rows_on count
opening_to_come count Cols = columns_on count
opening_to_come count Submit = submission count
opening_to_come count (Learn i) = grid_lessons_from count i

-- the same, if anything is left
abbrev pub opening_left : ℕ → Option Opening → List Event
opening_left count None = []
opening_left count (Some opening) = opening_to_come count opening

-- the client that is named is there
abbrev pub IsOpening : ℕ → Opening → Type 0
IsOpening count (Start i) = i ≤ count
IsOpening count (Connect i) = i ≤ count
IsOpening count (Greet i) = i ≤ count
IsOpening count Rows = ⊤
IsOpening count Cols = ⊤
IsOpening count Submit = ⊤
IsOpening count (Learn i) = i ≤ count
