-- The renaming of elements by the stages that are acknowledged one after another.
use Rattle.std.specs.Prelude.{ℕ, List, [], ◌∷◌}
use Rattle.ft_props.specs.Element.{ElementId}
use Rattle.ft_props.specs.Steps.{acked_id}

-- a renaming, and then that of these stages, each with how many elements were sequenced before in its list
abbrev pub renaming_after : (ElementId → ElementId) → List (ℕ × ℕ) → ElementId → ElementId
renaming_after rename [] = rename
renaming_after rename ((stage, made) ∷ rest) = renaming_after (λ x. acked_id stage made (rename x)) rest

-- the renaming by these stages
abbrev pub renaming_of : List (ℕ × ℕ) → ElementId → ElementId
renaming_of acked = renaming_after (λ x. x) acked
