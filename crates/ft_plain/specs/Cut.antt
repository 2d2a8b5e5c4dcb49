-- Stages edit by edit.
use Rattle.std.specs.Prelude.{ℕ, ◌+◌, List, [], ◌∷◌, drop, take}
use Rattle.ft_op.specs.Stages.{Stage}

-- stages, cut into lists of so many each
abbrev pub cut : List ℕ → List Stage → List (List Stage)
cut [] stages = []
cut (n ∷ counts) stages = take n stages ∷ cut counts (drop n stages)

-- how many stages all these are
abbrev pub cut_length : List ℕ → ℕ
cut_length [] = 0
cut_length (n ∷ counts) = n + cut_length counts
