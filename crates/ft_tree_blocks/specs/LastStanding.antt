-- The last element on which a reference may stand, as `first_from` of ft_tree_leaves has the first.
use Rattle.std.specs.Prelude.{ℕ, ◌+◌, Bool, cond, List, [], ◌∷◌, Option, Some, None}
use Rattle.std.specs.Option.{option_or}

-- the place of the last element that is ok, where n stand before the list
abbrev pub last_from : {A : Type 0} → (A → Bool) → ℕ → List A → Option ℕ
last_from ok n [] = None
last_from ok n (x ∷ xs) = option_or (last_from ok (n + 1) xs) (cond (ok x) (Some n) None)
