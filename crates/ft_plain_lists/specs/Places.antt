-- Places in a list: that of an item, or else, as an error, the one where it would stand.
use Rattle.std.specs.Prelude.{ℕ, ◌<◌, ◌≤◌, Bool, cond, List, [], ◌∷◌, Result, Ok, Err, slice_set}
use Rattle.std.specs.List.{insert}
use Rattle.std.specs.declared.cmp.Ordering.{Ordering}
use Rattle.std.specs.declared.cmp.Ordering.TheVariants.{Less, Equal, Greater}
use Rattle.ft_props.specs.Keys.{next_place}

-- it is one of so many items
abbrev pub IsPlaceIn : Result ℕ ℕ → ℕ → Type 0
IsPlaceIn (Ok i) n = i < n
IsPlaceIn (Err i) n = i ≤ n

-- the list with the item at the place
abbrev pub set_or_insert : {A : Type 0} → Result ℕ ℕ → A → List A → List A
set_or_insert (Ok i) x xs = slice_set xs i x
set_or_insert (Err i) x xs = insert xs i x

-- the place of the first item that passes, or else, as an error, the one behind all
abbrev pub found_place : {A : Type 0} → (A → Bool) → List A → Result ℕ ℕ
found_place p [] = Err 0
found_place p (x ∷ xs) = cond (p x) (Ok 0) (next_place (found_place p xs))

-- the place of x's key among rising keys, or else, as an error, the place where it would stand
abbrev pub rising_place : {A : Type 0} → (A → A → Ordering) → A → List A → Result ℕ ℕ
rising_place cmp x [] = Err 0
rising_place cmp x (y ∷ ys) = elim (cmp x y) [ Less ↦ Err 0 | Equal ↦ Ok 0 | Greater ↦ next_place (rising_place cmp x ys) ]
