-- How many levels a text opens, read byte by byte: a bracket counts where it stands outside of strings.
use Rattle.std.specs.Prelude.{ℕ, zero, suc, ◌+◌, Bool, true, false, ◌||◌, nat_eq, cond, List, [], ◌∷◌, Option, Some, None}
use Rattle.ft_json.specs.declared.levels.Place.{Place}
use Rattle.ft_json.specs.declared.levels.Place.TheVariants.{Outside, Inside, Escaped}

-- where the byte behind this one stands
abbrev pub next_place : Place → ℕ → Place
next_place Outside byte = cond (nat_eq byte 34) Inside Outside
next_place Inside byte = cond (nat_eq byte 34) Outside (cond (nat_eq byte 92) Escaped Inside)
next_place Escaped byte = Inside

-- whether it opens an array or an object
abbrev pub opens : ℕ → Bool
opens byte = nat_eq byte 91 || nat_eq byte 123

-- whether it closes one
abbrev pub closes : ℕ → Bool
closes byte = nat_eq byte 93 || nat_eq byte 125

-- one less, none below 0
abbrev pub one_less : ℕ → Option ℕ
one_less zero = None
one_less (suc n) = Some n

-- how many levels may be opened behind the byte, where so many may be before: none where it opens one too many
abbrev pub left_behind : ℕ → Place → ℕ → Option ℕ
left_behind left Outside byte = cond (opens byte) (one_less left) (Some (cond (closes byte) (left + 1) left))
left_behind left Inside byte = Some left
left_behind left Escaped byte = Some left

-- whether a text that stands so opens at most so many levels
abbrev pub opens_at_most : ℕ → Place → List ℕ → Bool
opens_at_most left place [] = true
opens_at_most left place (byte ∷ bytes) = elim (left_behind left place byte) [
  | None ↦ false
  | Some behind ↦ opens_at_most behind (next_place place byte) bytes
]
