-- An item that is put at its place, as a loop over the list finds it.
use Rattle.std.proofs.Common.{◌≡◌, ℕ, suc, ◌+◌, Bool, true, false, cond, List, [], ◌∷◌, Result, Ok, Err, refl, sym, ◌∙◌, ap, arith, length}
use Rattle.std.specs.declared.cmp.Ordering.{Ordering}
use Rattle.std.specs.declared.cmp.Ordering.TheVariants.{Less, Equal, Greater}
use Rattle.ft_props.specs.Keys.{next_place, put_rising}
use Rattle.ft_op.specs.Cells.{Cell, is_cell, put_cell}
use Rattle.ft_plain_lists.specs.Places.{IsPlaceIn, found_place, rising_place, set_or_insert}

-- the place, i places further on
abbrev pub place_from : ℕ → Result ℕ ℕ → Result ℕ ℕ
place_from i (Ok j) = Ok (i + j)
place_from i (Err j) = Err (i + j)

next-in : (r : Result ℕ ℕ) (n : ℕ) → IsPlaceIn r n → IsPlaceIn (next_place r) (suc n)
next-in (Ok i) n h = omega (arith, h)
next-in (Err i) n h = omega (arith, h)

next-put : {A : Type 0} (r : Result ℕ ℕ) (x y : A) (ys : List A) → set_or_insert (next_place r) x (y ∷ ys) ≡ y ∷ set_or_insert r x ys
next-put (Ok i) x y ys = refl
next-put (Err i) x y ys = refl

-- ---- rising keys

module _ {A : Type 0} (cmp : A → A → Ordering) (x : A) where
  pub rising-in : (xs : List A) → IsPlaceIn (rising_place cmp x xs) (length xs)
  rising-in [] = omega arith
  rising-in (y ∷ ys) = step (cmp x y) (rising-in ys)
    where
      step : (o : Ordering) → IsPlaceIn (rising_place cmp x ys) (length ys)
          → IsPlaceIn (elim o [ Less ↦ Err 0 | Equal ↦ Ok 0 | Greater ↦ next_place (rising_place cmp x ys) ]) (suc (length ys))
      step Less h = omega arith
      step Equal h = omega arith
      step Greater h = next-in (rising_place cmp x ys) (length ys) h

  -- what is put stands at its key's place, or where the key would stand
  pub rising-put : (xs : List A) → put_rising cmp x xs ≡ set_or_insert (rising_place cmp x xs) x xs
  rising-put [] = refl
  rising-put (y ∷ ys) = step (cmp x y) (rising-put ys)
    where
      step : (o : Ordering) → put_rising cmp x ys ≡ set_or_insert (rising_place cmp x ys) x ys
          → elim o [ Less ↦ x ∷ y ∷ ys | Equal ↦ x ∷ ys | Greater ↦ y ∷ put_rising cmp x ys ]
          ≡ set_or_insert (elim o [ Less ↦ Err 0 | Equal ↦ Ok 0 | Greater ↦ next_place (rising_place cmp x ys) ]) x (y ∷ ys)
      step Less h = refl
      step Equal h = refl
      step Greater h = ap (λ zs. y ∷ zs) h ∙ sym (next-put (rising_place cmp x ys) x y ys)

-- ---- cells

pub found-in : {A : Type 0} (p : A → Bool) (xs : List A) → IsPlaceIn (found_place p xs) (length xs)
found-in p [] = omega arith
found-in p (y ∷ ys) = step (p y) (found-in p ys)
  where
    step : (b : Bool) → IsPlaceIn (found_place p ys) (length ys) → IsPlaceIn (cond b (Ok 0) (next_place (found_place p ys))) (suc (length ys))
    step true h = omega arith
    step false h = next-in (found_place p ys) (length ys) h

-- a cell is put at its place, or behind all
pub cell-put : (cell : Cell) (xs : List Cell) → put_cell cell xs ≡ set_or_insert (found_place (is_cell cell.row cell.col) xs) cell xs
cell-put cell [] = refl
cell-put cell (y ∷ ys) = step (is_cell cell.row cell.col y) (cell-put cell ys)
  where
    step : (b : Bool) → put_cell cell ys ≡ set_or_insert (found_place (is_cell cell.row cell.col) ys) cell ys
        → cond b (cell ∷ ys) (y ∷ put_cell cell ys)
        ≡ set_or_insert (cond b (Ok 0) (next_place (found_place (is_cell cell.row cell.col) ys))) cell (y ∷ ys)
    step true h = refl
    step false h = ap (λ zs. y ∷ zs) h ∙ sym (next-put (found_place (is_cell cell.row cell.col) ys) cell y ys)
