-- Places in a whole list, where an element is known by the number of elements before it. The scans are those of ft_base
-- over the list with its places.
use Rattle.std.specs.Prelude.{ℕ, ◌+◌, Bool, cond, nat_eq, nat_le, List, drop, take, Option, option_map}
use Rattle.std.specs.List.{enumerate_from, prefix_len}
use Rattle.ft_base.specs.Scan.{at, len, place, settled}

module _ {A : Type 0} where
  -- where `put` puts new elements: how many stand before them
  abbrev pub put_place : (A → Bool) → (A → Bool) → ℕ → List A → ℕ
  put_place seen past p xs = place seen p xs + prefix_len past (drop (place seen p xs) xs)

  -- the place of the seen element with p seen ones before it
  abbrev pub place_at : (A → Bool) → ℕ → List A → Option ℕ
  place_at seen p xs = option_map (λ x. x.0) (at (λ x. seen x.1) p (enumerate_from 0 xs))

  -- the place of the element at place i if it is ok, else of the next one that is, else of the last one before it that is,
  -- else none
  abbrev pub settled_place : (A → Bool) → List A → ℕ → Option ℕ
  settled_place ok xs i = option_map (λ x. x.0) (settled (λ x. nat_eq x.0 i) (λ x. ok x.1) (enumerate_from 0 xs))

  -- how many seen elements stand before place i
  abbrev pub seen_before : (A → Bool) → List A → ℕ → ℕ
  seen_before seen xs i = len seen (take i xs)

  -- the number among the ok elements of the one at place i as it is settled
  abbrev pub settled_number : (A → Bool) → List A → ℕ → Option ℕ
  settled_number ok xs i = option_map (seen_before ok xs) (settled_place ok xs i)

-- the place of an element after n new ones were put in at place i
abbrev pub shifted_place : ℕ → ℕ → ℕ → ℕ
shifted_place i n j = cond (nat_le i j) (j + n) j
