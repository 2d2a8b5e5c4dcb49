-- Digits that are read in order, and numbers that are brought into a range.
use Rattle.std.proofs.Common.{◌≡◌, ℕ, ◌+◌, ◌*◌, ◌-◌, ◌<◌, min, List, [], ◌∷◌, ◌++◌, refl, ◌∙◌, ap, arith, length, get_or, take}
use Rattle.std.proofs.lemmas.List.{take_more}
use Rattle.ft_props.specs.Properties.{digits_value}

digits_value-push : (n c : ℕ) (ds : List ℕ) → digits_value n (ds ++ c ∷ []) ≡ digits_value n ds * 10 + (c - 48)
digits_value-push n c [] = refl
digits_value-push n c (d ∷ ds) = digits_value-push (n * 10 + (d - 48)) c ds

-- one more digit
pub digits_value-more : (i d : ℕ) (ds : List ℕ) → i < length ds → digits_value 0 (take (i + 1) ds) ≡ digits_value 0 (take i ds) * 10 + (get_or ds i d - 48)
digits_value-more i d ds h = ap (digits_value 0) (take_more ds i d h) ∙ digits_value-push 0 (get_or ds i d) (take i ds)

-- a number that is cut at a bound goes on as the whole number does
pub cut-more : (bound value n c : ℕ) → value ≡ min n bound → min (value * 10 + c) bound ≡ min (n * 10 + c) bound
cut-more bound value n c h = omega arith
