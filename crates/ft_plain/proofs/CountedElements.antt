-- How many elements are shown.
use Rattle.std.proofs.Common.{◌≡◌, suc, Bool, true, false, cond, List, [], ◌∷◌, refl, ap, length, filter}
use Rattle.ft_base.specs.Scan.{retain_map}

-- those that are kept are as many as what is made of them
pub kept-count : {A B : Type 0} (keep : A → Bool) (f : A → B) (xs : List A) → length (filter keep xs) ≡ length (retain_map keep f xs)
kept-count keep f [] = refl
kept-count {A} {B} keep f (x ∷ xs) = by (keep x) (kept-count keep f xs)
  where
    by : (b : Bool) → length (filter keep xs) ≡ length (retain_map keep f xs)
        → length (cond b (x ∷ filter keep xs) (filter keep xs)) ≡ length (cond b (f x ∷ retain_map keep f xs) (retain_map keep f xs))
    by true rest = ap suc rest
    by false rest = rest
