-- Where a search for the number of all elements ends: behind them.
use Rattle.std.proofs.Common.{◌≡◌, suc, Bool, true, cond, List, [], ◌∷◌, length, refl, ◌∙◌, ap}
use Rattle.ft_base.specs.Scan.{place}

-- where all are seen, the place of their number is behind all
pub place-all : {A : Type 0} (seen : A → Bool) → ((x : A) → seen x ≡ true) → (xs : List A) → place seen (length xs) xs ≡ length xs
place-all seen all [] = refl
place-all seen all (x ∷ xs) =
    ap (λ b. suc (place seen (cond b (length xs) (suc (length xs))) xs)) (all x) ∙ ap (λ n. suc n) (place-all seen all xs)
