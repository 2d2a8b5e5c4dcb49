-- The cost of halving.
use Rattle.std.proofs.Common.{◌≡◌, ℕ, suc, ◌+◌, ◌*◌, ◌-◌, ◌^◌, ◌<◌, ◌≤◌, ap, ◌∙◌, arith}
use Rattle.std.proofs.Math.Nat.{pow-succ', mul-le-mul_left}

doubled : (s t : ℕ) → s ≤ t → 2 ^ (t + 1 - s) ≡ 2 * 2 ^ (t - s)
doubled s t l =
    let next : t + 1 - s ≡ suc (t - s) = omega arith in
    ap (λ k. 2 ^ k) next ∙ pow-succ' 2 (t - s)

-- one step more over at most half as much
pub half-left : (s t w v n : ℕ) → s ≤ t → 2 ^ (t - s) * w ≤ n → 2 * v ≤ w → 2 ^ (t + 1 - s) * v ≤ n
half-left s t w v n l h f = rw (doubled s t l) (step (2 ^ (t - s)) w v n h f)
  where
    step : (a w v n : ℕ) → a * w ≤ n → 2 * v ≤ w → 2 * a * v ≤ n
    step a w v n h f = omega (arith, mul-le-mul_left a f)

-- where something was left before, so many steps are few
pub half-most : (s t w n : ℕ) → s ≤ t → 2 ^ (t - s) * w ≤ n → 0 < w → 2 ^ (t + 1 - s) ≤ 2 * n + 1
half-most s t w n l h p = rw (doubled s t l) (step (2 ^ (t - s)) w n h p)
  where
    step : (a w n : ℕ) → a * w ≤ n → 0 < w → 2 * a ≤ 2 * n + 1
    step a w n h p = omega (arith, mul-le-mul_left a p)
