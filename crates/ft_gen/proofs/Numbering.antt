-- The numbers of the clients from one on.
use Rattle.std.proofs.Common.{◌≡◌, ℕ, suc, ◌+◌, ◌-◌, ◌<◌, ◌≤◌, [], ◌∷◌, ap, ◌∙◌, arith}
use Rattle.ft_gen.specs.Rounds.{from, numbers}

pub from-more : (count i : ℕ) → i ≤ count → from count i ≡ i ∷ from count (i + 1)
from-more count i h =
    let more : count + 1 - i ≡ suc (count - i) = omega arith in
    let others : count - i ≡ count + 1 - (i + 1) = omega arith in
    ap (λ n. numbers n i) more ∙ ap (λ n. i ∷ numbers n (i + 1)) others

pub from-none : (count i : ℕ) → count < i → from count i ≡ []
from-none count i h =
    let none : count + 1 - i ≡ 0 = omega arith in
    ap (λ n. numbers n i) none
