-- Draws.
use Rattle.std.proofs.Common.{◌≡◌, ℕ, suc, ◌+◌, ◌-◌, ◌*◌, ◌/◌, ◌%◌, ◌<◌, sym, ap, ◌∙◌, arith}
use Rattle.std.proofs.Math.Nat.{add-mul-mod_self_left, mod-add-div}
use Rattle.std.proofs.lemmas.Nat.{mod_below}
use Rattle.ft_gen.specs.Draws.{draw, next_state, state_after}

-- a remainder may be taken before a sum
pub mod-add : (a b m : ℕ) → (a % m + b) % m ≡ (a + b) % m
mod-add a b m =
    let whole : (a % m + b) + m * (a / m) ≡ a + b = omega (arith, mod-add-div a m) in
    sym (add-mul-mod_self_left (a % m + b) m (a / m)) ∙ ap (λ n. n % m) whole

-- a draw answers one of so many numbers
pub draw-below : (m x : ℕ) → 0 < m → draw m x < m
unfolding draw
draw-below m x h = mod_below _ m h

-- the state after one draw and the others
pub state_after-more : (count i x : ℕ) → i < count → state_after (count - i) x ≡ state_after (count - (i + 1)) (next_state x)
state_after-more count i x h =
    let more : count - i ≡ suc (count - (i + 1)) = omega arith in
    ap (λ n. state_after n x) more
