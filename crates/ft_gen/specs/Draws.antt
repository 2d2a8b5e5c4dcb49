-- The numbers that a generated session draws. A draw replaces the state, a number of 64 bits, and answers by the new one.
use Rattle.std.specs.Prelude.{ℕ, zero, suc, ◌+◌, ◌*◌, ◌/◌, ◌%◌, ◌^◌}

-- the state after a draw from the state x
unfoldable pub next_state : ℕ → ℕ
next_state x = (x * 6364136223846793005 + 1442695040888963407) % 2 ^ 64

-- one of the m numbers from 0 on: what a draw from the state x answers
unfoldable pub draw : ℕ → ℕ → ℕ
draw m x = (next_state x / 2 ^ 33) % m

-- the state after n draws from the state x
abbrev pub state_after : ℕ → ℕ → ℕ
state_after zero x = x
state_after (suc n) x = state_after n (next_state x)
