-- The faults of a source or a sink: how they are counted, and what a call that failed says of the count.
use Rattle.std.specs.Prelude.{◌≡◌, ℕ, ◌+◌, ◌≤◌, min, Result, OnOk, OnErr}

-- the greatest count, where counts stop
abbrev pub greatest_count : ℕ
greatest_count = 18446744073709551615

-- one more, or the greatest count
abbrev pub one_more : ℕ → ℕ
one_more n = min (n + 1) greatest_count

-- the count rose, which is also said of a count that stands at the greatest
abbrev pub Rose : ℕ → ℕ → Type 0
Rose before now = one_more before ≤ now

-- the count didn't fall in the call, it is as it was where the call didn't fail, and the call failed only where it rose
pub record HasCause {T E : Type 0} (before now : ℕ) (result : Result T E) : Type 0 where
  pub later : before ≤ now
  pub steady : OnOk result (now ≡ before)
  pub failed : OnErr result (Rose before now)
