-- What is known of what was made, where a call says what it did with that.
use Rattle.std.proofs.Common.{◌≡◌, Result, Ok, Err, subst}
use Rattle.std.specs.Prelude.{IfOk, IsOkAnd}

-- what holds of what was made holds of what it is known to be
pub made-known : {T E A : Type 0} (made : Result T E) (shown : T → A) (x : A) (P : A → Type 0) → IfOk made (λ v. shown v ≡ x)
    → IsOkAnd made (λ v. P (shown v)) → P x
made-known (Ok v) shown x P same holds = subst P same holds
made-known (Err fault) shown x P same holds = absurd holds

-- what follows from what was said holds too
pub made-weaker : {T E : Type 0} (made : Result T E) (P Q : T → Type 0) → ((v : T) → P v → Q v) → IsOkAnd made P → IsOkAnd made Q
made-weaker (Ok v) P Q f holds = f v holds
made-weaker (Err fault) P Q f holds = absurd holds
