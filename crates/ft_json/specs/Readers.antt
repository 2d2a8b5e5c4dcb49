-- What a call answers that takes memory, and a reader among them.
use Rattle.std.specs.Prelude.{◌≡◌, ◌≢◌, Result, Ok, Err, IfOk, IfErr}

-- the result is what is expected, or OutOfMemory
pub record Gives {A F : Type 0} (out_of_memory : F) (expected result : Result A F) : Type 0 where
  pub ok : IfOk result (λ given. expected ≡ Ok given)
  pub err : IfErr result (λ fault. fault ≢ out_of_memory → expected ≡ Err fault)

-- the same, and what is read is formed so
pub record Reads {A F : Type 0} (out_of_memory : F) (expected : Result A F) (IsFormed : A → Type 0) (result : Result A F) : Type 0 where
  pub ok : IfOk result (λ read. expected ≡ Ok read)
  pub err : IfErr result (λ fault. fault ≢ out_of_memory → expected ≡ Err fault)
  pub formed : IfOk result IsFormed
