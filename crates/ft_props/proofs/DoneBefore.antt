-- What is given if what was to be done before is done.
use Rattle.std.proofs.Common.{◌≡◌, Result, Ok, Err}
use Rattle.std.specs.Prelude.{IfOk, OnOk}
use Rattle.std.proofs.lemmas.Result.{IfOk-at_ok}

pub given_after : {D T F : Type 0} (P : Type 0) (R Q : T → Type 0) (given : Result T F) (done : Result D F) → OnOk given ((d : D) × (done ≡ Ok d))
    → OnOk done P → IfOk given R → ((x : T) → P → R x → Q x) → IfOk given Q
given_after P R Q (Ok x) done h k r f = f x (IfOk-at_ok (λ _. P) h.1 k) r
given_after P R Q (Err fault) done h k r f = tt
