-- Answers that went well.
use Rattle.std.proofs.Common.{◌≡◌, false, Result, Ok, Err}
use Rattle.std.specs.Prelude.{OnOk, is_err}

-- what holds of such an answer
pub then-ok : {A E P Q : Type 0} (r : Result A E) → OnOk r P → (P → Q) → OnOk r Q
then-ok (Ok a) h f = f h
then-ok (Err e) h f = tt

-- what holds anyway
pub on-ok : {A E P : Type 0} (r : Result A E) → P → OnOk r P
on-ok (Ok a) p = p
on-ok (Err e) p = tt

pub three-ok : {A E P Q R S : Type 0} (r : Result A E) → OnOk r P → OnOk r Q → OnOk r R → (P → Q → R → S) → OnOk r S
three-ok (Ok a) h g k f = f h g k
three-ok (Err e) h g k f = tt

pub not-err : {A E P : Type 0} (r : Result A E) → OnOk r P → is_err r ≡ false → P
not-err (Ok a) h e = h
not-err (Err x) h e = (cc)
