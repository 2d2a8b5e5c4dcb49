-- What is known where a call succeeded.
use Rattle.std.proofs.Common.{◌≡◌, true, subst, sym, Result, Ok, Err, is_ok}
use Rattle.std.specs.Prelude.{IfOk, OnOk}

-- what a call that succeeded says
pub ok-holds : {T E P : Type 0} (r : Result T E) → is_ok r ≡ true → OnOk r P → P
ok-holds (Ok x) e h = h
ok-holds (Err f) e h = (cc)

-- what holds whatever was made holds where something was
pub whenever : {T E : Type 0} (r : Result T E) (Q : Type 0) (P : T → Type 0) → ((x : T) → P x → Q) → IfOk r P → OnOk r Q
whenever (Ok x) Q P f h = f x h
whenever (Err f) Q P g h = tt

-- a value that is handed on once something is done, where this tells of it
pub after-done : {D T E F : Type 0} (done : Result D E) (r : Result T F) (P : T → Type 0) (x : T) → OnOk done (P x) → OnOk r ((d : D) × (done ≡ Ok d))
    → IfOk r (λ y. y ≡ x) → IfOk r P
after-done (Ok d) (Ok y) P x h w e = subst P (sym e) h
after-done (Err f) (Ok y) P x h w e = let never : Err f ≡ Ok w.0 = w.1 in (cc)
after-done done (Err f) P x h w e = tt
