-- Truth values.
use Rattle.std.proofs.Common.{◌≡◌, Bool, true, false, not, ◌&&◌, ◌||◌, refl}

pub hidden : (b : Bool) → not b ≡ true → b ≡ false
hidden true h = (cc)
hidden false h = refl

pub never : (b : Bool) → b && false ≡ false
never true = refl
never false = refl

pub or-true : (b : Bool) → b || true ≡ true
or-true true = refl
or-true false = refl
