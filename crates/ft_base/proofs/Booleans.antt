-- What a conjunction of tests says of each of them.
use Rattle.std.proofs.Common.{◌≡◌, Bool, true, false, ◌&&◌, refl}

pub both : (a b : Bool) → a && b ≡ true → (a ≡ true) × (b ≡ true)
both true true h = (refl, refl)
both true false h = (cc)
both false b h = (cc)

pub all_three : (a b c : Bool) → a && b && c ≡ true → (a ≡ true) × (b ≡ true) × (c ≡ true)
all_three true true true h = (refl, refl, refl)
all_three false b c h = (cc)
all_three true false c h = (cc)
all_three true true false h = (cc)

pub all_four : (a b c d : Bool) → a && b && c && d ≡ true → (a ≡ true) × (b ≡ true) × (c ≡ true) × (d ≡ true)
all_four true true true true h = (refl, refl, refl, refl)
all_four false b c d h = (cc)
all_four true false c d h = (cc)
all_four true true false d h = (cc)
all_four true true true false h = (cc)
