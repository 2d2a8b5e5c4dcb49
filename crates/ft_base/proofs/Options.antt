-- What is equal as an option is equal.
use Rattle.std.proofs.Common.{◌≡◌, Some}

pub some-same : {A : Type 0} (a b : A) → Some a ≡ Some b → a ≡ b
some-same a b h = (cc)
