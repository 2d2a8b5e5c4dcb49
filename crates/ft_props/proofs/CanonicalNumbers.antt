-- The decimal text of a whole number is the compact text of that number as a JSON value.
use Rattle.std.proofs.Common.{refl, arith, ℤ, pos, negsuc, FitsSigned, w64}
use Rattle.std.specs.Fmt.{signed_decimal}
use Rattle.std.proofs.lemmas.Bool.Decides.{nat_tests}
use Rattle.std.proofs.lemmas.Int.{ints}
use Rattle.serde_json.specs.Data.{unsigned, negative, number}
use Rattle.ft_json.specs.Canonical.{IsCanonicalText}

pub canonical_number : (z : ℤ) → FitsSigned w64 z → IsCanonicalText (signed_decimal z)
canonical_number (pos n) h = (number (unsigned n), grind (arith, nat_tests, ints), refl)
canonical_number (negsuc n) h = (number (negative (negsuc n)), grind (arith, nat_tests, ints), refl)
