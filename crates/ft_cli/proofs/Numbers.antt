-- An argument of digits and the number that it is.
use Rattle.std.proofs.Common.{◌≡◌, ℕ, ◌<◌, ◌^◌, List, [], ◌∷◌, None, length, true, arith, rules}
use Rattle.std.proofs.lemmas.Bool.Decides.{nat_tests}
use Rattle.std.proofs.lemmas.Str.Parse.{IsNumeralModel, numerals_by_value}
use Rattle.std.specs.Char.{is_ascii_digit}
use Rattle.std.specs.List.{list_all}
use Rattle.std.specs.Str.Parse.{digits_value}
use Rattle.ft_cli.specs.Words.{is_numeral, number_within}

pub are_numerals : IsNumeralModel (λ ds. list_all is_ascii_digit ds ≡ true) (digits_value 10)
are_numerals = numerals_by_value _ (search rules)

-- a number that has more than 64 bits is beyond each bound
pub too_large : (least greatest : ℕ) (word : List ℕ) → greatest < 2 ^ 64 → is_numeral word ≡ true
    → ¬ ((0 < length word) × (digits_value 10 word < 2 ^ 64)) → None ≡ number_within least greatest word
unfolding number_within
too_large least greatest [] fits number large = (cc)
too_large least greatest (c ∷ cs) fits number large = grind (arith, nat_tests)

-- a number's argument has digits alone
pub all_digits : (word : List ℕ) → is_numeral word ≡ true → list_all is_ascii_digit word ≡ true
all_digits word number = grind arith
