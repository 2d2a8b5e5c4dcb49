use Rattle.std.proofs.Common.{◌≡◌, Err, true}
use Rattle.std.proofs.lemmas.Str.Parse.{parse_digits}
use Rattle.ft_cli.proofs.Numbers.{all_digits, are_numerals, too_large}
use Rattle.ft_cli.specs.Words.{is_numeral}
use Rattle.ft_cli.proofs.words.read_number.Goals as goal

pub returns-in_default-clause-number : goal.returns-in_default-clause-number
returns-in_default-clause-number c =
    let number : is_numeral c.args.word.now ≡ true = cc in
    too_large c.args.least c.args.greatest c.args.word.now c.ranges.greatest.fits number
    (parse_digits are_numerals 64 c.args.word.now (Err c.in_default.field-0) c.in_default.ensures.value.0 (all_digits c.args.word.now number))
