use Rattle.std.proofs.Common.{◌<◌, arith, length}
use Rattle.std.proofs.lemmas.List.Folds.{list_all_more}
use Rattle.ft_props.specs.declared.numbers.TheConstants.{TOO_GREAT}
use Rattle.ft_props.specs.Properties.{digits_value, is_digit}
use Rattle.ft_props.proofs.Digits.{digits_value-more, cut-more}
use Rattle.std.proofs.Common.{take, get_or, ◌-◌}
use Rattle.ft_props.proofs.numbers.safe_digits_value.Goals as goal

pub loop-digit-preserved : goal.loop-digit-preserved
loop-digit-preserved c =
    let i = c.loop-digit.digit-index in
    let ds = c.args.digits.now in
    let inside : i < length ds = omega arith in
    record {
      digits = grind (arith, list_all_more is_digit ds i 0 inside);
      value =
          grind (arith, digits_value-more i 0 ds inside, cut-more TOO_GREAT c.loop-digit.value (digits_value 0 (take i ds)) (get_or ds i 0 - 48) c.loop-digit.invariant.value);
    }
