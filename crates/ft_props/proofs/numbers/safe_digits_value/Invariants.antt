use Rattle.std.proofs.Common.{◌≡◌, min, take, true}
use Rattle.std.specs.List.{list_all}
use Rattle.ft_props.specs.declared.numbers.TheConstants.{TOO_GREAT}
use Rattle.ft_props.specs.Properties.{digits_value, is_digit}
use Rattle.ft_props.proofs.numbers.safe_digits_value.Given as goal

-- the value of the digits so far, cut at the first number that is too great
abbrev pub invariant-loop-digit : goal.invariant-loop-digit
invariant-loop-digit l = record {
  digits : list_all is_digit (take l.digit-index l.digits) ≡ true;
  value : l.value ≡ min (digits_value 0 (take l.digit-index l.digits)) TOO_GREAT;
}
