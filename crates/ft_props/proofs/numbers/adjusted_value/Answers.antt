use Rattle.std.proofs.Common.{◌≡◌, sym, subst, rules, FitsSigned, w64}
use Rattle.std.specs.Fmt.{signed_decimal}
use Rattle.ft_json.specs.Canonical.{IsCanonicalText}
use Rattle.ft_props.proofs.CanonicalNumbers.{canonical_number}
use Rattle.ft_props.proofs.numbers.adjusted_value.Goals as goal

pub new-requires : goal.new-requires
new-requires c =
    let number = c.adjusted_number-number.result in
    let fits : FitsSigned w64 number = search rules in
    let text : c.as_str.result.now ≡ signed_decimal number = search rules in
    subst IsCanonicalText (sym text) (canonical_number number fits)
