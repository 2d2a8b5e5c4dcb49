use Rattle.std.proofs.Common.{sym, subst, arith}
use Rattle.ft_json.specs.Canonical.{IsCanonicalText}
use Rattle.ft_gen.proofs.DrawnTexts.{canonical_decimal}
use Rattle.ft_gen.proofs.texts.number_text.Goals as goal

pub new-requires : goal.new-requires
new-requires c = subst IsCanonicalText (sym c.format.ensures.text) (canonical_decimal c.args.number (omega arith))
