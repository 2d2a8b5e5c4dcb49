use Rattle.std.proofs.Common.{◌≡◌, true, sym, ap, ◌∙◌, chars}
use Rattle.std.proofs.lemmas.Result.{IfOk-weaker}
use Rattle.std.proofs.lemmas.Str.{scalars-chars}
use Rattle.std.proofs.Math.Utf8.{scalars}
use Rattle.serde_json.specs.Data.{string}
use Rattle.serde_json.specs.Written.{has_float, compact_text}
use Rattle.ft_json.proofs.Quoted.{chars-quoted}
use Rattle.ft_json.proofs.writing.quote.Goals as goal

pub returns : goal.returns
returns c =
    let cs = c.args.text.now in
    let ok : scalars cs ≡ true = ap scalars (sym c.as_str.ensures.characters) ∙ scalars-chars c.as_str.result.now c.as_str.utf8 in
    let value = c.in_ok-string.ensures in
    let bytes = c.as_str-2.ensures.value ∙ c.in_ok-written.ensures.text (ap has_float value) ∙ ap compact_text (value ∙ ap string c.as_str.ensures.bytes) in
    IfOk-weaker c.new.result _ _ (λ s e. e ∙ (ap chars bytes ∙ chars-quoted cs ok)) c.new.ensures
