use Rattle.std.proofs.Common.{◌∙◌, ap, chars, encode_utf8_all, sym}
use Rattle.std.proofs.lemmas.Str.{encodes-chars, scalars-chars}
use Rattle.std.proofs.Math.Utf8.{scalars}
use Rattle.ft_base.proofs.texts.Text.as_str.Goals as goal

pub returns-clause-bytes : goal.returns-clause-bytes
returns-clause-bytes c =
    sym (encodes-chars c.as_str.result.now c.as_str.utf8) ∙ ap encode_utf8_all (ap chars c.as_str.ensures ∙ c.self.view_is)

pub returns-clause-is_text : goal.returns-clause-is_text
returns-clause-is_text c =
    sym (ap scalars (ap chars c.as_str.ensures ∙ c.self.view_is)) ∙ scalars-chars c.as_str.result.now c.as_str.utf8
