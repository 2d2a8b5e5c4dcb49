use Rattle.std.proofs.Common.{◌∙◌, ap, chars, encode_utf8_all, sym}
use Rattle.std.proofs.lemmas.Str.{encodes-chars}
use Rattle.ft_tree_leaves.proofs.text_runs.TextRun.as_str.Goals as goal

pub returns-clause-bytes : goal.returns-clause-bytes
returns-clause-bytes c =
    sym (encodes-chars c.as_str.result.now c.as_str.utf8) ∙ ap encode_utf8_all (ap chars c.as_str.ensures ∙ c.self.view_is)
