use Rattle.std.proofs.Common.{◌∙◌, ap, sym}
use Rattle.serde_json.specs.Read.{read}
use Rattle.serde_json.specs.View.{view}
use Rattle.ft_seqr.proofs.CanonicalAnswers.{canonical-read}
use Rattle.ft_seqr.proofs.answer_texts.value_of.Goals as goal

pub returns-in-Ok-clause-canonical : goal.returns-in-Ok-clause-canonical
returns-in-Ok-clause-canonical c =
    canonical-read c.args.text.now (view c.in-Ok.value) c.as_str.ensures.canonical (ap read (sym c.as_str.ensures.value) ∙ c.in-Ok.ensures.ok)
