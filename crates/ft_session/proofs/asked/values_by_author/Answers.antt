-- Those of the texts.
use Rattle.std.proofs.Common.{◌∙◌, ap, map}
use Rattle.serde_json.specs.Written.{compact_text}
use Rattle.ft_session.specs.Worlds.{ServiceState}
use Rattle.ft_seqr.specs.AnswerTexts.{written_authors}
use Rattle.ft_session.proofs.asked.values_by_author.Goals as goal

pub returns : goal.returns
returns c = c.of.ensures ∙ c.in_ok-texts.ensures ∙ ap (λ (s : ServiceState). map compact_text (written_authors s.names c.args.origins.now))
    c.service.view_is
