-- Those of the runs.
use Rattle.std.proofs.Common.{◌∙◌, List, ap, map}
use Rattle.serde_json.specs.Written.{compact_text}
use Rattle.std.proofs.lemmas.Result.{IfOk-weaker}
use Rattle.ft_attrib.specs.declared.attribution.AttrRun.{AttrRun}
use Rattle.ft_session.specs.Worlds.{ServiceState}
use Rattle.ft_seqr.specs.AnswerTexts.{written_origin_run}
use Rattle.ft_session.proofs.asked.range_texts.Goals as goal

pub returns : goal.returns
returns c = IfOk-weaker c.run_texts.result _ _
    (λ ts e. e ∙ ap (λ (s : ServiceState). map compact_text (map (written_origin_run s.names) c.as_slice.result.now)) c.service.view_is
    ∙ ap (λ (l : List AttrRun). map compact_text (map (written_origin_run c.args.service.now.names) l))
    (c.as_slice.ensures.value ∙ c.in_ok-runs.ensures))
    c.run_texts.ensures
