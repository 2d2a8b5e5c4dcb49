-- The intervals of a replica that meet a range.
use Rattle.std.proofs.Common.{List, ap, map}
use Rattle.serde_json.specs.Written.{compact_text}
use Rattle.ft_sumdoc.specs.declared.summary.IntervalRec.{IntervalRec}
use Rattle.ft_seqr.specs.AnswerTexts.{written_overlap}
use Rattle.ft_seqr.specs.Refusals.{refusal_of_view}
use Rattle.ft_session.proofs.Asking.{overlap-told, reading-handed, reading-texts, reading-view, view-refused}
use Rattle.ft_session.proofs.asked.overlap.Goals as goal

pub returns-in_err-found : goal.returns-in_err-found
returns-in_err-found g c = reading-view c.member.view_is (reading-handed (refusal_of_view c.in_err-found.field-0.0) c.from_residual.result c.from_residual.ensures
    (view-refused _ _ c.args.service.now c.in_err-found.field-0.0 c.in_err-found.ensures))

pub returns : goal.returns
returns g c = reading-view c.member.view_is
    (reading-texts _ c.overlap_texts-texts.result c.of_texts.result c.overlap_texts-texts.ensures c.of_texts.ensures
    (overlap-told _ c.args.service.now c.args.label.now c.args.start c.args.end c.in_ok-found.found.items _ c.in_ok-found.ensures
    (ap (λ (l : List IntervalRec). map compact_text (map written_overlap l)) c.as_slice.ensures.value)))
