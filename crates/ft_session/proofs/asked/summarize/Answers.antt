-- The summary of a replica.
use Rattle.std.proofs.Common.{◌∷◌, [], refl}
use Rattle.ft_sumdoc.specs.Written.{summary_text}
use Rattle.ft_seqr.specs.Refusals.{refusal_of_summary}
use Rattle.ft_session.proofs.Asking.{reading-handed, reading-texts, summary-cut, summary-refuses, summary-told}
use Rattle.ft_session.proofs.asked.summarize.Goals as goal

pub returns-in_err-summary : goal.returns-in_err-summary
returns-in_err-summary g c = reading-handed (refusal_of_summary c.in_err-summary.field-0.0) c.from_residual.result c.from_residual.ensures
    (summary-refuses c.args.member.now c.args.service.now c.in_err-summary.field-0.0 c.in_err-summary.ensures)

pub summary_texts-requires-clause-conns : goal.summary_texts-requires-clause-conns
summary_texts-requires-clause-conns g c = (summary-cut c.args.member.now c.args.service.now c.requires c.in_ok-summary.summary
    c.in_ok-summary.ensures).conns

pub returns : goal.returns
returns g c = reading-texts (summary_text c.in_ok-summary.summary ∷ []) c.summary_texts.result c.of_texts.result c.summary_texts.ensures
    c.of_texts.ensures
    (summary-told c.args.member.now c.args.service.now c.in_ok-summary.summary (summary_text c.in_ok-summary.summary ∷ []) c.in_ok-summary.ensures
    refl)
