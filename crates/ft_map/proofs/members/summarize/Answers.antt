use Rattle.std.proofs.Common.{◌≡◌, [], Err, ◌∙◌, ap, subst}
use Rattle.ft_map.specs.MapReport.{summary_text}
use Rattle.ft_map.specs.MapSession.{NamedMapClient, Summary, summary_client}
use Rattle.ft_map.specs.MapWorlds.{AnswersPending, AnswersTurn}
use Rattle.ft_map.proofs.Turns.{handed-on, nothing-pending, summary-refused}
use Rattle.ft_map.proofs.members.summarize.Goals as goal

pub returns-in_err-nothing_pending : goal.returns-in_err-nothing_pending
returns-in_err-nothing_pending c =
    let s = c.args.service.now in
    let d = c.args.member.now in
    let why = c.in_err-nothing_pending.field-0.0 in
    let some = subst (λ (x : NamedMapClient). AnswersPending x.client.state.pending (Err why)) c.member.view_is c.in_err-nothing_pending.ensures in
    handed-on (AnswersTurn d d s s (summary_client s d)) why c.from_residual.result c.from_residual.ensures (summary-refused s d why some)

pub returns : goal.returns
returns c =
    let d = c.args.member.now in (
      Summary d.client,
      nothing-pending d.client _ (subst (λ (x : NamedMapClient). x.client.state.pending ≡ []) c.member.view_is c.in_ok-nothing_pending.ensures),
      c.in_ok-summary_text.ensures ∙ ap (λ (x : NamedMapClient). summary_text x.client) c.member.view_is,
    )
