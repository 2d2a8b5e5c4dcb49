-- Who inserted what a replica shows.
use Rattle.std.proofs.Common.{refl, arith}
use Rattle.ft_seqr.specs.Refusals.{refusal_of_view}
use Rattle.ft_session.proofs.Asking.{blame-refused, blame-told, reading-handed, reading-texts, reading-view, view-refused}
use Rattle.ft_session.proofs.asked.blame.Goals as goal

pub returns-in_err-origins : goal.returns-in_err-origins
returns-in_err-origins g c = reading-view c.member.view_is (reading-handed (refusal_of_view c.in_err-origins.field-0.0) c.from_residual.result c.from_residual.ensures
    (view-refused _ _ c.args.service.now c.in_err-origins.field-0.0 c.in_err-origins.ensures))

pub returns : goal.returns
returns g c =
    let n = c.len.ensures.len in
    let h = c.if-len-end.false in
    reading-view c.member.view_is
    (reading-texts _ c.range_texts-texts.result c.of_texts.result c.range_texts-texts.ensures c.of_texts.ensures
    (blame-told _ c.args.service.now c.in_ok-origins.origins c.in_ok-origins.ensures c.args.start c.args.end (omega (arith, n, h)) _ refl))

pub returns-then-len-end : goal.returns-then-len-end
returns-then-len-end g c =
    let n = c.len.ensures.len in
    let h = c.if-len-end.true in
    reading-view c.member.view_is (blame-refused _ c.args.service.now c.in_ok-origins.origins c.in_ok-origins.ensures c.args.start c.args.end
    c.len-then-len-end.result c.len-then-len-end.ensures.len (omega (arith, n, h)))
