-- How many elements each connection inserted.
use Rattle.std.proofs.Common.{refl}
use Rattle.ft_seqr.specs.Refusals.{refusal_of_view}
use Rattle.ft_session.proofs.Asking.{authors-told, reading-handed, reading-texts, reading-view, view-refused}
use Rattle.ft_session.proofs.asked.authors.Goals as goal

pub returns-in_err-origins : goal.returns-in_err-origins
returns-in_err-origins g c = reading-view c.member.view_is (reading-handed (refusal_of_view c.in_err-origins.field-0.0) c.from_residual.result c.from_residual.ensures
    (view-refused _ _ c.args.service.now c.in_err-origins.field-0.0 c.in_err-origins.ensures))

pub returns : goal.returns
returns g c = reading-view c.member.view_is
    (reading-texts _ c.values_by_author.result c.of_texts.result c.values_by_author.ensures c.of_texts.ensures
    (authors-told _ c.args.service.now c.in_ok-origins.origins c.in_ok-origins.ensures _ refl))
