-- Compaction changes nothing that the replica stands for.
use Rattle.ft_seqr.specs.Refusals.{refusal_of_view}
use Rattle.ft_session.proofs.OwnEvents.{by-view, client-handed, compact-refused, compact-taken}
use Rattle.ft_session.proofs.edits.compact.Goals as goal

pub returns-in_err-compact-clause-answers : goal.returns-in_err-compact-clause-answers
returns-in_err-compact-clause-answers g c = by-view c.member.view_is
    (client-handed (refusal_of_view c.in_err-compact.field-0.0) c.from_residual.result c.from_residual.ensures (compact-refused _ c.args.service.now _ c.in_err-compact.field-0.0 c.in_err-compact.ensures.answers))

pub returns-clause-answers : goal.returns-clause-answers
returns-clause-answers g c = rw c.nothing.ensures (by-view c.member.view_is (compact-taken _ c.args.service.now _ c.in_ok-compact.ensures.answers))
