-- The draft is submitted, if there is one.
use Rattle.std.proofs.Common.{◌∙◌, Err, subst, sym}
use Rattle.ft_seqr.specs.declared.refusals.Refusal.{Refusal}
use Rattle.ft_session.specs.Acts.{submitted_or_refused}
use Rattle.ft_session.specs.Services.{AnswersService}
use Rattle.ft_session.proofs.GuestEvents.{text-read, text-unread}
use Rattle.ft_session.proofs.guests.submit_read.Goals as goal

pub returns-in-Ok : goal.returns-in-Ok
returns-in-Ok c = λ w e. text-read c.args.read.value c.args.service.now c.args.conn c.in-Ok.draft _ _ (sym c.into_inner.ensures ∙ c.in-Ok.is) w (c.submit.ensures w e)

pub returns-in-Err : goal.returns-in-Err
returns-in-Err c = λ w e.
    subst (λ (why : Refusal). AnswersService c.args.service.now c.args.service.now (submitted_or_refused w c.args.conn c.args.read.value) (Err why)) (sym c.of_cause.ensures)
    (text-unread c.args.read.value c.args.service.now c.args.conn c.in-Err.cause (sym c.into_inner.ensures ∙ c.in-Err.is) w)
