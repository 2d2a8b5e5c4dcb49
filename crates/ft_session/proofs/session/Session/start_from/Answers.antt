-- A client starts over the document of another one.
use Rattle.std.proofs.Common.{Some, Ok, Result, ap, sym, subst}
use Rattle.ft_seqr.specs.declared.refusals.Refusal.{Refusal}
use Rattle.ft_seqr.specs.World.{happen}
use Rattle.ft_seqr.specs.declared.events.Event.TheVariants as event
use Rattle.ft_session.specs.declared.outputs.Out.{Out}
use Rattle.ft_session.specs.declared.outputs.Out.TheVariants as out
use Rattle.ft_session.specs.Worlds.{AnswersHappening, SessionState}
use Rattle.ft_session.proofs.Entering.{start_from-refused, start_from-taken}
use Rattle.ft_session.proofs.OwnEvents.{handed-on}
use Rattle.ft_session.proofs.session.Session.start_from.Goals as goal

pub returns-in_err-replica-clause-answers : goal.returns-in_err-replica-clause-answers
returns-in_err-replica-clause-answers g c =
    handed-on (λ (r : Result Out Refusal). AnswersHappening (λ w. happen w (event.Start c.args.name.now (Some c.args.from.now))) c.args.self.now c.args.self.now r) c.in_err-replica.field-0.0 c.from_residual-in_err-replica.result c.from_residual-in_err-replica.ensures
    (start_from-refused c.args.self.now c.args.name.now c.in_ok-free_name.ensures.fault c.args.from.now c.in_err-replica.field-0.0 c.in_err-replica.ensures.err)

pub returns-clause-answers : goal.returns-clause-answers
returns-clause-answers g c = rw c.nothing.ensures
    (subst (λ (s : SessionState). AnswersHappening (λ w. happen w (event.Start c.args.name.now (Some c.args.from.now))) c.args.self.now s (Ok out.Nothing)) (sym c.in_ok-admit.ensures)
    (start_from-taken c.args.self.now c.args.name.now c.in_ok-free_name.ensures.fault c.args.from.now _ c.in_ok-replica.ensures.ok))

pub returns-clause-trimmed : goal.returns-clause-trimmed
returns-clause-trimmed g c = record { replica = _; members = ap (λ (s : SessionState). s.members) c.in_ok-admit.ensures; keeps = c.in_ok-replica.ensures.trimmed }
