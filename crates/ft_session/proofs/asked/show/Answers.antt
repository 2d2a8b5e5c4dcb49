-- The view of a replica.
use Rattle.std.proofs.Common.{◌∙◌, Result, ap, refl}
use Rattle.std.specs.Prelude.{IfOk}
use Rattle.ft_seqr.specs.declared.refusals.Refusal.{Refusal}
use Rattle.ft_msg.specs.Answers.{numbers_of}
use Rattle.ft_session.specs.declared.outputs.Out.{Out}
use Rattle.ft_session.specs.declared.outputs.Out.TheVariants as out
use Rattle.ft_session.specs.Effects.{ShowsNumbers}
use Rattle.ft_session.specs.Worlds.{MemberState}
use Rattle.ft_session.proofs.Asking.{reading-view, reading-written, shown}
use Rattle.ft_session.proofs.OwnEvents.{written-known}
use Rattle.ft_session.proofs.asked.show.Goals as goal

pub returns-clause-answers : goal.returns-clause-answers
returns-clause-answers g c = reading-view c.member.view_is
    (reading-written (λ name. out.View name c.in_ok-view.view) _ c.copy.result c.of_view.result c.copy.ensures c.of_view.ensures
    (shown _ c.args.service.now _ c.in_ok-view.view refl c.in_ok-view.ensures.numbers c.in_ok-view.ensures.content))

pub returns-clause-numbers : goal.returns-clause-numbers
returns-clause-numbers g c =
    written-known (λ (r : Result Out Refusal). IfOk r (ShowsNumbers c.args.member.now)) (λ name. out.View name c.in_ok-view.view) _ c.copy.result
    c.of_view.result tt c.copy.ensures
    (c.in_ok-view.ensures.numbers ∙ ap (λ (m : MemberState). numbers_of m.replica) c.member.view_is) c.of_view.ensures
