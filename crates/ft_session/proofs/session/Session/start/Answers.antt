-- An empty client starts.
use Rattle.std.proofs.Common.{None, Ok, sym, subst}
use Rattle.ft_seqr.specs.World.{happen}
use Rattle.ft_seqr.specs.declared.events.Event.TheVariants as event
use Rattle.ft_session.specs.declared.outputs.Out.TheVariants as out
use Rattle.ft_session.specs.Worlds.{AnswersHappening, SessionState}
use Rattle.ft_session.proofs.Entering.{start-taken}
use Rattle.ft_session.proofs.session.Session.start.Goals as goal

pub returns : goal.returns
returns g c = rw c.nothing.ensures
    (subst (λ (s : SessionState). AnswersHappening (λ w. happen w (event.Start c.args.name.now None)) c.args.self.now s (Ok out.Nothing)) (sym c.in_ok-admit.ensures)
    (start-taken c.args.self.now c.args.name.now c.in_ok-free_name.ensures.fault _ c.in_ok-replica.ensures))
