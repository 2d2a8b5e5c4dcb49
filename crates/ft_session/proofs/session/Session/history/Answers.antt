-- The texts of the log.
use Rattle.std.proofs.Common.{ℕ, List, refl, sym, subst}
use Rattle.ft_session.specs.declared.outputs.Out.TheVariants as out
use Rattle.ft_session.specs.Worlds.{SessionStandsForSome}
use Rattle.ft_session.proofs.GuestEvents.{history-told, log-formed}
use Rattle.ft_session.proofs.SessionAnswers.{session-same, session-written}
use Rattle.ft_session.proofs.session.Session.history.Goals as goal

pub log_texts-requires : goal.log_texts-requires
log_texts-requires g c = log-formed _ (subst SessionStandsForSome (sym c.self.view_is) c.requires)

pub returns : goal.returns
returns g c = session-same c.self.view_is
    (session-written (λ (ts : List (List ℕ)). out.Texts ts) _ c.log_texts.result c.of_texts.result c.log_texts.ensures c.of_texts.ensures
    (history-told _ _ refl))
