-- A guest enters.
use Rattle.std.proofs.Common.{◌+◌, ◌-◌, ◌<◌, ◌^◌, ◌≡◌, ◌∙◌, None, ap, length, sym, subst}
use Rattle.ft_seqr.specs.World.{NaiveWorld, name_fault}
use Rattle.ft_session.specs.Worlds.{SessionStandsForSome, SessionState, SessionStands}
use Rattle.ft_session.proofs.GuestEvents.{enter-new, enter-refused, enter-taken}
use Rattle.ft_session.proofs.SessionAnswers.{session-handed, session-view}
use Rattle.ft_session.proofs.session.Session.enter_as.Goals as goal

pub join-requires-clause-new : goal.join-requires-clause-new
join-requires-clause-new g c = enter-new _ c.args.name.now c.args.label.now (subst SessionStandsForSome (sym c.self.view_is) c.requires.stands)
    (subst (λ (s : SessionState). (w : NaiveWorld) → SessionStands s w → name_fault w c.args.name.now ≡ None) (sym c.self.view_is) c.requires.free)
    (subst (λ (s : SessionState). length s.service.names < 2 ^ 32 - 1) (sym c.self.view_is) c.requires.few) c.requires.label

pub join-requires-clause-few : goal.join-requires-clause-few
join-requires-clause-few g c = subst (λ (s : SessionState). length s.service.names < 2 ^ 32 - 1) (sym c.self.view_is) c.requires.few

pub returns-in_err-join : goal.returns-in_err-join
returns-in_err-join g c = session-view c.self.view_is (session-handed c.in_err-join.field-0.0 c.from_residual.result c.from_residual.ensures
    (enter-refused _ c.args.name.now c.args.label.now c.join.new.self c.in_err-join.field-0.0 c.in_err-join.ensures))

pub returns : goal.returns
returns g c = rw c.nothing.ensures (session-view c.self.view_is
    (enter-taken _ c.args.name.now c.args.label.now c.args.conn c.join.new.self c.add_guest.new.self
    (subst (λ (s : SessionState). (w : NaiveWorld) → SessionStands s w → name_fault w c.args.name.now ≡ None) (sym c.self.view_is) c.requires.free)
    (c.requires.next ∙ ap (λ (s : SessionState). length s.service.names + 1) (sym c.self.view_is)) c.requires.label c.in_ok-join.ensures
    c.in_ok-add_guest.ensures))
