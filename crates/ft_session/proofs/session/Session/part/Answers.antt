-- A guest goes.
use Rattle.std.proofs.Common.{◌≡◌, ◌∙◌, ap, get_or, sym, subst}
use Rattle.std.specs.List.{position}
use Rattle.ft_seqr.specs.World.{NamedGuest, is_guest}
use Rattle.ft_session.proofs.GuestEvents.{part-refused, part-taken, part-unknown}
use Rattle.ft_session.proofs.SessionAnswers.{session-handed, session-same, session-view}
use Rattle.ft_session.proofs.session.Session.part.Goals as goal

pub returns-in_default : goal.returns-in_default
returns-in_default g c = session-same c.self.view_is
    (part-unknown _ c.args.name.now (sym (c.in_default.ensures ∙ ap (position (is_guest c.args.name.now)) c.as_slice.ensures.value)))

pub returns-in_err-leave : goal.returns-in_err-leave
returns-in_err-leave g c = session-view c.self.view_is (session-handed c.in_err-leave.field-0.0 c.from_residual.result c.from_residual.ensures
    (part-refused _ c.args.name.now c.in-Some.place _ (sym (c.in-Some.ensures ∙ ap (position (is_guest c.args.name.now)) c.as_slice.ensures.value))
    (subst (λ (d : NamedGuest). d ≡ get_or c.self.inside.guests.items c.in-Some.place d) (sym c.behind-self.view_is) c.index.ensures) c.in_err-leave.field-0.0 c.leave.new.self c.in_err-leave.ensures))

pub returns : goal.returns
returns g c = rw c.nothing.ensures (session-view c.self.view_is
    (part-taken _ c.args.name.now c.in-Some.place _ (sym (c.in-Some.ensures ∙ ap (position (is_guest c.args.name.now)) c.as_slice.ensures.value))
    (subst (λ (d : NamedGuest). d ≡ get_or c.self.inside.guests.items c.in-Some.place d) (sym c.behind-self.view_is) c.index.ensures) c.leave.new.self c.in_ok-leave.ensures))
