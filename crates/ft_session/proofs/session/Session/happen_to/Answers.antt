-- What the client of that name answers, the session does.
use Rattle.std.proofs.Common.{List, sym, ◌∙◌, subst}
use Rattle.std.specs.Prelude.{IfOk}
use Rattle.indexmap.specs.IndexMap.{values}
use Rattle.ft_delivery.proofs.KeptValues.{under-set, values-set}
use Rattle.ft_session.specs.Acts.{NamedActEffect, client_step}
use Rattle.ft_seqr.specs.World.{of_client}
use Rattle.ft_session.specs.Worlds.{AnswersHappening, MemberState}
use Rattle.ft_session.proofs.Happenings.{happened-effect, happened-to, happened-to_none, meets-some, stands-session}
use Rattle.ft_session.proofs.SessionAnswers.{session-same, session-view}
use Rattle.ft_session.proofs.session.Session.happen_to.Goals as goal

pub returns-in_default-clause-answers : goal.returns-in_default-clause-answers
returns-in_default-clause-answers g c = session-same c.self.view_is
    (happened-to_none (client_step c.args.act.now) c.args.name.now (values c.self.inside.members) c.self.inside.guests.items c.self.inside.service
    (sym (c.place_of.ensures (λ (m : MemberState). m.name) c.self.invariant) ∙ c.in_default.is))

pub happen_to_member-requires-clause-meets : goal.happen_to_member-requires-clause-meets
happen_to_member-requires-clause-meets g c =
    meets-some (client_step c.args.act.now) c.args.name.now (values c.self.inside.members) c.self.inside.guests.items c.self.inside.service c.in-Some.place c.index_mut.result.now
    (sym (c.place_of.ensures (λ (m : MemberState). m.name) c.self.invariant) ∙ c.in-Some.is)
    c.index_mut.ensures.value
    (stands-session c.self.view_is c.requires.stands)

pub returns-clause-answers : goal.returns-clause-answers
returns-clause-answers g c = session-view c.self.view_is
    (subst (λ (ms : List MemberState). AnswersHappening (λ w. of_client w c.args.name.now (client_step c.args.act.now w))
    (record { members = values c.self.inside.members; guests = c.self.inside.guests.items; service = c.self.inside.service })
    (record { members = ms; guests = c.self.inside.guests.items; service = c.happen_to_member.new.service })
    c.happen_to_member.result)
    (sym (values-set c.in-Some.place c.happen_to_member.new.member c.self.inside.members.entries))
    (happened-to (client_step c.args.act.now) c.args.name.now (values c.self.inside.members) c.self.inside.guests.items c.self.inside.service c.in-Some.place c.index_mut.result.now
    (sym (c.place_of.ensures (λ (m : MemberState). m.name) c.self.invariant) ∙ c.in-Some.is)
    c.index_mut.ensures.value
    c.happen_to_member.new.member c.happen_to_member.new.service c.happen_to_member.result c.happen_to_member.ensures.answers))

pub returns-clause-effect : goal.returns-clause-effect
returns-clause-effect g c =
    subst (λ (ms : List MemberState). IfOk c.happen_to_member.result (λ out. NamedActEffect g.R.Replica.COMPACTS c.args.act.now c.args.name.now
    (record { members = ms; guests = c.self.inside.guests.items; service = c.happen_to_member.new.service }) out))
    (sym (values-set c.in-Some.place c.happen_to_member.new.member c.self.inside.members.entries))
    (happened-effect (client_step c.args.act.now) c.args.name.now (values c.self.inside.members) c.self.inside.guests.items c.self.inside.service c.in-Some.place c.index_mut.result.now
    (sym (c.place_of.ensures (λ (m : MemberState). m.name) c.self.invariant) ∙ c.in-Some.is)
    c.index_mut.ensures.value
    c.happen_to_member.new.member c.happen_to_member.new.service g.R.Replica.COMPACTS c.args.act.now (stands-session c.self.view_is c.requires.stands)
    c.happen_to_member.result c.happen_to_member.ensures.answers c.happen_to_member.ensures.effect)

pub invariant_of-self : goal.invariant_of-self
invariant_of-self g c = under-set (λ (m : MemberState). m.name) c.in-Some.place c.index_mut.result.now c.happen_to_member.new.member c.self.inside.members.entries
    c.index_mut.ensures.value c.happen_to_member.ensures.name c.self.invariant
