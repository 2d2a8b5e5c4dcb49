-- What the session answers, with the load.
use Rattle.std.proofs.Common.{◌≡◌, ◌≤◌, ◌+◌, ◌^◌, ◌∙◌, ap, subst, sym}
use Rattle.std.proofs.lemmas.Result.{IfOk-at_ok}
use Rattle.ft_session.specs.declared.acts.Act.{Act}
use Rattle.ft_session.specs.Acts.{ActEffect, IsAct, IsWellFormedAct, act_load}
use Rattle.ft_session.specs.Worlds.{MembersStand, SessionState}
use Rattle.ft_session.proofs.ActSteps.{act-loads, event-answers}
use Rattle.ft_session.proofs.Stepping.{stands-some, step-handed, step-taken}
use Rattle.ft_session.proofs.world.take_act.Goals as goal

pub happen-requires-clause-stands : goal.happen-requires-clause-stands
happen-requires-clause-stands g c = stands-some c.args.session.now c.args.load c.requires.stands

pub happen-requires-clause-formed : goal.happen-requires-clause-formed
happen-requires-clause-formed g c = subst IsWellFormedAct (sym c.in_ok-load.ensures.value) c.requires.formed

pub returns-clause-effect : goal.returns-clause-effect
returns-clause-effect g c =
    subst (λ (a : Act). ActEffect g.R.Replica.COMPACTS a c.args.session.now c.happen.new.self c.in_ok-out.out) c.in_ok-load.ensures.value
    c.in_ok-out.ensures.effect

pub returns-in_err-out-clause-answers : goal.returns-in_err-out-clause-answers
returns-in_err-out-clause-answers g c = λ e formed is. step-handed e formed c.args.session.now c.happen.new.self c.args.load c.in_err-out.field-0.0 c.from_residual-in_err-out.result
    c.from_residual-in_err-out.ensures (event-answers c.in_ok-load.act e _ _ _ (subst (λ (a : Act). IsAct a e) (sym c.in_ok-load.ensures.value) is)
    c.in_err-out.ensures.answers)

pub returns-clause-answers : goal.returns-clause-answers
returns-clause-answers g c = λ e formed is. step-taken e formed c.args.session.now c.happen.new.self c.args.load c.in_ok-out.out c.in_ok-load.load c.furthest_counts-counts.result
    (event-answers c.in_ok-load.act e _ _ _ (subst (λ (a : Act). IsAct a e) (sym c.in_ok-load.ensures.value) is) c.in_ok-out.ensures.answers)
    (IfOk-at_ok (λ n. n ≡ c.args.load + (1 + act_load c.args.act)) c.in_ok-load.ensures.made c.load_after-raised.ensures.sum
    ∙ ap (λ n. c.args.load + (1 + n)) (act-loads c.args.act e is))
    (IfOk-at_ok (λ n. n ≤ 2 ^ 52) c.in_ok-load.ensures.made c.load_after-raised.ensures.low)
    (λ w t. c.furthest_counts-counts.ensures w (subst (λ ms. MembersStand w.log ms w.clients) (sym (ap (λ (s : SessionState). s.members) c.session.view_is)) t))
