-- Each of the things that happen to a session is its step.
use Rattle.std.proofs.Common.{subst, sym}
use Rattle.std.specs.Prelude.{IfOk}
use Rattle.ft_session.specs.declared.acts.SessionAct.{SessionAct}
use Rattle.ft_session.specs.Acts.{SessionActEffect}
use Rattle.ft_session.proofs.ActSteps.{as-session}
use Rattle.ft_session.proofs.session.Session.happen_here.Goals as goal

pub returns-in-Start-clause-answers : goal.returns-in-Start-clause-answers
returns-in-Start-clause-answers g c = as-session c.in-Start.is c.begin.ensures.answers

pub returns-in-Start-clause-effect : goal.returns-in-Start-clause-effect
returns-in-Start-clause-effect g c =
    subst (λ (a : SessionAct). IfOk c.begin.result (λ out. SessionActEffect g.R.Replica.COMPACTS a c.args.self.now c.begin.new.self out)) (sym c.in-Start.is) c.begin.ensures.effect

pub returns-in-History-clause-answers : goal.returns-in-History-clause-answers
returns-in-History-clause-answers g c = as-session c.in-History.is c.history.ensures

pub returns-in-Guest-clause-answers : goal.returns-in-Guest-clause-answers
returns-in-Guest-clause-answers g c = as-session c.in-Guest.is c.enter.ensures

pub returns-in-Submit-clause-answers : goal.returns-in-Submit-clause-answers
returns-in-Submit-clause-answers g c = as-session c.in-Submit.is c.submit.ensures

pub returns-in-Part-clause-answers : goal.returns-in-Part-clause-answers
returns-in-Part-clause-answers g c = as-session c.in-Part.is c.part.ensures
