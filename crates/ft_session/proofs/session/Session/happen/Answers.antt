-- To a client, or to the session as a whole.
use Rattle.std.proofs.Common.{subst, sym}
use Rattle.std.specs.Prelude.{IfOk}
use Rattle.ft_session.specs.declared.acts.Act.{Act}
use Rattle.ft_session.specs.Acts.{ActEffect, IsWellFormedAct}
use Rattle.ft_session.proofs.ActSteps.{as-act}
use Rattle.ft_session.proofs.session.Session.happen.Goals as goal

pub happen_to-requires-clause-formed : goal.happen_to-requires-clause-formed
happen_to-requires-clause-formed g c = subst IsWellFormedAct c.in-OfClient.is c.requires.formed

pub returns-in-OfClient-clause-answers : goal.returns-in-OfClient-clause-answers
returns-in-OfClient-clause-answers g c = as-act c.in-OfClient.is c.happen_to.ensures.answers

pub returns-in-OfSession-clause-answers : goal.returns-in-OfSession-clause-answers
returns-in-OfSession-clause-answers g c = as-act c.in-OfSession.is c.happen_here.ensures.answers

pub returns-in-OfClient-clause-effect : goal.returns-in-OfClient-clause-effect
returns-in-OfClient-clause-effect g c =
    subst (λ (a : Act). IfOk c.happen_to.result (λ out. ActEffect g.R.Replica.COMPACTS a c.args.self.now c.happen_to.new.self out)) (sym c.in-OfClient.is) c.happen_to.ensures.effect

pub returns-in-OfSession-clause-effect : goal.returns-in-OfSession-clause-effect
returns-in-OfSession-clause-effect g c =
    subst (λ (a : Act). IfOk c.happen_here.result (λ out. ActEffect g.R.Replica.COMPACTS a c.args.self.now c.happen_here.new.self out)) (sym c.in-OfSession.is) c.happen_here.ensures.effect
