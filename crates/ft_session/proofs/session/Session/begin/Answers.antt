-- A client starts, empty or over the document of another one.
use Rattle.std.proofs.Common.{Option, subst, sym}
use Rattle.std.specs.Prelude.{IfOk}
use Rattle.ft_props.specs.Properties.{Characters}
use Rattle.ft_seqr.specs.World.{happen}
use Rattle.ft_seqr.specs.declared.events.Event.TheVariants as event
use Rattle.ft_session.specs.Effects.{SessionEffect}
use Rattle.ft_session.specs.Worlds.{AnswersHappening}
use Rattle.ft_session.proofs.session.Session.begin.Goals as goal

pub returns-in-Some-clause-answers : goal.returns-in-Some-clause-answers
returns-in-Some-clause-answers g c =
    subst (λ (o : Option Characters). AnswersHappening (λ w. happen w (event.Start c.args.name.now o)) c.args.self.now c.start_from.new.self c.start_from.result) (sym c.in-Some.is) c.start_from.ensures.answers

pub returns-in-Some-clause-effect : goal.returns-in-Some-clause-effect
returns-in-Some-clause-effect g c =
    subst (λ (o : Option Characters). IfOk c.start_from.result (λ out. SessionEffect g.R.Replica.COMPACTS (event.Start c.args.name.now o) c.args.self.now c.start_from.new.self out)) (sym c.in-Some.is)
    c.start_from.ensures.trimmed

pub returns-in-None-clause-answers : goal.returns-in-None-clause-answers
returns-in-None-clause-answers g c =
    subst (λ (o : Option Characters). AnswersHappening (λ w. happen w (event.Start c.args.name.now o)) c.args.self.now c.start.new.self
    c.start.result) (sym c.in-None.is) c.start.ensures
