-- The world answers as its session does, and stops at OutOfMemory.
use Rattle.std.proofs.Common.{◌∙◌, ap, subst, sym}
use Rattle.ft_session.specs.Effects.{SessionEffect}
use Rattle.ft_session.specs.Worlds.{WorldState}
use Rattle.ft_session.proofs.Stepping.{at-load, by-world, stopped-answers, world-refused, world-taken}
use Rattle.ft_session.proofs.world.World.step.Goals as goal

pub returns-then-self-clause-answers : goal.returns-then-self-clause-answers
returns-then-self-clause-answers g c = stopped-answers c.args.event.now c.args.self.now (ap (λ (w : WorldState). w.stopped) (sym c.self.view_is) ∙ c.if-self.true)

pub take-requires-clause-stands : goal.take-requires-clause-stands
take-requires-clause-stands g c = at-load c.self.inside.session c.self.inside.load c.self.inside.counts c.self.inside.stopped c.if-self.false c.self.invariant

pub returns-in-Ok-clause-answers : goal.returns-in-Ok-clause-answers
returns-in-Ok-clause-answers g c = rw c.into_out.ensures (by-world c.self.view_is
    (world-taken c.self.inside.session c.self.inside.load c.self.inside.counts c.self.inside.stopped c.if-self.false c.args.event.now c.take.new.session c.in-Ok.taken c.in-Ok.ensures.answers))

pub returns-in-Ok-clause-effect : goal.returns-in-Ok-clause-effect
returns-in-Ok-clause-effect g c = rw c.into_out.ensures
    (subst (λ (w : WorldState). SessionEffect g.R.Replica.COMPACTS c.args.event.now w.session c.take.new.session c.in-Ok.taken.out) c.self.view_is c.in-Ok.ensures.effect)

pub returns-in-Err-clause-answers : goal.returns-in-Err-clause-answers
returns-in-Err-clause-answers g c = by-world c.self.view_is
    (world-refused c.self.inside.session c.self.inside.load c.self.inside.counts c.self.inside.stopped c.if-self.false c.args.event.now c.take.new.session c.in-Err.why c.is_want-self-inside.result
    c.is_want-self-inside.ensures c.in-Err.ensures.answers)
