-- The world answers as its session does, and stops at OutOfMemory.
use Rattle.std.proofs.Common.{◌∙◌, ap, sym}
use Rattle.ft_map.specs.MapWorlds.{MapWorldState}
use Rattle.ft_map.proofs.KnownSessions.{reached-next, reached-refused, reached-unrefused}
use Rattle.ft_map.proofs.Stepping.{by-world, false-true, stopped-answers, world-refused, world-taken}
use Rattle.ft_map.proofs.world.MapWorld.step.Goals as goal

pub happen-requires : goal.happen-requires
happen-requires c = reached-unrefused c.self.inside.session c.args.event.now (c.self.invariant c.if-self.false)

pub invariant_of-self : goal.invariant_of-self
invariant_of-self c = λ running. reached-next c.self.inside.session c.happen.new.self c.args.event.now c.in-Ok.ensures.0 (c.self.invariant c.if-self.false) c.in-Ok.ensures.1

pub invariant_of-self-in-Err : goal.invariant_of-self-in-Err
invariant_of-self-in-Err c = reached-refused c.self.inside.session c.happen.new.self c.in-Err.why c.is_want-self-inside.result _ c.is_want-self-inside.ensures (c.self.invariant c.if-self.false) c.in-Err.ensures

pub returns-then-self-clause-answers : goal.returns-then-self-clause-answers
returns-then-self-clause-answers c = stopped-answers c.args.event.now c.args.self.now (ap (λ (w : MapWorldState). w.stopped) (sym c.self.view_is) ∙ c.if-self.true)

pub returns-then-self-clause-reached : goal.returns-then-self-clause-reached
returns-then-self-clause-reached c = λ running. false-true c.self.inside.stopped (ap (λ (w : MapWorldState). w.stopped) c.self.view_is ∙ running) c.if-self.true

pub returns-in-Ok-clause-answers : goal.returns-in-Ok-clause-answers
returns-in-Ok-clause-answers c = by-world c.self.view_is (world-taken c.args.event.now c.self.inside.session c.happen.new.self c.self.inside.stopped c.if-self.false c.in-Ok.out c.in-Ok.ensures)

pub returns-in-Ok-clause-reached : goal.returns-in-Ok-clause-reached
returns-in-Ok-clause-reached c = λ running. reached-next c.self.inside.session c.happen.new.self c.args.event.now c.in-Ok.ensures.0 (c.self.invariant c.if-self.false) c.in-Ok.ensures.1

pub returns-in-Err-clause-answers : goal.returns-in-Err-clause-answers
returns-in-Err-clause-answers c = by-world c.self.view_is
    (world-refused c.args.event.now c.self.inside.session c.happen.new.self c.self.inside.stopped c.if-self.false c.in-Err.why c.is_want-self-inside.result c.is_want-self-inside.ensures c.in-Err.ensures)

pub returns-in-Err-clause-reached : goal.returns-in-Err-clause-reached
returns-in-Err-clause-reached c = reached-refused c.self.inside.session c.happen.new.self c.in-Err.why c.is_want-self-inside.result _ c.is_want-self-inside.ensures (c.self.invariant c.if-self.false) c.in-Err.ensures
