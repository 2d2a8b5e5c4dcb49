-- What the event does is taken.
use Rattle.ft_session.proofs.ActSteps.{act-formed}
use Rattle.ft_session.proofs.Stepping.{taken-effect}
use Rattle.ft_session.proofs.world.take.Goals as goal

pub take_act-requires-clause-formed : goal.take_act-requires-clause-formed
take_act-requires-clause-formed g c = act-formed c.in_ok-act.act c.args.event.now c.in_ok-act.ensures c.requires.formed

pub returns-clause-answers : goal.returns-clause-answers
returns-clause-answers g c = c.take_act.ensures.answers c.args.event.now c.requires.formed c.in_ok-act.ensures

pub returns-clause-effect : goal.returns-clause-effect
returns-clause-effect g c = taken-effect g.R.Replica.COMPACTS c.args.event.now c.args.session.now c.take_act.new.session c.in_ok-act.act c.in_ok-act.ensures c.take_act.result c.take_act.ensures.effect
