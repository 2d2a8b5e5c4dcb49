use Rattle.std.proofs.lemmas.Result.{IfOk-weaker}
use Rattle.ft_replay.proofs.session.SessionRunListener.take.Goals as goal

pub take_read-told-requires : goal.take_read-told-requires
take_read-told-requires g c = IfOk-weaker c.read_event-read.result _ _ (λ e is. c.reads_are_well_formed.ensures.events c.args.line.now e is) c.read_event-read.ensures.ok

pub returns-clause-step : goal.returns-clause-step
returns-clause-step g c = λ w h. c.take_read-told.ensures w c.args.line.now h c.read_event-read.ensures
