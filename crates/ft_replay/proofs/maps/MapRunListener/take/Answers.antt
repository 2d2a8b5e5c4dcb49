use Rattle.ft_replay.proofs.maps.MapRunListener.take.Goals as goal

pub returns-clause-step : goal.returns-clause-step
returns-clause-step c = λ w h. c.take_read-told.ensures w c.args.line.now h c.read_map_event-read.ensures
