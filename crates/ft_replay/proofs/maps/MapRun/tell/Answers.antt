use Rattle.ft_replay.proofs.maps.MapRun.tell.Goals as goal

pub returns : goal.returns
returns c = λ w h. c.told_answer.ensures c.args.event.now c.args.self.now.world c.step-answered.new.self w h c.step-answered.ensures.answers
