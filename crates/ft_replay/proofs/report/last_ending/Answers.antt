use Rattle.ft_replay.proofs.LastLines.{ending-none, ending-some}
use Rattle.ft_replay.proofs.report.last_ending.Goals as goal

pub returns-in-None : goal.returns-in-None
returns-in-None c = λ doc h. ending-none c.args.refused c.args.counts c.ending_by.result doc c.in-None.is h c.ending_by.ensures

pub returns-in-Some : goal.returns-in-Some
returns-in-Some c = λ doc h. ending-some c.args.refused c.args.counts c.ending_by-in-Some.result doc c.in-Some.counts c.in-Some.is h c.ending_by-in-Some.ensures
