use Rattle.std.proofs.Common.{sym}
use Rattle.ft_client.proofs.AckedWhole.{last-none, last-of}
use Rattle.ft_client.proofs.own.acks.last_number.Goals as goal

pub returns-in-Some : goal.returns-in-Some
returns-in-Some c = sym (last-of c.args.stages.now c.in-Some.stage.now (sym c.in-Some.ensures.value))

pub returns-in-None : goal.returns-in-None
returns-in-None c = last-none c.args.stages.now (sym c.in-None.ensures.value)
