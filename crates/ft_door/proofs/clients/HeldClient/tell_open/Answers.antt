use Rattle.std.proofs.Common.{refl}
use Rattle.ft_door.proofs.Calling.{listens-as-before, listens-now}
use Rattle.ft_door.proofs.clients.HeldClient.tell_open.Goals as goal

pub returns-in-Ok : goal.returns-in-Ok
returns-in-Ok g c = listens-now c.args.listens c.args.self.now (record c.args.self.now { client = c.tell_client.new.client }) c.requires refl c.in-Ok.ensures.ok

pub returns-in-Err : goal.returns-in-Err
returns-in-Err g c = listens-as-before c.args.listens c.args.self.now (record c.args.self.now { client = c.tell_client.new.client }) c.requires refl c.in-Err.ensures.err
