use Rattle.ft_door.specs.Clients.{refusal_bytes}
use Rattle.ft_door.proofs.Calling.{call-refused, call-untold}
use Rattle.ft_door.proofs.clients.HeldClient.refuse.Goals as goal

pub returns-in-Ok : goal.returns-in-Ok
returns-in-Ok g c = λ s t step exceeds is tells.
    call-refused c.args.self.now s t (record c.args.self.now { waiting = c.push_made.new.self }) step exceeds c.args.why is
    (c.in-Ok.ensures.ok (refusal_bytes c.args.why) c.refusal_line-line.ensures) tells

pub returns : goal.returns
returns g c = λ s t step exceeds is tells.
    call-untold c.args.self.now s t (record c.args.self.now { waiting = c.push_made.new.self }) step exceeds c.args.why is c.in-Err.ensures.err tells
