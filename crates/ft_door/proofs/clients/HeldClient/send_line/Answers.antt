use Rattle.std.proofs.Common.{◌≡◌, ◌∙◌, ◌++◌, ap, refl, rules}
use Rattle.ft_door.specs.Clients.{unread_by}
use Rattle.ft_door.proofs.Calling.{draft-kept, draft-sent}
use Rattle.ft_door.proofs.clients.HeldClient.send_line.Goals as goal

pub returns-in-Ok : goal.returns-in-Ok
returns-in-Ok g c = λ oldest.
    let run = c.args.self.now in
    let is : c.as_bytes.result.now ≡ c.args.line.now = search rules in
    draft-sent run (record run { client = c.count_sent.new.client; waiting = c.push.new.self }) c.args.line.now c.requires (c.in-Ok.ensures.ok ∙ ap (λ bytes. unread_by run ++ bytes) is) oldest
    c.count_sent.ensures

pub returns-in-Err : goal.returns-in-Err
returns-in-Err g c = λ oldest. draft-kept c.args.self.now (record c.args.self.now { waiting = c.push.new.self }) c.requires refl c.in-Err.ensures.err
