use Rattle.std.proofs.Common.{◌≡◌, ◌∙◌, ◌++◌, ap, refl, rules}
use Rattle.ft_door.specs.Clients.{unread_by}
use Rattle.ft_door.proofs.Calling.{changes-kept, changes-told}
use Rattle.ft_door.proofs.clients.HeldClient.give_lines.Goals as goal

pub returns-in-Ok : goal.returns-in-Ok
returns-in-Ok g c = λ texts.
    let run = c.args.self.now in
    let is : c.as_bytes.result.now ≡ c.args.lines.now = search rules in
    changes-told run (record run { client = c.count_told.new.client; waiting = c.push.new.self }) c.args.lines.now c.requires texts
    (c.in-Ok.ensures.ok ∙ ap (λ bytes. unread_by run ++ bytes) is) c.count_told.ensures.editor c.count_told.ensures.none

pub returns-in-Err : goal.returns-in-Err
returns-in-Err g c = λ texts. changes-kept c.args.self.now (record c.args.self.now { waiting = c.push.new.self }) c.requires refl c.in-Err.ensures.err
