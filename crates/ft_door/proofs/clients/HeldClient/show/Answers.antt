use Rattle.std.proofs.Common.{refl}
use Rattle.ft_replay.specs.LineForm.{bytes_of}
use Rattle.ft_door.specs.Editors.{shown_lines}
use Rattle.ft_door.proofs.Calling.{view-kept, view-shown}
use Rattle.ft_door.proofs.clients.HeldClient.show.Goals as goal

pub returns-in-Ok : goal.returns-in-Ok
returns-in-Ok g c = λ shown.
    view-shown c.args.self.now (record c.args.self.now { waiting = c.push_made.new.self }) c.requires refl (λ x h. c.in-Ok.ensures.ok (bytes_of (shown_lines x)) (shown x h))

pub returns-in-Err : goal.returns-in-Err
returns-in-Err g c = λ shown. view-kept c.args.self.now (record c.args.self.now { waiting = c.push_made.new.self }) c.requires refl c.in-Err.ensures.err
