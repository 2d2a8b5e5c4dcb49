use Rattle.std.proofs.lemmas.Result.{IfOk-weaker}
use Rattle.ft_door.proofs.parts.Parts.edit.Goals as goal

pub take_read-told-requires : goal.take_read-told-requires
take_read-told-requires g c = IfOk-weaker c.read_event-read.result _ _ (λ e is. c.reads_are_well_formed.ensures.events c.args.line.now e is) c.read_event-read.ensures.ok

pub returns : goal.returns
returns g c = c.take_read-told.ensures c.args.line.now c.read_event-read.ensures
