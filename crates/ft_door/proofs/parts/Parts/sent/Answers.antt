use Rattle.ft_door.proofs.Editing.{editor-as, sent-stands, state_of}
use Rattle.ft_door.proofs.parts.Parts.sent.Goals as goal

pub returns : goal.returns
returns g c = λ x h.
    let i = c.self.inside in
    let old = state_of (g.R.Replica.state i.replica) i.told i.names i.name i.waits i.load in
    sent-stands old (g.R.Replica.state c.take_outgoing.new.self) c.take_outgoing.ensures.rest x (editor-as old c.args.self.now x c.self.view_is h)
