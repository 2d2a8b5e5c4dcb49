use Rattle.std.proofs.Common.{◌∙◌, ap, option_map}
use Rattle.ft_seqr.specs.Refusals.{refusal_of_process}
use Rattle.ft_door.proofs.Editing.{editor-as, order-same, state_of}
use Rattle.ft_door.proofs.parts.Parts.order_refusal.Goals as goal

pub returns : goal.returns
returns g c = λ x h.
    let i = c.self.inside in
    let old = state_of (g.R.Replica.state i.replica) i.told i.names i.name i.waits i.load in
    c.fault_refusal.ensures
    ∙ ap (option_map (refusal_of_process c.args.msg.now.seq))
    (c.in_ok-fault.ensures ∙ order-same old x c.args.msg.now c.numbers-numbers.result c.numbers-numbers.ensures.numbers (editor-as old c.args.self.now x c.self.view_is h))
