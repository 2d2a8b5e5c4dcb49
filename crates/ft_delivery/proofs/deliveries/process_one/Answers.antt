-- The replica's answer to the message, which its client takes.
use Rattle.std.proofs.Common.{◌∙◌, Err, ap}
use Rattle.ft_delivery.proofs.InOrder.{one-processed, one-wanting}
use Rattle.ft_delivery.proofs.deliveries.process_one.Goals as goal

pub process-requires : goal.process-requires
process-requires g c = c.requires.formed.0

pub returns-in-Ok-clause-ok : goal.returns-in-Ok-clause-ok
returns-in-Ok-clause-ok g c = one-processed c.args.entry.now _ _ c.in-Ok.ensures

pub returns-in-Err-clause-memory : goal.returns-in-Err-clause-memory
returns-in-Err-clause-memory g c =
    ap Err (c.of_process.ensures ∙ one-wanting c.args.entry.now _ _ c.requires c.in-Err.fault c.in-Err.ensures c.args.entry.now.msg.seq)
