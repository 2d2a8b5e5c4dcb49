-- Why an observer refuses a message.
use Rattle.std.specs.Prelude.{Option, Some, None}
use Rattle.ft_msg.specs.declared.faults.ProcessFault.{ProcessFault}
use Rattle.ft_msg.specs.declared.faults.ProcessFault.TheVariants as processing
use Rattle.ft_seqr.specs.declared.refusals.Refusal.{Refusal}
use Rattle.ft_seqr.specs.declared.refusals.Refusal.TheVariants.{OutOfOrder, BadNumbers}

-- the refusal of a message; a replica that only observes has no other reason, since it sends nothing
abbrev pub refusal_of_fault : ProcessFault → Option Refusal
refusal_of_fault (processing.OutOfOrder expected got) = Some (OutOfOrder expected got)
refusal_of_fault (processing.BadNumbers field kept got) = Some (BadNumbers field kept got)
refusal_of_fault _ = None
