use Rattle.std.proofs.Common.{◌≡◌, drop}
use Rattle.ft_msg.specs.Acknowledgement.{ack_stages}
use Rattle.ft_plain_document.specs.Renamed.{renaming_of}
use Rattle.ft_plain_document.proofs.documents.PlainDocument.acknowledge.Given as goal

-- the rest of the stages makes of the document and the renaming what all made of those at first
abbrev pub invariant-loop-stage : goal.invariant-loop-stage
invariant-loop-stage l =
    ack_stages l.seq l.conn (renaming_of l.renaming) (drop l.stage-index l.stages) l.self ≡ ack_stages l.seq l.conn (λ x. x) l.stages l.initial.self
