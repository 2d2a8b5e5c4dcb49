-- The JSON value that a message or a draft is written as: just the fields of its form, with the keys of each object in rising
-- order.
use Rattle.std.specs.Prelude.{Option, Some, None, codes}
use Rattle.serde_json.specs.Data.{Data, null, string, object, no_members, member}
use Rattle.ft_props.specs.Properties.{Characters}
use Rattle.ft_op.specs.declared.operations.ChannelOp.{ChannelOp}
use Rattle.ft_op.specs.declared.operations.ChannelOp.TheVariants.{Text, Grid}
use Rattle.ft_op.specs.Written.{written, written_count, written_number, written_text}
use Rattle.ft_msg.specs.declared.messages.Body.{Body}
use Rattle.ft_msg.specs.declared.messages.Body.TheVariants.{Nothing, Op, Elsewhere}
use Rattle.ft_msg.specs.declared.messages.Draft.{Draft}
use Rattle.ft_msg.specs.declared.messages.Message.{Message}
use Rattle.ft_msg.specs.declared.messages.MsgKind.{MsgKind}
use Rattle.ft_msg.specs.declared.messages.MsgKind.TheVariants as kind

-- contents for an address
abbrev pub written_contents : Data → Data → Data
written_contents address contents = object (member (codes "address") address (member (codes "contents") contents no_members))

-- the address of an operation
abbrev pub written_address : ChannelOp → Data
written_address (Text op) = string (codes "text")
written_address (Grid op) = string (codes "grid")

-- the contents are null where there is no body, and what is for another address has null as its own contents
abbrev pub written_body : Body → Data
written_body Nothing = null
written_body (Op op) = written_contents (written_address op) (written op)
written_body (Elsewhere address) = written_contents (written_text address) null

abbrev pub written_kind : MsgKind → Data
written_kind kind.Op = string (codes "op")
written_kind kind.Join = string (codes "join")
written_kind kind.Leave = string (codes "leave")
written_kind kind.Noop = string (codes "noop")
written_kind (kind.Other word) = written_text word

-- null where nobody sent the message
abbrev pub written_sender : Option Characters → Data
written_sender None = null
written_sender (Some name) = written_text name

abbrev pub written_message : Message → Data
written_message m =
    object
    (member (codes "clientId") (written_sender m.client_id)
    (member (codes "clientSequenceNumber") (written_number m.client_seq)
    (member (codes "contents") (written_body m.body)
    (member (codes "minimumSequenceNumber") (written_count m.min)
    (member (codes "referenceSequenceNumber") (written_number m.ref_seq)
    (member (codes "sequenceNumber") (written_count m.seq)
    (member (codes "type") (written_kind m.kind) no_members)))))))

-- the type of a draft with this body
abbrev pub written_draft_kind : Body → Data
written_draft_kind Nothing = string (codes "noop")
written_draft_kind _ = string (codes "op")

abbrev pub written_draft : Draft → Data
written_draft d =
    object
    (member (codes "clientSequenceNumber") (written_count d.client_seq)
    (member (codes "contents") (written_body d.body)
    (member (codes "referenceSequenceNumber") (written_count d.ref_seq)
    (member (codes "type") (written_draft_kind d.body) no_members))))
