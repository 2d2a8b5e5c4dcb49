-- What a client makes of the next sequenced message: why it refuses it, and else how it takes a message of another
-- client, its own message, its own join, or the numbers alone.
use Rattle.std.specs.Prelude.{ℕ, ◌+◌, Bool, true, false, cond, not, ◌&&◌, nat_eq, nat_lt, List, [], ◌∷◌, Option, Some, None, Result, Ok, Err, pos, int_lt}
use Rattle.std.specs.List.{list_any}
use Rattle.ft_msg.specs.declared.messages.Entry.{Entry}
use Rattle.ft_msg.specs.declared.views.Link.{Link}
use Rattle.ft_msg.specs.declared.views.Link.TheVariants.{Joining}
use Rattle.ft_msg.specs.declared.messages.MsgKind.{MsgKind}
use Rattle.ft_msg.specs.declared.messages.MsgKind.TheVariants.{Join}
use Rattle.ft_op.specs.declared.operations.ChannelOp.{ChannelOp}
use Rattle.ft_msg.specs.declared.messages.Body.{Body}
use Rattle.ft_msg.specs.declared.messages.Body.TheVariants.{Op}
use Rattle.ft_json.specs.declared.fields.Field.TheVariants.{ReferenceSequenceNumber, MinimumSequenceNumber}
use Rattle.ft_msg.specs.declared.faults.ProcessFault.{ProcessFault}
use Rattle.ft_msg.specs.declared.faults.ProcessFault.TheVariants.{OutOfOrder, BadNumbers, NotSent}
use Rattle.ft_op.specs.Same.{same_int, same_op}
pub use Rattle.ft_msg.specs.MessageGrammar.{is_op_kind}
use Rattle.ft_msg.specs.Agreed.{take_entry, with_numbers}
use Rattle.ft_msg.specs.Client.{NaiveClient, PendingEdit}
use Rattle.ft_msg.specs.Acknowledgement.{after_own_message}
use Rattle.ft_msg.specs.Reconnection.{rebuilt}

-- whether the body is an operation of the text or the grid
abbrev pub is_op : Body → Bool
is_op (Op op) = true
is_op _ = false

-- whether the entry comes from one of the client's connections
abbrev pub is_own : NaiveClient → Entry → Bool
is_own x entry = list_any (nat_eq entry.origin) x.conns

-- whether the entry is the join of the connection under which the client is joining
abbrev pub is_own_join : Link → MsgKind → ℕ → Bool
is_own_join (Joining conn) Join origin = nat_eq conn origin
is_own_join _ _ origin = false

-- the client after a message of another client: the effect of its sub-operations, past the client's pending elements
abbrev pub after_foreign_message : NaiveClient → Entry → NaiveClient
after_foreign_message x entry = record x { doc = take_entry x.doc entry }

-- the client after its own join: it takes the numbers, and then rebuilds its lists and sends its pending edits again
abbrev pub come_online : NaiveClient → Entry → NaiveClient
come_online x entry = rebuilt entry.origin (record x { doc = with_numbers entry x.doc })

-- the client after an entry that it doesn't refuse
abbrev pub after_entry : NaiveClient → Entry → NaiveClient
after_entry x entry =
    cond (is_own_join x.link entry.msg.kind entry.origin) (come_online x entry)
    (cond (is_op entry.msg.body && is_own x entry) (after_own_message x entry) (after_foreign_message x entry))

-- whether the body is that operation
abbrev pub is_body : ChannelOp → Body → Bool
is_body op (Op other) = same_op op other
is_body op _ = false

-- whether the message is the pending edit as it was sent: connection, client number, reference number and operation
abbrev pub is_sent_as : Entry → PendingEdit → Bool
is_sent_as entry edit = elim edit.sent [
  | None ↦ false
  | Some sent ↦ nat_eq sent.conn entry.origin && same_int (pos sent.client_seq) entry.msg.client_seq && same_int (pos edit.ref_seq) entry.msg.ref_seq && is_body sent.op entry.msg.body
]

-- whether the message is the oldest pending edit as it was sent
abbrev pub is_oldest : Entry → List PendingEdit → Bool
is_oldest entry [] = false
is_oldest entry (edit ∷ edits) = is_sent_as entry edit

-- the first of the four conditions on the numbers of an entry that it breaks
abbrev pub numbers_fault : NaiveClient → Entry → Option ProcessFault
numbers_fault x entry =
    let m = entry.msg in
    cond (is_op_kind m.kind && int_lt m.ref_seq (pos x.doc.minimum)) (Some (BadNumbers ReferenceSequenceNumber x.doc.minimum m.ref_seq))
    (cond (is_op_kind m.kind && int_lt (pos x.doc.number) m.ref_seq) (Some (BadNumbers ReferenceSequenceNumber x.doc.number m.ref_seq))
    (cond (nat_lt m.min x.doc.minimum) (Some (BadNumbers MinimumSequenceNumber x.doc.minimum (pos m.min)))
    (cond (nat_lt m.seq m.min) (Some (BadNumbers MinimumSequenceNumber m.seq (pos m.min))) None)))

-- the first reason to refuse an entry: its number, its other numbers, or that this client never sent it
abbrev pub process_fault : NaiveClient → Entry → Option ProcessFault
process_fault x entry =
    cond (not (nat_eq entry.msg.seq (x.doc.number + 1))) (Some (OutOfOrder (x.doc.number + 1) entry.msg.seq))
    (elim (numbers_fault x entry) [
      | Some fault ↦ Some fault
      | None ↦ cond (is_op_kind entry.msg.kind && is_own x entry && not (is_oldest entry x.pending)) (Some NotSent) None
    ])

-- the client after an entry, or why the entry is refused
abbrev pub process : NaiveClient → Entry → Result NaiveClient ProcessFault
process x entry = elim (process_fault x entry) [ Some fault ↦ Err fault | None ↦ Ok (after_entry x entry) ]
