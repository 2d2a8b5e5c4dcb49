-- Worked examples of what a client and the sequencer refuse, and of what the sequencer writes.
use Rattle.std.specs.Prelude.{◌≡◌, ℕ, List, [], ◌∷◌, Option, Some, None, Result, Ok, Err, pos, negsuc, codes}
use Rattle.ft_msg.specs.declared.messages.Draft.{Draft}
use Rattle.ft_msg.specs.declared.messages.Entry.{Entry}
use Rattle.ft_msg.specs.declared.messages.MsgKind.{MsgKind}
use Rattle.ft_msg.specs.declared.messages.MsgKind.TheVariants as kind
use Rattle.ft_msg.specs.declared.faults.LinkFault.{LinkFault}
use Rattle.ft_msg.specs.declared.faults.LinkFault.TheVariants.{AlreadyConnected, NotConnected}
use Rattle.ft_msg.specs.declared.messages.Body.TheVariants as body
use Rattle.ft_json.specs.declared.fields.Field.TheVariants.{ReferenceSequenceNumber, MinimumSequenceNumber}
use Rattle.ft_msg.specs.declared.faults.ProcessFault.TheVariants.{OutOfOrder, BadNumbers, NotSent}
use Rattle.ft_seqr.specs.declared.nacks.Nack.{Nack}
use Rattle.ft_seqr.specs.declared.nacks.Nack.TheVariants.{NotJoined, ClientSeq, RefBelow, RefBack, RefAhead}
use Rattle.ft_msg.specs.Agreed.{agreed}
use Rattle.ft_op.specs.Document.{empty}
use Rattle.ft_msg.specs.Client.{NaiveClient, client_over, connect, drop_link, noop}
use Rattle.ft_msg.specs.Content.{shown}
use Rattle.ft_msg.specs.Process.{process_fault}
use Rattle.ft_seqr.specs.Sequencer.{NaiveSequencer, new_sequencer, join, leave, submit}
use Rattle.ft_laws_examples.specs.Rows.{ins, message, one, plain}

-- an observer of one message
abbrev pub observer : NaiveClient
observer = client_over (agreed (message 1 1 0 (one (ins 0 (codes "a"))) ∷ []))

-- a message that isn't the next one is refused
abbrev pub WrongOrder : Type 0
WrongOrder = process_fault observer (message 4 1 1 (one (ins 0 (codes "b")))) ≡ Some (OutOfOrder 2 4)

-- a reference number above the client's number is refused
abbrev pub ReferenceAhead : Type 0
ReferenceAhead = process_fault observer (message 2 1 5 (one (ins 0 (codes "b")))) ≡ Some (BadNumbers ReferenceSequenceNumber 1 (pos 5))

-- a message of an own connection that the client never sent is refused
abbrev pub NeverSent : Type 0
NeverSent = process_fault (record observer { conns = 1 ∷ [] }) (message 2 1 1 (one (ins 0 (codes "b")))) ≡ Some NotSent

-- an insertion beyond every text, as a draft
abbrev pub op : ℕ → ℕ → Draft
op n ref_seq = record { client_seq = n; ref_seq = ref_seq; body = body.Op (one (ins 5 (codes "x"))) }

-- a noop, as a draft
abbrev pub noop_draft : ℕ → ℕ → Draft
noop_draft n ref_seq = record { client_seq = n; ref_seq = ref_seq; body = body.Nothing }

-- drafts and leavings in turn
pub data Turn : Type 0 where
  Submit : ℕ → Draft → Turn
  Leave : ℕ → Turn

-- what each turn is answered
abbrev pub nacks_of : NaiveSequencer → List Turn → List (Option Nack)
nacks_of q [] = []
nacks_of q (Submit conn d ∷ turns) = elim (submit q conn d) [ Ok p ↦ None ∷ nacks_of p.0 turns | Err nack ↦ Some nack ∷ nacks_of q turns ]
nacks_of q (Leave conn ∷ turns) = elim (leave q conn) [ Some p ↦ None ∷ nacks_of p.0 turns | None ↦ Some NotJoined ∷ nacks_of q turns ]

-- the five reasons against a draft
abbrev pub Nacks : Type 0
Nacks =
    nacks_of (join (join new_sequencer 1 (codes "A/1")).0 2 (codes "G/1")).0
    (Submit 2 (op 1 2) ∷ Submit 2 (noop_draft 1 2) ∷ Submit 2 (noop_draft 2 9) ∷ Submit 2 (noop_draft 2 1) ∷ Submit 1 (noop_draft 1 3) ∷ Submit 2 (noop_draft 2 1) ∷ Leave 2 ∷ Submit 2 (noop_draft 2 3) ∷ [])
    ≡ None ∷ Some (ClientSeq 2 1) ∷ Some (RefAhead 3 9) ∷ Some (RefBack 2 1) ∷ None ∷ Some (RefBelow 2 1) ∷ None ∷ Some NotJoined ∷ []

-- the first draft of a connection
abbrev pub first_draft : Draft
first_draft = record { client_seq = 1; ref_seq = 1; body = body.Op (one (ins 0 (codes "a"))) }

-- the message of a draft, and that of the leave after it
abbrev pub history : NaiveSequencer → Result (NaiveSequencer × Entry) Nack → List Entry
history q (Ok p) = p.1 ∷ (elim (leave p.0 1) [ Some r ↦ r.1 ∷ [] | None ↦ [] ])
history q (Err nack) = []

-- the message of A/1 that joins or leaves
abbrev pub notice_of : ℕ → ℕ → MsgKind → Entry
notice_of seq min word = record {
  msg = record { client_id = Some (codes "A/1"); seq = seq; min = min; client_seq = negsuc 0; ref_seq = negsuc 0; kind = word; body = body.Nothing };
  origin = 1;
}

-- the message of the first draft
abbrev pub first_numbered : Entry
first_numbered = record {
  msg = record { client_id = Some (codes "A/1"); seq = 2; min = 1; client_seq = pos 1; ref_seq = pos 1; kind = kind.Op; body = body.Op (one (ins 0 (codes "a"))) };
  origin = 1;
}

-- the messages that a join, a draft and a leave make
abbrev pub History : Type 0
History =
    let joined = join new_sequencer 1 (codes "A/1") in
    joined.1 ∷ history joined.0 (submit joined.0 1 first_draft) ≡ notice_of 1 0 kind.Join ∷ first_numbered ∷ notice_of 3 3 kind.Leave ∷ []

-- the text that these messages make
abbrev pub ReadBack : Type 0
ReadBack = shown (agreed (notice_of 1 0 kind.Join ∷ first_numbered ∷ notice_of 3 3 kind.Leave ∷ [])) ≡ plain (codes "a")

-- the numbers after these messages
abbrev pub ReadBackNumbers : Type 0
ReadBackNumbers =
    let doc = agreed (notice_of 1 0 kind.Join ∷ first_numbered ∷ notice_of 3 3 kind.Leave ∷ []) in
    (doc.number ≡ 3) × (doc.minimum ≡ 3)

-- two joins and four insertions at the head
abbrev pub ahead_of_four : List Entry
ahead_of_four =
    notice_of 1 0 kind.Join ∷ notice_of 2 0 kind.Join ∷ message 3 1 2 (one (ins 0 (codes "a"))) ∷ message 4 1 2 (one (ins 0 (codes "b")))
    ∷ message 5 1 2 (one (ins 0 (codes "c"))) ∷ message 6 1 2 (one (ins 0 (codes "d"))) ∷ []

-- a repeated message and one from later are refused
abbrev pub Repeated : Type 0
Repeated =
    let x = client_over (agreed ahead_of_four) in
    (process_fault x (message 4 1 2 (one (ins 0 (codes "b")))) ≡ Some (OutOfOrder 7 4))
    × (process_fault x (message 9 1 2 (one (ins 0 (codes "b")))) ≡ Some (OutOfOrder 7 9))
    × (shown x.doc ≡ plain (codes "dcba"))

-- a minimum below the last one is refused
abbrev pub MinimumBack : Type 0
MinimumBack = process_fault (client_over (agreed (notice_of 1 1 kind.Join ∷ []))) (notice_of 2 0 kind.Leave) ≡ Some (BadNumbers MinimumSequenceNumber 1 (pos 0))

-- connecting once more
abbrev pub connected_again : Result NaiveClient LinkFault → Result NaiveClient LinkFault
connected_again (Ok x) = connect x 2
connected_again (Err fault) = Err fault

-- a client that isn't offline can't connect; one that is offline can't drop, and sends no noop
abbrev pub Links : Type 0
Links =
    (connected_again (connect (client_over empty) 1) ≡ Err AlreadyConnected) × (drop_link (client_over empty) ≡ Err NotConnected) × (noop (client_over empty) ≡ Err NotConnected)
