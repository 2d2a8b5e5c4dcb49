-- A client for which the laws of pending edits speak: it saw "b" of another, put "a" behind it, removed "b", and put "x"
-- behind "a", all in one edit that isn't sequenced yet.
use Rattle.std.specs.Prelude.{[], ◌∷◌, Some, Ok, Err, pos, codes}
use Rattle.ft_op.specs.declared.operations.BaseOp.TheVariants.{Insert, Remove}
use Rattle.ft_op.specs.declared.operations.ChannelOp.TheVariants.{Text}
use Rattle.ft_op.specs.declared.operations.Seg.TheVariants.{Chars}
use Rattle.ft_op.specs.declared.operations.TextOp.TheVariants.{Group, One}
use Rattle.ft_msg.specs.declared.messages.Body.TheVariants as body
use Rattle.ft_msg.specs.declared.messages.Entry.{Entry}
use Rattle.ft_msg.specs.declared.messages.MsgKind.TheVariants as kind
use Rattle.ft_msg.specs.Agreed.{agreed}
use Rattle.ft_msg.specs.Client.{NaiveClient, client_over, local_edit}
use Rattle.ft_laws_agreement.specs.Sequencing.{IsReady}

-- the message that puts in "b"
abbrev pub first_message : Entry
first_message = record {
  msg = record { client_id = Some (codes "X"); seq = 1; min = 0; client_seq = pos 1; ref_seq = pos 0; kind = kind.Op; body = body.Op (Text (One (Insert 0 (Chars (codes "b")) []))) };
  origin = 1;
}

-- the client before its edit
abbrev pub client_before : NaiveClient
client_before = client_over (agreed (first_message ∷ []))

-- the client after it
abbrev pub client_after : NaiveClient
client_after = elim (local_edit client_before (Text (Group (Insert 1 (Chars (codes "a")) [] ∷ Remove 0 1 ∷ Insert 1 (Chars (codes "x")) [] ∷ [])))) [
  | Ok x ↦ x
  | Err fault ↦ client_before
]

-- it is ready
abbrev pub ExampleIsReady : Type 0
ExampleIsReady = IsReady client_after
