-- Why a call of the sequencer answers a fault.
use Rattle.std.specs.Prelude.{◌≡◌, ⊤, ℕ, ◌+◌, ◌<◌, ◌^◌, cond, Some, None, Err, find, map, pos}
use Rattle.ft_props.specs.Properties.{Characters}
use Rattle.ft_msg.specs.declared.messages.Draft.{Draft}
use Rattle.ft_msg.specs.declared.messages.Entry.{Entry}
use Rattle.ft_seqr.specs.declared.nacks.LeaveFault.{LeaveFault}
use Rattle.ft_seqr.specs.declared.nacks.LeaveFault.TheVariants as leaving
use Rattle.ft_seqr.specs.declared.nacks.SubmitFault.{SubmitFault}
use Rattle.ft_seqr.specs.declared.nacks.SubmitFault.TheVariants as submitting
use Rattle.ft_seqr.specs.declared.sequencer.Sender.{Sender}
use Rattle.ft_seqr.specs.Sequencer.{JoinedConnection, NaiveSequencer, draft_kind, is_joined, leave, nack_of, next, submit, submitted}

-- the connection isn't joined, where that is the fault
abbrev pub IsLeaveFault : NaiveSequencer → ℕ → LeaveFault → Type 0
IsLeaveFault q conn leaving.NotJoined = leave q conn ≡ None
IsLeaveFault q conn leaving.OutOfMemory = ⊤

-- the draft is refused for this reason, where that is the fault
abbrev pub IsSubmitFault : NaiveSequencer → ℕ → Draft → SubmitFault → Type 0
IsSubmitFault q conn draft (submitting.Nack nack) = submit q conn draft ≡ Err nack
IsSubmitFault q conn draft submitting.OutOfMemory = ⊤

-- the connection of this number and name as it joins, while this is the minimum
abbrev pub newcomer : ℕ → Characters → ℕ → JoinedConnection
newcomer conn name minimum = record { conn = conn; name = name; ref_seq = minimum; client_seq = 0 }

-- the sender of a connection's message under this number
abbrev pub sender_of : JoinedConnection → ℕ → Sender
sender_of j number = record { conn = j.conn; name = j.name; number = number }

-- nothing is against the draft, and this is the sender of its message
pub record Sends (q : NaiveSequencer) (conn : ℕ) (d : Draft) (s : Sender) : Type 0 where
  pub joined : JoinedConnection
  pub found : find (is_joined conn) q.joined ≡ Some joined
  pub free : nack_of q joined d ≡ None
  pub is : s ≡ sender_of joined (q.number + 1)

-- the numbers of a draft can be signed ones
pub record AreSmall (d : Draft) : Type 0 where
  pub client_seq : d.client_seq < 2 ^ 63
  pub ref_seq : d.ref_seq < 2 ^ 63

-- the sequencer after a draft of the connection
abbrev pub sequencer_after : NaiveSequencer → ℕ → Draft → NaiveSequencer
sequencer_after q conn d = next (map (λ i. cond (is_joined conn i) (submitted d i) i) q.joined) q

-- the message of the sender's draft, with this minimum
abbrev pub sent_message : Sender → ℕ → Draft → Entry
sent_message s minimum d = record {
  msg = record { client_id = Some s.name; seq = s.number; min = minimum; client_seq = pos d.client_seq; ref_seq = pos d.ref_seq; kind = draft_kind d.body; body = d.body };
  origin = s.conn;
}
