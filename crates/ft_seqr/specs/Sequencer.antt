-- The sequencer: it numbers messages 1, 2, 3 and so on, and tells with each the minimum below which no joined
-- connection will refer any more.
use Rattle.std.specs.Prelude.{ℕ, ◌+◌, Bool, cond, not, nat_eq, nat_lt, List, [], ◌∷◌, ◌++◌, Option, Some, None, Result, Ok, Err, map, filter, find, fold, min, pos, negsuc}
use Rattle.ft_msg.specs.declared.messages.Draft.{Draft}
use Rattle.ft_msg.specs.declared.messages.Entry.{Entry}
use Rattle.ft_seqr.specs.declared.nacks.Nack.{Nack}
use Rattle.ft_seqr.specs.declared.nacks.Nack.TheVariants.{NotJoined, ClientSeq, RefBelow, RefBack, RefAhead}
use Rattle.ft_msg.specs.declared.messages.MsgKind.{MsgKind}
use Rattle.ft_msg.specs.declared.messages.MsgKind.TheVariants as kind
use Rattle.ft_msg.specs.declared.messages.Body.{Body}
use Rattle.ft_msg.specs.declared.messages.Body.TheVariants.{Nothing}
use Rattle.ft_props.specs.Properties.{Characters}

-- a joined connection: its number, its name, its last reference number, and the client sequence number of its last
-- message
pub record JoinedConnection : Type 0 where
  pub conn : ℕ
  pub name : Characters
  pub ref_seq : ℕ
  pub client_seq : ℕ

-- a sequencer: the number of the last message, its minimum, and the joined connections
pub record NaiveSequencer : Type 0 where
  pub number : ℕ
  pub minimum : ℕ
  pub joined : List JoinedConnection

-- the sequencer before the first message
abbrev pub new_sequencer : NaiveSequencer
new_sequencer = record { number = 0; minimum = 0; joined = [] }

-- the least last reference number of the joined connections, or the message's own number where none is joined
abbrev pub least_ref : ℕ → List JoinedConnection → ℕ
least_ref s [] = s
least_ref s (j ∷ joined) = fold (λ n i. min n i.ref_seq) j.ref_seq joined

-- the sequencer after a message, with these connections joined
abbrev pub next : List JoinedConnection → NaiveSequencer → NaiveSequencer
next joined q = record { number = q.number + 1; minimum = least_ref (q.number + 1) joined; joined = joined }

-- the message that tells of a connection that comes or goes
abbrev pub notice : NaiveSequencer → ℕ → Characters → MsgKind → Entry
notice q conn name word = record {
  msg = record { client_id = Some name; seq = q.number; min = q.minimum; client_seq = negsuc 0; ref_seq = negsuc 0; kind = word; body = Nothing };
  origin = conn;
}

-- the sequencer after a connection joined, and its message
abbrev pub join : NaiveSequencer → ℕ → Characters → NaiveSequencer × Entry
join q conn name =
    let p = next (q.joined ++ (record { conn = conn; name = name; ref_seq = q.minimum; client_seq = 0 } ∷ [])) q in
    (p, notice p conn name kind.Join)

-- whether it is that connection
abbrev pub is_joined : ℕ → JoinedConnection → Bool
is_joined conn j = nat_eq conn j.conn

-- the sequencer after a connection left, and its message, if it was joined
abbrev pub leave : NaiveSequencer → ℕ → Option (NaiveSequencer × Entry)
leave q conn = elim (find (is_joined conn) q.joined) [
  | None ↦ None
  | Some j ↦ let p = next (filter (λ i. not (is_joined conn i)) q.joined) q in Some (p, notice p conn j.name kind.Leave)
]

-- the kind of a draft's message: a draft without operation is a noop
abbrev pub draft_kind : Body → MsgKind
draft_kind Nothing = kind.Noop
draft_kind _ = kind.Op

-- the first of four reasons to refuse the draft of a joined connection
abbrev pub nack_of : NaiveSequencer → JoinedConnection → Draft → Option Nack
nack_of q j d =
    cond (not (nat_eq d.client_seq (j.client_seq + 1))) (Some (ClientSeq (j.client_seq + 1) d.client_seq))
    (cond (nat_lt d.ref_seq q.minimum) (Some (RefBelow q.minimum d.ref_seq))
    (cond (nat_lt d.ref_seq j.ref_seq) (Some (RefBack j.ref_seq d.ref_seq))
    (cond (nat_lt q.number d.ref_seq) (Some (RefAhead q.number d.ref_seq)) None)))

-- a joined connection after its draft
abbrev pub submitted : Draft → JoinedConnection → JoinedConnection
submitted d j = record j { ref_seq = d.ref_seq; client_seq = d.client_seq }

-- the sequencer after a draft of a joined connection, and its message
abbrev pub sequence : NaiveSequencer → JoinedConnection → Draft → NaiveSequencer × Entry
sequence q j d =
    let p = next (map (λ i. cond (is_joined j.conn i) (submitted d i) i) q.joined) q in (
      p,
      record {
        msg = record { client_id = Some j.name; seq = p.number; min = p.minimum; client_seq = pos d.client_seq; ref_seq = pos d.ref_seq; kind = draft_kind d.body; body = d.body };
        origin = j.conn;
      },
    )

-- the sequencer after a draft, and its message, or the first of five reasons against it
abbrev pub submit : NaiveSequencer → ℕ → Draft → Result (NaiveSequencer × Entry) Nack
submit q conn d = elim (find (is_joined conn) q.joined) [
  | None ↦ Err NotJoined
  | Some j ↦ elim (nack_of q j d) [ Some nack ↦ Err nack | None ↦ Ok (sequence q j d) ]
]
