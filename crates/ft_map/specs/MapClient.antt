-- The naive map client: a map of what was sequenced, its pending operations, a queue and a link, and what its own edits, its link and
-- the messages of all make of it.
use Rattle.std.specs.Prelude.{ℕ, ◌+◌, Bool, true, false, if◌then◌else◌, nat_eq, List, [], ◌∷◌, ◌++◌, Option, Some, None, length, codes}
use Rattle.std.specs.List.{list_any}
use Rattle.ft_msg.specs.declared.messages.Body.TheVariants.{Elsewhere}
use Rattle.ft_msg.specs.declared.messages.Entry.{Entry}
use Rattle.ft_msg.specs.declared.views.Link.{Link}
use Rattle.ft_msg.specs.declared.views.Link.TheVariants.{Offline, Joining, Online}
use Rattle.ft_msg.specs.Process.{is_own_join}
use Rattle.ft_map.specs.declared.log.MapDraft.{MapDraft}
use Rattle.ft_map.specs.declared.log.MapEntry.{MapEntry}
use Rattle.ft_shared_map.specs.declared.ops.MapOp.{MapOp}
use Rattle.ft_shared_map.specs.Maps.{FiniteMap, MapState, acknowledged, put, shown_map}

-- a client: its map, its link, all connections that it used, the next client sequence number of its connection, its unsent messages,
-- and the number and the minimum of the last message that it processed
pub record MapClient : Type 0 where
  pub state : MapState
  pub link : Link
  pub conns : List ℕ
  pub next_client_seq : ℕ
  pub queue : List MapDraft
  pub number : ℕ
  pub minimum : ℕ

-- a new client over a map, with these numbers, offline
abbrev pub client_over : FiniteMap → ℕ → ℕ → MapClient
client_over m number minimum = record {
  state = record { acked = m; pending = [] };
  link = Offline;
  conns = [];
  next_client_seq = 1;
  queue = [];
  number = number;
  minimum = minimum;
}

-- what it shows
abbrev pub view_of : MapClient → FiniteMap
view_of x = shown_map x.state

-- ---- its own edits

-- the draft of an operation
abbrev pub draft_of : ℕ → ℕ → MapOp → MapDraft
draft_of n ref_seq op = record { draft = record { client_seq = n; ref_seq = ref_seq; body = Elsewhere (codes "map") }; op = op }

-- the client with the draft of an operation in its queue, if it is online
abbrev pub with_draft : Link → MapOp → MapClient → MapClient
with_draft (Online conn) op x = record x { next_client_seq = x.next_client_seq + 1; queue = x.queue ++ draft_of x.next_client_seq x.number op ∷ [] }
with_draft _ op x = x

-- the client after an edit: it is pending, and queued if the client is online
abbrev pub edited : MapOp → MapClient → MapClient
edited op x = with_draft x.link op (record x { state = record x.state { pending = x.state.pending ++ op ∷ [] } })

-- ---- its link

-- the client joining under a new connection
abbrev pub joining : ℕ → MapClient → MapClient
joining conn x = record x { link = Joining conn; conns = x.conns ++ conn ∷ []; next_client_seq = 1 }

-- the client offline, with its unsent messages gone
abbrev pub dropped : MapClient → MapClient
dropped x = record x { link = Offline; queue = [] }

-- operations as drafts with the numbers from n on
abbrev pub drafts_from : ℕ → ℕ → List MapOp → List MapDraft
drafts_from n ref_seq [] = []
drafts_from n ref_seq (op ∷ ops) = draft_of n ref_seq op ∷ drafts_from (n + 1) ref_seq ops

-- the client online under the connection: all its pending operations are queued again
abbrev pub online : ℕ → MapClient → MapClient
online conn x = record x { link = Online conn; next_client_seq = length x.state.pending + 1; queue = drafts_from 1 x.number x.state.pending }

-- ---- messages

-- whether the entry comes from one of the client's connections
abbrev pub is_own : MapClient → Entry → Bool
is_own x entry = list_any (nat_eq entry.origin) x.conns

-- the map after a message: an own operation is the oldest pending one, and that of another client is put
abbrev pub after_op : Bool → Option MapOp → MapState → MapState
after_op own None s = s
after_op true (Some op) s = acknowledged s.acked s.pending
after_op false (Some op) s = record s { acked = put s.acked op }

-- the client with the numbers of a message, and its operation
abbrev pub after_message : MapEntry → MapClient → MapClient
after_message e x = record x { state = after_op (is_own x e.entry) e.op x.state; number = e.entry.msg.seq; minimum = e.entry.msg.min }

-- the client after a message, which may be the join of its present connection
abbrev pub after_entry : MapClient → MapEntry → MapClient
after_entry x e = if is_own_join x.link e.entry.msg.kind e.entry.origin then online e.entry.origin (after_message e x) else after_message e x

-- the client after messages in order
abbrev pub after_entries : MapClient → List MapEntry → MapClient
after_entries x [] = x
after_entries x (e ∷ es) = after_entries (after_entry x e) es

-- ---- the agreed map

-- the map after the operation of a message, if it has one
abbrev pub put_entry : FiniteMap → Option MapOp → FiniteMap
put_entry m None = m
put_entry m (Some op) = put m op

-- the map after the operations of messages, from this one on
abbrev pub agreed_from : FiniteMap → List MapEntry → FiniteMap
agreed_from m [] = m
agreed_from m (e ∷ es) = agreed_from (put_entry m e.op) es

-- the map that the messages make
abbrev pub agreed_map : List MapEntry → FiniteMap
agreed_map es = agreed_from [] es
