-- What holds of each state that the events of a map session reach.
use Rattle.std.specs.Prelude.{◌≡◌, ℕ, List, [], None, Some, Err, find, take}
use Rattle.ft_seqr.specs.declared.nacks.Nack.{Nack}
use Rattle.ft_seqr.specs.declared.refusals.Refusal.TheVariants.{Nacked}
use Rattle.ft_map.specs.declared.events.MapEvent.{MapEvent}
use Rattle.ft_map.specs.declared.log.MapEntry.{MapEntry}
use Rattle.ft_shared_map.specs.Maps.{Characters, put_all}
use Rattle.ft_map.specs.MapClient.{MapClient, after_entry, agreed_map, dropped, joining, view_of}
use Rattle.ft_map.specs.MapSession.{MapSession, NamedMapClient, is_client, new_session, session_of, step}

-- the client of this name in the session that the events make
abbrev pub Reaches : List MapEvent → Characters → NamedMapClient → Type 0
Reaches es name c = find (is_client name) (session_of new_session es).clients ≡ Some c

-- each view is what the messages up to the client's number make, with the client's pending operations put in order
abbrev pub ViewsAreAgreedMaps : Type 0
ViewsAreAgreedMaps =
    (es : List MapEvent) (name : Characters) (c : NamedMapClient) → Reaches es name c
    → view_of c.client ≡ put_all (agreed_map (take c.client.number (session_of new_session es).service.log)) c.client.state.pending

-- two clients with the same number and nothing pending show the same
abbrev pub IdleClientsAgree : Type 0
IdleClientsAgree =
    (es : List MapEvent) (name other : Characters) (c d : NamedMapClient) → Reaches es name c → Reaches es other d → c.client.number ≡ d.client.number
    → c.client.state.pending ≡ [] → d.client.state.pending ≡ [] → view_of c.client ≡ view_of d.client

-- neither a connection, nor its loss, nor its join, when it comes, changes a view
pub record ReconnectionsChangeNothing : Type 0 where
  pub connecting : (conn : ℕ) (x : MapClient) → view_of (joining conn x) ≡ view_of x
  pub dropping : (x : MapClient) → view_of (dropped x) ≡ view_of x
  pub coming_online : (x : MapClient) (e : MapEntry) → e.op ≡ None → view_of (after_entry x e) ≡ view_of x

-- no draft of a client is refused by the sequencer, whatever the event
abbrev pub NoDraftIsRefused : Type 0
NoDraftIsRefused = (es : List MapEvent) (e : MapEvent) (nack : Nack) → step (session_of new_session es) e ≡ Err (Nacked nack) → ⊥

-- events reach the session
abbrev pub IsReached : MapSession → Type 0
IsReached w = (es : List MapEvent) × (session_of new_session es ≡ w)
