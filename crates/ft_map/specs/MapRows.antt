-- Worked examples of map sessions.
use Rattle.std.specs.Prelude.{◌≡◌, ℕ, List, [], ◌∷◌, ◌++◌, Option, Some, None, codes, find, length, option_map}
use Rattle.ft_msg.specs.declared.views.Link.{Link}
use Rattle.ft_msg.specs.declared.views.Link.TheVariants.{Online}
use Rattle.ft_seqr.specs.declared.events.HowMany.TheVariants.{Num, All}
use Rattle.ft_map.specs.declared.events.MapEvent.{MapEvent}
use Rattle.ft_map.specs.declared.events.MapEvent.TheVariants.{Start, Connect, Drop, Edit, Ticket, Deliver}
use Rattle.ft_shared_map.specs.declared.ops.MapOp.TheVariants.{Set, Delete, Clear}
use Rattle.ft_shared_map.specs.Maps.{Characters, FiniteMap}
use Rattle.ft_map.specs.MapClient.{view_of}
use Rattle.ft_map.specs.MapSession.{NamedMapClient, is_client, new_session, session_of}

-- what a view tells
pub record ShownClient : Type 0 where
  pub link : Link
  pub seq : ℕ
  pub min : ℕ
  pub pending : ℕ
  pub entries : FiniteMap

abbrev pub shown_client : NamedMapClient → ShownClient
shown_client c = record { link = c.client.link; seq = c.client.number; min = c.client.minimum; pending = length c.client.state.pending; entries = view_of c.client }

-- what the client of this name shows behind the events
abbrev pub shown_after : List MapEvent → Characters → Option ShownClient
shown_after es name = option_map shown_client (find (is_client name) (session_of new_session es).clients)

abbrev pub a : Characters
a = codes "A"

abbrev pub b : Characters
b = codes "B"

abbrev pub set_to : Characters → List ℕ → List ℕ → MapEvent
set_to name key value = Edit name (Set key value)

-- one client, and two, online
abbrev pub one_online : List MapEvent
one_online = Start a None ∷ Connect a ∷ Deliver a All ∷ []

abbrev pub two_online : List MapEvent
two_online = Start a None ∷ Start b None ∷ Connect a ∷ Connect b ∷ Deliver a All ∷ Deliver b All ∷ []

-- a foreign set doesn't show over an own pending clear
abbrev pub cleared_so_far : List MapEvent
cleared_so_far =
    two_online
    ++ (set_to a (codes "k") (codes "1") ∷ Ticket a (Num 1) ∷ Deliver a All ∷ Deliver b All ∷ Edit a Clear ∷ set_to b (codes "k") (codes "2") ∷ Ticket b (Num 1) ∷ Deliver a (Num 1) ∷ [])

abbrev pub PendingClear : Type 0
PendingClear = shown_after cleared_so_far a ≡ Some (record { link = Online 1; seq = 4; min = 2; pending = 1; entries = [] })

abbrev pub SequencedClear : Type 0
SequencedClear = shown_after (cleared_so_far ++ (Ticket a (Num 1) ∷ Deliver a All ∷ Deliver b All ∷ [])) b ≡ Some (record { link = Online 2; seq = 5; min = 3; pending = 0; entries = [] })

-- what was sequenced isn't sent again
abbrev pub reconnected : List MapEvent
reconnected =
    one_online
    ++ (set_to a (codes "a") (codes "[1,2]") ∷ Ticket a (Num 1) ∷ set_to a (codes "b") (codes "null") ∷ Drop a ∷ Edit a (Delete (codes "a")) ∷ Connect a ∷ Deliver a All ∷ [])

abbrev pub Reconnected : Type 0
Reconnected = shown_after reconnected a ≡ Some (record { link = Online 2; seq = 4; min = 3; pending = 2; entries = (codes "b", codes "null") ∷ [] })

abbrev pub SentAgain : Type 0
SentAgain = shown_after (reconnected ++ (Ticket a All ∷ Deliver a All ∷ [])) a ≡ Some (record { link = Online 2; seq = 6; min = 4; pending = 0; entries = (codes "b", codes "null") ∷ [] })
