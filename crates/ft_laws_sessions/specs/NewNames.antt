-- That the name of each new connection is a new one.
use Rattle.std.specs.Prelude.{◌≡◌, ◌+◌, ◌<◌, ◌^◌, List, [], ◌∷◌, ◌++◌, Some, None, find, length}
use Rattle.ft_seqr.specs.declared.events.Event.{Event}
use Rattle.ft_props.specs.Properties.{Characters}
use Rattle.ft_msg.specs.NameTable.{names_after, number_of}
use Rattle.ft_seqr.specs.World.{NamedClient, connection_name, is_client, name_fault, next_conn}
use Rattle.ft_laws_sessions.specs.Worlds.{reached}

-- a table gives the name the next number, and has it last then
pub record IsNewName (names : List Characters) (name : Characters) : Type 0 where
  pub number : number_of names name ≡ length names + 1
  pub after : names_after names name ≡ names ++ (name ∷ [])

-- so it is with the name of a client's next connection
abbrev pub ConnectionsHaveNewNames : Type 0
ConnectionsHaveNewNames =
    (events : List Event) (name : Characters) (c : NamedClient) → find (is_client name) (reached events).clients ≡ Some c → next_conn (reached events) < 2 ^ 64
    → IsNewName (reached events).names (connection_name c.name (c.connects + 1))

-- and with that of a new guest's
abbrev pub GuestsHaveNewNames : Type 0
GuestsHaveNewNames =
    (events : List Event) (name : Characters) → name_fault (reached events) name ≡ None → next_conn (reached events) < 2 ^ 64 → IsNewName (reached events).names (connection_name name 1)
