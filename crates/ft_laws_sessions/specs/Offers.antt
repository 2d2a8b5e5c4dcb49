-- What an offered message is that a client takes.
use Rattle.std.specs.Prelude.{◌≡◌, List, ◌∷◌, Some, Ok, find, encode_utf8_all}
use Rattle.ft_msg.specs.declared.messages.Entry.{Entry}
use Rattle.ft_seqr.specs.declared.events.Event.{Event}
use Rattle.ft_seqr.specs.declared.events.Event.TheVariants.{Offer}
use Rattle.ft_props.specs.Properties.{Characters}
use Rattle.ft_msg.specs.Client.{NaiveClient}
use Rattle.ft_msg.specs.MessageGrammar.{message}
use Rattle.ft_msg.specs.Process.{process}
use Rattle.ft_seqr.specs.World.{NamedClient, NaiveWorld, Output, ahead_of, is_client, step}
use Rattle.ft_laws_sessions.specs.Worlds.{reached}

-- the text is the message of the next entry of the log, and the client takes that entry
pub record IsOfferOf (w : NaiveWorld) (name text : Characters) : Type 0 where
  pub c : NamedClient
  pub found : find (is_client name) w.clients ≡ Some c
  pub entry : Entry
  pub later : List Entry
  pub next : ahead_of w c.client ≡ entry ∷ later
  pub reads : message (encode_utf8_all text) ≡ Ok entry.msg
  pub after : NaiveClient
  pub takes : process c.client entry ≡ Ok after

-- each offer that is taken is such a one
abbrev pub OffersAreOfTheLog : Type 0
OffersAreOfTheLog = (events : List Event) (name text : Characters) (p : NaiveWorld × Output) → step (reached events) (Offer name text) ≡ Ok p → IsOfferOf (reached events) name text
