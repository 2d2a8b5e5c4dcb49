-- What holds of what the clients of a world show and tell, in each naive world for which it stands.
use Rattle.std.specs.Prelude.{◌≡◌, ℕ, true, Some, Ok, find}
use Rattle.ft_props.specs.Properties.{Characters}
use Rattle.ft_msg.specs.declared.messages.Entry.{Entry}
use Rattle.ft_msg.specs.Applied.{applied}
use Rattle.ft_msg.specs.Blame.{blame}
use Rattle.ft_msg.specs.Client.{NaiveClient}
use Rattle.ft_msg.specs.ClientSteps.{is_without_edits}
use Rattle.ft_msg.specs.Content.{content}
use Rattle.ft_msg.specs.Process.{is_own_join, process}
use Rattle.ft_seqr.specs.World.{NamedClient, NaiveWorld, is_client}
use Rattle.ft_session.specs.Worlds.{WorldState, WorldStands}

-- the world stands for a naive one, whose client of that name is this one
pub record HasClient (w : WorldState) (n : NaiveWorld) (name : Characters) (c : NamedClient) : Type 0 where
  pub stands : WorldStands w n
  pub found : find (is_client name) n.clients ≡ Some c

-- each client shows the messages of the log that it processed, with its pending operations sequenced next by any connection
abbrev pub ShowsApplied : WorldState → Type 0
ShowsApplied w = (n : NaiveWorld) (name : Characters) (c : NamedClient) → HasClient w n name c → (conn : ℕ) → content c.client ≡ applied c.client n.log conn

-- clients with the same number have the same counts
pub record CountTheSame (x y : NaiveClient) : Type 0 where
  pub skipped : x.doc.skipped ≡ y.doc.skipped
  pub other : x.doc.other ≡ y.doc.other

abbrev pub SameNumbersCountTheSame : WorldState → Type 0
SameNumbersCountTheSame w = (n : NaiveWorld) (name other : Characters) (c d : NamedClient) → HasClient w n name c → HasClient w n other d
    → c.client.doc.number ≡ d.client.doc.number → CountTheSame c.client d.client

-- where they have nothing pending either, they show the same, and tell the same of who inserted their text
pub record ShowTheSame (x y : NaiveClient) : Type 0 where
  pub shows : content x ≡ content y
  pub attributes : blame x ≡ blame y

abbrev pub SameNumbersShowTheSame : WorldState → Type 0
SameNumbersShowTheSame w = (n : NaiveWorld) (name other : Characters) (c d : NamedClient) → HasClient w n name c → HasClient w n other d
    → c.client.doc.number ≡ d.client.doc.number → is_without_edits c.client ≡ true → is_without_edits d.client ≡ true → ShowTheSame c.client d.client

-- a client that processes its own join shows what it showed
abbrev pub JoinsKeepViews : WorldState → Type 0
JoinsKeepViews w = (n : NaiveWorld) (name : Characters) (c : NamedClient) → HasClient w n name c → (entry : Entry) (after : NaiveClient)
    → is_own_join c.client.link entry.msg.kind entry.origin ≡ true → process c.client entry ≡ Ok after → content after ≡ content c.client
