-- What holds of every world that events make of the empty one.
use Rattle.std.specs.Prelude.{◌≡◌, ℕ, true, nat_eq, List, [], ◌∷◌, Some, None, Err, find, take}
use Rattle.std.specs.List.{list_any}
use Rattle.ft_msg.specs.declared.messages.Entry.{Entry}
use Rattle.ft_seqr.specs.declared.events.Event.{Event}
use Rattle.ft_seqr.specs.declared.events.Event.TheVariants as event
use Rattle.ft_seqr.specs.declared.refusals.Refusal.{Refusal}
use Rattle.ft_props.specs.Properties.{Characters}
use Rattle.ft_msg.specs.Applied.{applied}
use Rattle.ft_op.specs.Document.{Document}
use Rattle.ft_msg.specs.Agreed.{agreed}
use Rattle.ft_msg.specs.Blame.{blame}
use Rattle.ft_msg.specs.Client.{NaiveClient, client_over}
use Rattle.ft_msg.specs.Content.{content}
use Rattle.ft_seqr.specs.Refusals.{refusal_number}
use Rattle.ft_seqr.specs.World.{NamedClient, NaiveWorld, is_client, new_world, step, world_of}
use Rattle.ft_laws_agreement.specs.Agreement.{IsRun}
use Rattle.ft_msg.specs.ClientSteps.{ClientStep, is_without_edits, taken_entries}
use Rattle.ft_laws_agreement.specs.Sequencing.{Each}
use Rattle.ft_laws_sessions.specs.LogOrder.{IsOrder}

-- the world after events
abbrev pub reached : List Event → NaiveWorld
reached events = world_of new_world events

-- the log's numbers are 1, 2, 3 and so on; minimums never fall and are at most the number of their message; each operation's
-- reference number is from the minimum before it up to below its own number; a message has a body just where it is of type op,
-- a sender, and one of the four types
abbrev pub LogIsInOrder : Type 0
LogIsInOrder = (events : List Event) → IsOrder 0 0 (reached events).log

-- a client made steps of its own, refusing none, from the empty document on, and took the first messages of the log, as many
-- as its number says; one that started from another goes on with the steps of that one
pub record IsOfLog (log : List Entry) (x : NaiveClient) : Type 0 where
  pub steps : List ClientStep
  pub run : IsRun steps x
  pub entries : taken_entries steps ≡ take x.doc.number log

-- each client of a world is such a client of its log
abbrev pub ClientsAreOfLog : Type 0
ClientsAreOfLog = (events : List Event) → Each (λ c. IsOfLog (reached events).log c.client) (reached events).clients

-- the numbers of the refusals that an event may have, in the order in which they are tested
abbrev pub refusals_of : Event → List ℕ
refusals_of (event.Start name None) = 3 ∷ 12 ∷ []
refusals_of (event.Start name (Some from)) = 3 ∷ 12 ∷ 2 ∷ 11 ∷ []
refusals_of (event.Connect name) = 2 ∷ 4 ∷ []
refusals_of (event.Drop name) = 2 ∷ 5 ∷ []
refusals_of (event.Edit name op) = 2 ∷ 13 ∷ 14 ∷ 6 ∷ []
refusals_of (event.Ticket name many) = 2 ∷ 5 ∷ 7 ∷ []
refusals_of (event.Deliver name many) = 2 ∷ 5 ∷ 8 ∷ []
refusals_of (event.Noop name) = 2 ∷ 5 ∷ []
refusals_of (event.Show name) = 2 ∷ []
refusals_of (event.Queue name) = 2 ∷ []
refusals_of (event.Compact name) = 2 ∷ []
refusals_of (event.Summary name) = 2 ∷ 11 ∷ []
refusals_of (event.Offer name text) = 2 ∷ 5 ∷ 1 ∷ 15 ∷ 9 ∷ 10 ∷ []
refusals_of event.History = []
refusals_of (event.Guest name) = 3 ∷ 12 ∷ []
refusals_of (event.Submit name text) = 2 ∷ 1 ∷ 15 ∷ 17 ∷ []
refusals_of (event.Part name) = 2 ∷ 5 ∷ []
refusals_of (event.Overlap name label a b) = 2 ∷ []
refusals_of (event.Blame name a b) = 2 ∷ 6 ∷ []
refusals_of (event.Authors name) = 2 ∷ []

-- an event has no other refusal: no client is brought a message that it refuses, and none of its own drafts is refused
abbrev pub EventsHaveTheirRefusals : Type 0
EventsHaveTheirRefusals = (events : List Event) (e : Event) (refusal : Refusal) → step (reached events) e ≡ Err refusal → list_any (nat_eq (refusal_number refusal)) (refusals_of e) ≡ true

-- each client shows what the log shows of the messages that it processed, with its pending operations sequenced next by any connection
abbrev pub ViewsAreApplied : Type 0
ViewsAreApplied = (events : List Event) (conn : ℕ) → Each (λ c. content c.client ≡ applied c.client (reached events).log conn) (reached events).clients

-- two clients with the same number and nothing pending show the same
abbrev pub ClientsShowTheSame : Type 0
ClientsShowTheSame =
    (events : List Event) (name other : Characters) (c d : NamedClient) → find (is_client name) (reached events).clients ≡ Some c → find (is_client other) (reached events).clients ≡ Some d
    → c.client.doc.number ≡ d.client.doc.number → is_without_edits c.client ≡ true → is_without_edits d.client ≡ true → content c.client ≡ content d.client

-- the second document has the counts of the first
pub record HasCountsOf (doc counted : Document) : Type 0 where
  pub skipped : counted.skipped ≡ doc.skipped
  pub other : counted.other ≡ doc.other

-- the counts of a client are those of the messages that it processed, so clients with the same number have the same counts
abbrev pub CountsAreAgreed : Type 0
CountsAreAgreed =
    (events : List Event) → Each (λ c. HasCountsOf (agreed (take c.client.doc.number (reached events).log)) c.client.doc) (reached events).clients

-- a client with nothing pending tells of who inserted the text what the messages that it processed tell
abbrev pub AttributionsAgree : Type 0
AttributionsAgree =
    (events : List Event) (name : Characters) (c : NamedClient) → find (is_client name) (reached events).clients ≡ Some c → is_without_edits c.client ≡ true
    → blame c.client ≡ blame (client_over (agreed (take c.client.doc.number (reached events).log)))

-- two clients with the same number and nothing pending tell the same of who inserted the text
abbrev pub ClientsAttributeTheSame : Type 0
ClientsAttributeTheSame =
    (events : List Event) (name other : Characters) (c d : NamedClient) → find (is_client name) (reached events).clients ≡ Some c → find (is_client other) (reached events).clients ≡ Some d
    → c.client.doc.number ≡ d.client.doc.number → is_without_edits c.client ≡ true → is_without_edits d.client ≡ true → blame c.client ≡ blame d.client
