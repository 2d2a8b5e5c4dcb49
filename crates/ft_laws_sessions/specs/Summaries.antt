-- What a summary of a client of a world stands for.
use Rattle.std.specs.Prelude.{◌≡◌, ◌<◌, ◌≤◌, ◌^◌, true, List, ◌++◌, Some, find, take}
use Rattle.ft_msg.specs.declared.messages.Entry.{Entry}
use Rattle.ft_seqr.specs.declared.events.Event.{Event}
use Rattle.ft_props.specs.Properties.{Characters}
use Rattle.ft_msg.specs.Agreed.{agreed, take_entries}
use Rattle.ft_msg.specs.ClientSteps.{is_without_edits}
use Rattle.ft_msg.specs.Content.{shown}
use Rattle.ft_msg.specs.Summary.{GivesDocument, trim}
use Rattle.ft_sumdoc.specs.Valid.{IsValidSummary}
use Rattle.ft_sumdoc.specs.WellFormed.{IsWellCut}
use Rattle.ft_msg.specs.SummaryOf.{summary_of}
use Rattle.ft_seqr.specs.World.{NamedClient, ahead_of, is_client, known_names, new_world}
use Rattle.ft_laws_sessions.specs.FormedLogs.{AllMayBeTaken}
use Rattle.ft_laws_sessions.specs.Worlds.{reached}

-- whoever begins with the document of a client with nothing pending, as a summary keeps it, shows after the next messages of
-- the log what all messages up to there show
abbrev pub SummariesGoOn : Type 0
SummariesGoOn =
    (events : List Event) (name : Characters) (c : NamedClient) (next rest : List Entry) → find (is_client name) (reached events).clients ≡ Some c → is_without_edits c.client ≡ true
    → ahead_of (reached events) c.client ≡ next ++ rest
    → shown (take_entries (trim c.client.doc) next) ≡ shown (agreed (take c.client.doc.number (reached events).log ++ next))

-- the summary of a client with nothing pending gives its document, as a summary keeps it
abbrev pub SummariesGiveDocuments : Type 0
SummariesGiveDocuments =
    (events : List Event) (name : Characters) (c : NamedClient) → find (is_client name) (reached events).clients ≡ Some c → is_without_edits c.client ≡ true
    → GivesDocument (summary_of (known_names (reached events) c.client) c.client.doc) c.client.doc

-- the summary of a client with nothing pending is cut as what is written
abbrev pub SummariesAreWellCut : Type 0
SummariesAreWellCut =
    (events : List Event) (name : Characters) (c : NamedClient) → find (is_client name) (reached events).clients ≡ Some c → is_without_edits c.client ≡ true
    → (reached events).load < 2 ^ 53 → IsWellCut (summary_of (known_names (reached events) c.client) c.client.doc)

-- where the events were well formed and the load is at most 2^52, the summary of a client with nothing pending is valid
abbrev pub SummariesAreValid : Type 0
SummariesAreValid =
    (events : List Event) (name : Characters) (c : NamedClient) → AllMayBeTaken new_world events → find (is_client name) (reached events).clients ≡ Some c
    → is_without_edits c.client ≡ true → (reached events).load ≤ 2 ^ 52
    → IsValidSummary (summary_of (known_names (reached events) c.client) c.client.doc)
