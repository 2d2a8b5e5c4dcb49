-- The report of a session: what its lines write, and the last lines. A view is written in one of two forms: as what the client
-- shows, or as what the order will show of it once its pending operations are sequenced next.
use Rattle.std.specs.Prelude.{ℕ, List, [], ◌∷◌, ◌++◌, Result, Ok, Err, map, length, codes, decimal}
use Rattle.serde_json.specs.Written.{compact_text}
use Rattle.ft_msg.specs.declared.faults.Cause.{Cause}
use Rattle.ft_msg.specs.declared.views.Link.{Link}
use Rattle.ft_msg.specs.declared.views.Link.TheVariants.{Offline, Joining, Online}
use Rattle.ft_seqr.specs.declared.events.Event.{Event}
use Rattle.ft_op.specs.Document.{Document}
use Rattle.ft_msg.specs.Applied.{applied}
use Rattle.ft_msg.specs.Client.{NaiveClient}
use Rattle.ft_msg.specs.Content.{ViewContent, content}
use Rattle.ft_seqr.specs.EventGrammar.{event}
use Rattle.ft_seqr.specs.Refusals.{refusal_of_cause}
use Rattle.ft_seqr.specs.ViewLines.{content_lines, json_string}
use Rattle.ft_seqr.specs.Walk.{Progress, Step, after_items, begin, refuses, step_of, tells, written_by_items}
use Rattle.ft_seqr.specs.World.{NamedClient, NaiveWorld, Nothing, Output, Stepped, Texts, View, furthest, new_world, next_conn, step}

-- what of a client in a world is written as its view
abbrev pub Shows : Type 0
Shows = NaiveWorld → NaiveClient → ViewContent

-- what the client shows
abbrev pub as_shown : Shows
as_shown w x = content x

-- what is shown of the messages that it processed, with its pending operations sequenced next by a connection that is in no message
abbrev pub as_applied : Shows
as_applied w x = applied x w.log (next_conn w)

-- the word of a link
abbrev pub link_word : Link → List ℕ
link_word Offline = codes "offline"
link_word (Joining conn) = codes "joining"
link_word (Online conn) = codes "online"

-- the name and the link of a client
abbrev pub name_and_link : NamedClient → List ℕ
name_and_link c = codes "client " ++ (json_string c.name ++ (codes " " ++ link_word c.client.link))

-- the first line of a client's view
unfoldable pub head_line : NamedClient → List ℕ
head_line c =
    name_and_link c ++ (codes " seq " ++ (decimal c.client.doc.number ++ (codes " min " ++ (decimal c.client.doc.minimum ++ (codes " pending " ++ decimal (length c.client.pending))))))

-- the lines of what an event writes
abbrev pub output_lines : Shows → NaiveWorld → Output → List (List ℕ)
output_lines shows w Nothing = []
output_lines shows w (View c) = head_line c ∷ content_lines (shows w c.client)
output_lines shows w (Texts values) = map compact_text values

-- what a session makes of an event that became this
abbrev pub answer : Shows → NaiveWorld → Stepped → Step NaiveWorld
answer shows w (Ok p) = tells p.0 (output_lines shows p.0 p.1)
answer shows w (Err refusal) = refuses w refusal

-- what a session makes of a text that is an event, or is none
abbrev pub answer_reading : Shows → NaiveWorld → Result Event Cause → Step NaiveWorld
answer_reading shows w (Ok e) = answer shows w (step w e)
answer_reading shows w (Err cause) = refuses w (refusal_of_cause cause)

-- what a session makes of a line
abbrev pub take_line : Shows → NaiveWorld → List ℕ → Step NaiveWorld
take_line shows w line = answer_reading shows w (event line)

-- a session after lines
abbrev pub session_after : Shows → List (List ℕ) → Progress NaiveWorld
session_after shows lines = after_items (step_of (take_line shows)) (begin new_world) lines

-- what the lines of a session write
abbrev pub session_lines : Shows → List (List ℕ) → List (List ℕ)
session_lines shows lines = written_by_items (step_of (take_line shows)) (begin new_world) lines

-- the last lines: how many lines were refused, how many sub-operations were skipped, and how many messages were for others
unfoldable pub closing_lines : ℕ → Document → List (List ℕ)
closing_lines refused doc =
    (codes "refused " ++ decimal refused) ∷ (codes "skipped " ++ decimal doc.skipped) ∷ (codes "other " ++ decimal doc.other) ∷ []

-- what is written behind the lines of a session
abbrev pub session_end : Progress NaiveWorld → List (List ℕ)
session_end at = closing_lines at.refused (furthest at.made)

-- the report of a session
abbrev pub session_report : Shows → List (List ℕ) → List (List ℕ)
session_report shows lines = session_lines shows lines ++ session_end (session_after shows lines)
