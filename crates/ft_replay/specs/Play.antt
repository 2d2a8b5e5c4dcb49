-- A generated session as it is played: a world takes its events, and what is written of the clients that were shown.
use Rattle.std.specs.Prelude.{ℕ, ◌+◌, ◌*◌, ◌%◌, Bool, true, List, [], ◌∷◌, ◌++◌, Ok, Err, bytes_eq, codes, decimal, fold, length, map, if◌then◌else◌}
use Rattle.std.specs.List.{list_all}
use Rattle.ft_msg.specs.Content.{ViewContent, content}
use Rattle.ft_seqr.specs.declared.events.Event.{Event}
use Rattle.ft_seqr.specs.SessionReport.{closing_lines}
use Rattle.ft_seqr.specs.ViewLines.{content_lines, json_string}
use Rattle.ft_seqr.specs.World.{NamedClient, NaiveWorld, Output, Stepped, View, furthest, new_world, step}
use Rattle.ft_replay.specs.declared.endings.Ending.{Ending}
use Rattle.ft_replay.specs.declared.settings.Settings.{Settings}
use Rattle.ft_replay.specs.Generated.{session_events}
use Rattle.ft_replay.specs.LineForm.{bytes_of, whole_ending}

-- ---- the events

-- what events made of a world, how many of them were refused, and the clients that they showed, each as it was then
pub record Played : Type 0 where
  pub made : NaiveWorld
  pub refused : ℕ
  pub shown : List NamedClient

-- the client that is shown, if one is
abbrev pub newly_shown : Output → List NamedClient
newly_shown (View c) = c ∷ []
newly_shown _ = []

-- a play after an event that became this
abbrev pub played_on : Played → Stepped → Played
played_on at (Err refusal) = record at { refused = at.refused + 1 }
played_on at (Ok p) = record at { made = p.0; shown = at.shown ++ newly_shown p.1 }

-- a play after an event
abbrev pub after_event : Played → Event → Played
after_event at e = played_on at (step at.made e)

-- a play after events in order
abbrev pub after_events : Played → List Event → Played
after_events at [] = at
after_events at (e ∷ es) = after_events (after_event at e) es

-- a play before the first event
abbrev pub nothing_played : Played
nothing_played = record { made = new_world; refused = 0; shown = [] }

-- the play of the session that is generated with these settings
abbrev pub session_play : Settings → Played
session_play settings = after_events nothing_played (session_events settings)

-- ---- what is written

-- the hash of characters: each one's code is added to 31 times the hash of those before it, modulo 2^32
abbrev pub text_hash : List ℕ → ℕ
text_hash text = fold (λ hash code. (hash * 31 + code) % 4294967296) 0 text

-- the name and the numbers of a client
abbrev pub client_numbers : NamedClient → List ℕ
client_numbers c =
    codes "client " ++ (json_string c.name ++ (codes " seq " ++ (decimal c.client.doc.number
    ++ (codes " min " ++ (decimal c.client.doc.minimum ++ (codes " pending " ++ decimal (length c.client.pending)))))))

-- how many characters and markers are shown, and the hash of the characters
abbrev pub content_numbers : ViewContent → List ℕ
content_numbers v = codes " length " ++ (decimal (length v.text + length v.markers) ++ (codes " hash " ++ decimal (text_hash v.text)))

-- the line of a client that was shown
unfoldable pub client_line : NamedClient → List ℕ
client_line c = client_numbers c ++ content_numbers (content c.client)

-- what a client shows, as it would be written
unfoldable pub shown_text : NamedClient → List ℕ
shown_text c = bytes_of (content_lines (content c.client))

-- whether all clients show what the first of them shows
abbrev pub all_agree : List NamedClient → Bool
all_agree [] = true
all_agree (c ∷ cs) = list_all (λ d. bytes_eq (shown_text c) (shown_text d)) cs

-- the line that says whether they do
abbrev pub agreement_line : Bool → List ℕ
agreement_line agree = if agree then codes "agree yes" else codes "agree no"

-- the first line
unfoldable pub settings_line : Settings → List ℕ
settings_line s = codes "play " ++ (decimal s.clients ++ (codes " " ++ (decimal s.edits ++ (codes " " ++ decimal s.seed))))

-- the lines of a play
abbrev pub lines_of_play : Settings → Played → List (List ℕ)
lines_of_play settings at =
    settings_line settings ∷ (map client_line at.shown ++ (agreement_line (all_agree at.shown) ∷ closing_lines at.refused (furthest at.made)))

-- `play`: what is written of the generated session
abbrev pub play_lines : Settings → List (List ℕ)
play_lines settings = lines_of_play settings (session_play settings)

-- how it ends
abbrev pub play_ending : Settings → Ending
play_ending settings = whole_ending (session_play settings).refused (furthest (session_play settings).made)
