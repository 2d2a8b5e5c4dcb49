-- What a map session writes: the lines of a view, the text of a summary, and the step of a line.
use Rattle.std.specs.Prelude.{ℕ, List, [], ◌∷◌, ◌++◌, Result, Ok, Err, map, length, codes, decimal}
use Rattle.std.specs.List.{flat_map}
use Rattle.ft_msg.specs.declared.faults.Cause.{Cause}
use Rattle.ft_seqr.specs.Refusals.{refusal_of_cause}
use Rattle.ft_seqr.specs.SessionReport.{link_word}
use Rattle.ft_seqr.specs.ViewLines.{json_string}
use Rattle.ft_seqr.specs.Walk.{Step, refuses, tells}
use Rattle.ft_map.specs.declared.events.MapEvent.{MapEvent}
use Rattle.ft_shared_map.specs.Maps.{Characters, FiniteMap, ValueBytes}
use Rattle.ft_map.specs.MapClient.{MapClient, view_of}
use Rattle.ft_map.specs.MapGrammar.{map_event}
use Rattle.ft_map.specs.MapSession.{MapOutput, MapSession, MapStepped, NamedMapClient, Nothing, Summary, View, step}

-- ---- views

-- the line of an entry: its key and its value
abbrev pub entry_line : Characters × ValueBytes → List ℕ
entry_line entry = codes "entry " ++ (json_string entry.0 ++ (codes " " ++ entry.1))

-- the name and the link of a client
abbrev pub name_and_link : NamedMapClient → List ℕ
name_and_link c = codes "client " ++ (json_string c.name ++ (codes " " ++ link_word c.client.link))

-- the first line of a client's view
unfoldable pub head_line : NamedMapClient → List ℕ
head_line c =
    name_and_link c ++ (codes " seq " ++ (decimal c.client.number ++ (codes " min " ++ (decimal c.client.minimum ++ (codes " pending " ++ decimal (length c.client.state.pending))))))

-- the lines of a client's view
abbrev pub view_lines : NamedMapClient → List (List ℕ)
view_lines c = head_line c ∷ map entry_line (view_of c.client)

-- ---- summaries

-- an entry as an array of its key and its value
abbrev pub pair_text : Characters × ValueBytes → List ℕ
pair_text entry = codes "[" ++ (json_string entry.0 ++ (codes "," ++ (entry.1 ++ codes "]")))

-- the entries behind the first one, each behind a comma
abbrev pub later_pairs : FiniteMap → List ℕ
later_pairs m = flat_map (λ entry. codes "," ++ pair_text entry) m

-- entries, with commas between them
abbrev pub pairs_text : FiniteMap → List ℕ
pairs_text [] = []
pairs_text (entry ∷ m) = pair_text entry ++ later_pairs m

-- the text of a summary: what was sequenced of a client's map, with its numbers
unfoldable pub summary_text : MapClient → List ℕ
summary_text x =
    codes "{\"min\":" ++ (decimal x.minimum ++ (codes ",\"pairs\":[" ++ (pairs_text x.state.acked ++ (codes "],\"seq\":" ++ (decimal x.number ++ codes ",\"version\":1}")))))

-- ---- lines

-- the lines of what an event writes
abbrev pub output_lines : MapOutput → List (List ℕ)
output_lines Nothing = []
output_lines (View c) = view_lines c
output_lines (Summary x) = summary_text x ∷ []

-- what a session makes of an event that became this
abbrev pub answer : MapSession → MapStepped → Step MapSession
answer w (Ok p) = tells p.0 (output_lines p.1)
answer w (Err refusal) = refuses w refusal

-- what a session makes of a text that is an event, or is none
abbrev pub answer_reading : MapSession → Result MapEvent Cause → Step MapSession
answer_reading w (Ok e) = answer w (step w e)
answer_reading w (Err cause) = refuses w (refusal_of_cause cause)

-- what a session makes of a line
abbrev pub take_line : MapSession → List ℕ → Step MapSession
take_line w line = answer_reading w (map_event line)
