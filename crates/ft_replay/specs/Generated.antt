-- The settings of a generated session, and its lines.
use Rattle.std.specs.Prelude.{ℕ, ◌≤◌, List, map}
use Rattle.serde_json.specs.Written.{compact_text}
use Rattle.ft_seqr.specs.declared.events.Event.{Event}
use Rattle.ft_seqr.specs.WrittenEvent.{written_event}
use Rattle.ft_gen.specs.Generated.{generated}
use Rattle.ft_replay.specs.declared.settings.Settings.{Settings}

-- a session is generated for 1 to 16 clients and at most 1,000,000 edits
abbrev pub IsWithinLimits : Settings → Type 0
IsWithinLimits settings = (1 ≤ settings.clients) × (settings.clients ≤ 16) × (settings.edits ≤ 1000000)

-- the events of the session that is generated with these settings
unfoldable pub session_events : Settings → List Event
session_events settings = generated settings.clients settings.edits settings.seed

-- the line of an event
abbrev pub event_line : Event → List ℕ
event_line e = compact_text (written_event e)

-- `gen`: the events of the generated session, one a line
abbrev pub generated_lines : Settings → List (List ℕ)
generated_lines settings = map event_line (session_events settings)
