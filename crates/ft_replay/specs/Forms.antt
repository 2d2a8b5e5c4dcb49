-- The commands that read lines, and what each of them comes to.
use Rattle.std.specs.Prelude.{ℕ, List, [], ◌∷◌, Some, None, if◌then◌else◌}
use Rattle.ft_io.specs.Lines.{lines, ended_lines}
use Rattle.ft_io.specs.Reader.{input_limit}
use Rattle.ft_op.specs.Document.{Document}
use Rattle.ft_msg.specs.Content.{shown}
use Rattle.ft_seqr.specs.SessionReport.{Shows, as_applied, session_after, session_lines, session_report, take_line}
use Rattle.ft_seqr.specs.ViewLines.{content_lines, numbers_line}
use Rattle.ft_seqr.specs.Walk.{line_limit}
use Rattle.ft_seqr.specs.World.{NaiveWorld, furthest, new_world}
use Rattle.ft_map.specs.MapReport.{take_line as map_line}
use Rattle.ft_map.specs.MapSession.{MapSession, new_session}
use Rattle.ft_replay.specs.declared.endings.Ending.TheVariants.{Done}
use Rattle.ft_replay.specs.declared.settings.Settings.{Settings}
use Rattle.ft_replay.specs.Generated.{generated_lines}
use Rattle.ft_replay.specs.LineForm.{Account, LineForm, account_by, bytes_of, form_ending}
use Rattle.ft_replay.specs.Loading.{Loading, load_line, nothing_loaded}
use Rattle.ft_replay.specs.Observation.{Observation, nothing_observed, observe, observer_numbers}
use Rattle.ft_replay.specs.Play.{play_ending, play_lines}

-- the lines of an observer's view
unfoldable pub view_lines : Document → List (List ℕ)
view_lines doc = numbers_line (observer_numbers doc) ∷ content_lines (shown doc)

-- `log`: an observer takes the messages, and its view stands behind the refusals of the lines
abbrev pub log_form : LineForm Observation
log_form =
    record { first = nothing_observed; longest = λ seen. line_limit; read = observe; shown = λ seen. view_lines seen.doc; counted = λ seen. Some seen.doc }

-- `load`: the observer starts from the summary, whose line may be as long as an input
abbrev pub load_form : LineForm Loading
load_form = record {
  first = nothing_loaded;
  longest = λ at. if at.begun then line_limit else input_limit;
  read = load_line;
  shown = λ at. view_lines at.seen.doc;
  counted = λ at. Some at.seen.doc;
}

-- `session`: a session takes the events, and what each of them writes stands in its place. The counts are those of the client with
-- the greatest number
abbrev pub session_form : Shows → LineForm NaiveWorld
session_form shows = record { first = new_world; longest = λ w. line_limit; read = take_line shows; shown = λ w. []; counted = λ w. Some (furthest w) }

-- `map`: a session of clients over a map takes the events, and what each of them writes stands in its place. It tells no counts
abbrev pub map_form : LineForm MapSession
map_form = record { first = new_session; longest = λ w. line_limit; read = map_line; shown = λ w. []; counted = λ w. None }

-- what `log` comes to
abbrev pub log_account : Account
log_account = account_by log_form

-- what `load` comes to
abbrev pub load_account : Account
load_account = account_by load_form

-- what `map` comes to
abbrev pub map_account : Account
map_account = account_by map_form

-- what `session` comes to: each view in it is what all would see with the client's pending operations sequenced next
abbrev pub session_account : Account
session_account = record {
  report = λ bytes. bytes_of (session_report as_applied (lines bytes));
  opened = λ bytes. bytes_of (session_lines as_applied (ended_lines bytes));
  ending = λ bytes. form_ending (session_form as_applied) (session_after as_applied (lines bytes));
}

-- what `gen` comes to, which reads nothing
abbrev pub generated_account : Settings → Account
generated_account settings = record { report = λ bytes. bytes_of (generated_lines settings); opened = λ bytes. []; ending = λ bytes. Done }

-- what `play` comes to, which reads nothing
abbrev pub play_account : Settings → Account
play_account settings = record { report = λ bytes. bytes_of (play_lines settings); opened = λ bytes. []; ending = λ bytes. play_ending settings }
