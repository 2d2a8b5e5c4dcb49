-- The observer of a log: it takes each message that a line is, and has no connection of its own.
use Rattle.std.specs.Prelude.{ℕ, max, List, [], Option, Some, None, Result, Ok, Err}
use Rattle.ft_op.specs.Document.{Document, empty}
use Rattle.ft_msg.specs.declared.faults.Cause.{Cause}
use Rattle.ft_msg.specs.declared.faults.ProcessFault.{ProcessFault}
use Rattle.ft_msg.specs.declared.messages.Entry.{Entry}
use Rattle.ft_msg.specs.declared.messages.Message.{Message}
use Rattle.ft_msg.specs.declared.views.Link.TheVariants.{Offline}
use Rattle.ft_msg.specs.declared.views.Numbers.{Numbers}
use Rattle.ft_msg.specs.Client.{NaiveClient, client_over}
use Rattle.ft_msg.specs.MessageGrammar.{message}
use Rattle.ft_msg.specs.NameTable.{number_of, names_after}
use Rattle.ft_msg.specs.Process.{process}
use Rattle.ft_seqr.specs.Refusals.{refusal_of_cause}
use Rattle.ft_replay.specs.Refusals.{refusal_of_fault}
use Rattle.ft_seqr.specs.Walk.{Step, answers, passes, refuses}

-- what an observer has: the names of the connections so far, and the document of the messages that it took
pub record Observation : Type 0 where
  pub names : List (List ℕ)
  pub doc : Document

-- what it has before the first message
abbrev pub nothing_observed : Observation
nothing_observed = record { names = []; doc = empty }

-- the numbers of whoever only observes, over a document
abbrev pub observer_numbers : Document → Numbers
observer_numbers doc = record {
  seq = doc.number;
  min = doc.minimum;
  pending = 0;
  skipped = doc.skipped;
  other = doc.other;
  made = max doc.text.made (max doc.rows.made doc.cols.made);
  link = Offline;
}

-- the number of the connection that sent a message, 0 where it has no name
abbrev pub sender_number : List (List ℕ) → Option (List ℕ) → ℕ
sender_number names None = 0
sender_number names (Some name) = number_of names name

-- the names after a message: one that reads gives its connection a number, whether it is taken or not
abbrev pub names_with : List (List ℕ) → Option (List ℕ) → List (List ℕ)
names_with names None = names
names_with names (Some name) = names_after names name

-- the message as the observer is given it
abbrev pub numbered_entry : List (List ℕ) → Message → Entry
numbered_entry names m = record { msg = m; origin = sender_number names m.client_id }

-- what the observer makes of a client's answer to a message: the client's document, or the refusal
abbrev pub observe_answer : Observation → Result NaiveClient ProcessFault → Step Observation
observe_answer seen (Ok x) = passes (record seen { doc = x.doc })
observe_answer seen (Err fault) = answers seen (refusal_of_fault fault)

-- what the observer makes of a message: what a client over its document does with it
unfoldable pub observe_message : Observation → Message → Step Observation
observe_message seen m =
    observe_answer (record seen { names = names_with seen.names m.client_id }) (process (client_over seen.doc) (numbered_entry seen.names m))

-- what the observer makes of a text that is a message, or is none
abbrev pub observe_reading : Observation → Result Message Cause → Step Observation
observe_reading seen (Ok m) = observe_message seen m
observe_reading seen (Err cause) = refuses seen (refusal_of_cause cause)

-- what the observer makes of a line
abbrev pub observe : Observation → List ℕ → Step Observation
observe seen line = observe_reading seen (message line)
