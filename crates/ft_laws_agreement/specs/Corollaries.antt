-- What follows from the laws for those who look at clients from outside.
use Rattle.std.specs.Prelude.{◌≡◌, true, List, ◌++◌, Ok}
use Rattle.ft_msg.specs.declared.messages.Entry.{Entry}
use Rattle.ft_op.specs.Document.{Document}
use Rattle.ft_msg.specs.Client.{NaiveClient}
use Rattle.ft_msg.specs.ClientSteps.{ClientStep, is_without_edits, taken_entries}
use Rattle.ft_msg.specs.Content.{content}
use Rattle.ft_msg.specs.Process.{is_own_join, process}
use Rattle.ft_msg.specs.Reconnection.{regenerated}
use Rattle.ft_laws_agreement.specs.Reconnecting.{drafts_from}
use Rattle.ft_laws_agreement.specs.Starts.{IsRunFrom}

-- a client shows the same, and its queue holds just its pending edits as they are sent again
pub record ComesBack (x y : NaiveClient) (entry : Entry) : Type 0 where
  pub content : content y ≡ content x
  pub queue : y.queue ≡ drafts_from 1 entry.msg.seq (regenerated x)

-- so it is where a client processes its own join
abbrev pub OwnJoinComesBack : Type 0
OwnJoinComesBack =
    (start : Document) (steps : List ClientStep) (x y : NaiveClient) (entry : Entry) → IsRunFrom start steps x → is_own_join x.link entry.msg.kind entry.origin ≡ true → process x entry ≡ Ok y → ComesBack x y entry

-- the entries are the first ones of the log
pub record AreFirstOf (log entries : List Entry) : Type 0 where
  pub later : List Entry
  pub whole : entries ++ later ≡ log

-- two clients with nothing pending that took the first entries of one log, and have the same number, show the same
abbrev pub SameNumberShowsTheSame : Type 0
SameNumberShowsTheSame =
    (start : Document) (log : List Entry) (steps others : List ClientStep) (x y : NaiveClient) → IsRunFrom start steps x → IsRunFrom start others y → AreFirstOf log (taken_entries steps) → AreFirstOf log (taken_entries others)
    → is_without_edits x ≡ true → is_without_edits y ≡ true → x.doc.number ≡ y.doc.number → content x ≡ content y
