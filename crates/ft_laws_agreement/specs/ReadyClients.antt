-- What holds of every client after its steps, with something pending or not.
use Rattle.std.specs.Prelude.{◌≡◌, ℕ, List, ◌++◌, length}
use Rattle.ft_msg.specs.declared.messages.Entry.{Entry}
use Rattle.ft_msg.specs.Applied.{applied}
use Rattle.ft_msg.specs.Client.{NaiveClient}
use Rattle.ft_msg.specs.Content.{content}
use Rattle.ft_msg.specs.Process.{come_online}
use Rattle.ft_laws_agreement.specs.Agreement.{IsRun}
use Rattle.ft_msg.specs.ClientSteps.{ClientStep, taken_entries}
use Rattle.ft_laws_agreement.specs.Sequencing.{IsReady}

-- its pending edits can be sequenced next
abbrev pub EveryClientIsReady : Type 0
EveryClientIsReady = (steps : List ClientStep) (x : NaiveClient) → IsRun steps x → IsReady x

-- its number is that of the entries which it took
abbrev pub EntriesAreCounted : Type 0
EntriesAreCounted = (steps : List ClientStep) (x : NaiveClient) → IsRun steps x → x.doc.number ≡ length (taken_entries steps)

-- it shows what the log will show once its pending operations are sequenced next, whatever else is in the log by now
abbrev pub PendingStaysOnTop : Type 0
PendingStaysOnTop = (steps : List ClientStep) (x : NaiveClient) (later : List Entry) (conn : ℕ) → IsRun steps x → content x ≡ applied x (taken_entries steps ++ later) conn

-- it shows the same after its own join
abbrev pub EveryJoinChangesNothing : Type 0
EveryJoinChangesNothing = (steps : List ClientStep) (x : NaiveClient) (entry : Entry) → IsRun steps x → content (come_online x entry) ≡ content x
