-- Which refusal a fault is, and the number and the text that are written of a refusal.
use Rattle.std.specs.Prelude.{ℕ, List, [], ◌++◌, codes, decimal}
use Rattle.ft_msg.specs.declared.faults.Cause.{Cause}
use Rattle.ft_msg.specs.declared.faults.Cause.TheVariants as cause
use Rattle.ft_msg.specs.declared.faults.EditFault.{EditFault}
use Rattle.ft_msg.specs.declared.faults.EditFault.TheVariants as edit
use Rattle.ft_msg.specs.declared.faults.LinkFault.{LinkFault}
use Rattle.ft_msg.specs.declared.faults.LinkFault.TheVariants as link
use Rattle.ft_msg.specs.declared.faults.SummaryFault.{SummaryFault}
use Rattle.ft_msg.specs.declared.faults.SummaryFault.TheVariants as summing
use Rattle.ft_msg.specs.declared.faults.ViewFault.{ViewFault}
use Rattle.ft_msg.specs.declared.faults.ViewFault.TheVariants as viewing
use Rattle.ft_msg.specs.declared.faults.ProcessFault.{ProcessFault}
use Rattle.ft_msg.specs.declared.faults.ProcessFault.TheVariants as processing
pub use Rattle.ft_msg.specs.FaultTexts.{bad_numbers_text, cause_text}
pub use Rattle.ft_sumdoc.specs.FaultTexts.{summary_cause_text, summary_fault_text}
use Rattle.ft_seqr.specs.declared.nacks.LeaveFault.{LeaveFault}
use Rattle.ft_seqr.specs.declared.nacks.LeaveFault.TheVariants as leaving
use Rattle.ft_seqr.specs.declared.nacks.SubmitFault.{SubmitFault}
use Rattle.ft_seqr.specs.declared.nacks.SubmitFault.TheVariants as submitting
use Rattle.ft_seqr.specs.declared.nacks.Nack.{Nack}
use Rattle.ft_seqr.specs.declared.nacks.Nack.TheVariants as nack
use Rattle.ft_seqr.specs.declared.refusals.Refusal.{Refusal}
use Rattle.ft_seqr.specs.declared.refusals.Refusal.TheVariants.{Malformed, UnknownClient, NameInUse, AlreadyConnected, NotConnected, OutOfRange, NothingToTicket, NothingToDeliver, OutOfOrder, Foreign, Pending, ClientLimit, IdInUse, NoSuchInterval, CountLimit, LineTooLong, Nacked, BadNumbers, Summary, OutOfMemory, Stopped}

-- ---- faults

-- the refusal of a text that has no reading; too great a count is one of its own
abbrev pub refusal_of_cause : Cause → Refusal
refusal_of_cause cause.CountLimit = CountLimit
refusal_of_cause fault = Malformed fault

-- the refusal of a text that a call couldn't read; OutOfMemory is no fault of the text
abbrev pub refusal_of_reading : Cause → Refusal
refusal_of_reading cause.OutOfMemory = OutOfMemory
refusal_of_reading fault = refusal_of_cause fault

-- the refusal of an edit
abbrev pub refusal_of_edit : EditFault → Refusal
refusal_of_edit edit.OutOfMemory = OutOfMemory
refusal_of_edit (edit.Stopped seq) = Stopped
refusal_of_edit edit.IdInUse = IdInUse
refusal_of_edit edit.NoSuchInterval = NoSuchInterval
refusal_of_edit (edit.OutOfRange length) = OutOfRange length

-- the refusal of a change of the link
abbrev pub refusal_of_link : LinkFault → Refusal
refusal_of_link link.OutOfMemory = OutOfMemory
refusal_of_link (link.Stopped seq) = Stopped
refusal_of_link link.AlreadyConnected = AlreadyConnected
refusal_of_link link.NotConnected = NotConnected

-- the refusal of the message with this number; in a session none but OutOfMemory comes, since its messages are those of the log
abbrev pub refusal_of_process : ℕ → ProcessFault → Refusal
refusal_of_process number processing.OutOfMemory = OutOfMemory
refusal_of_process number (processing.Stopped seq) = Stopped
refusal_of_process number (processing.OutOfOrder expected got) = OutOfOrder expected got
refusal_of_process number (processing.BadNumbers field kept got) = BadNumbers field kept got
refusal_of_process number processing.NotSent = Foreign number

-- the refusal to show something
abbrev pub refusal_of_view : ViewFault → Refusal
refusal_of_view viewing.OutOfMemory = OutOfMemory
refusal_of_view (viewing.Stopped seq) = Stopped

-- the refusal of a summary
abbrev pub refusal_of_summary : SummaryFault → Refusal
refusal_of_summary summing.OutOfMemory = OutOfMemory
refusal_of_summary (summing.Stopped seq) = Stopped
refusal_of_summary (summing.Pending count) = Pending count

-- the refusal of a connection that can't leave
abbrev pub refusal_of_leaving : LeaveFault → Refusal
refusal_of_leaving leaving.NotJoined = NotConnected
refusal_of_leaving leaving.OutOfMemory = OutOfMemory

-- the refusal of a draft
abbrev pub refusal_of_submission : SubmitFault → Refusal
refusal_of_submission (submitting.Nack nack) = Nacked nack
refusal_of_submission submitting.OutOfMemory = OutOfMemory

-- ---- numbers and texts

-- a name with the number that was to be and the one that came
abbrev pub two_numbers : List ℕ → ℕ → ℕ → List ℕ
two_numbers word a b = word ++ (codes " " ++ (decimal a ++ (codes " got " ++ decimal b)))

-- the text of a nack
abbrev pub nack_text : Nack → List ℕ
nack_text nack.NotJoined = codes "NotJoined"
nack_text (nack.ClientSeq expected got) = two_numbers (codes "ClientSeq expected") expected got
nack_text (nack.RefBelow min got) = two_numbers (codes "RefBelow min") min got
nack_text (nack.RefBack last got) = two_numbers (codes "RefBack last") last got
nack_text (nack.RefAhead seq got) = two_numbers (codes "RefAhead seq") seq got

-- why a connection can't leave
abbrev pub leave_fault_text : LeaveFault → List ℕ
leave_fault_text leaving.NotJoined = codes "NotJoined"
leave_fault_text leaving.OutOfMemory = codes "OutOfMemory"

-- why a draft isn't sequenced
abbrev pub submit_fault_text : SubmitFault → List ℕ
submit_fault_text (submitting.Nack nack) = nack_text nack
submit_fault_text submitting.OutOfMemory = codes "OutOfMemory"

-- the number of a refusal; OutOfMemory, now or earlier, ends a run and has none
abbrev pub refusal_number : Refusal → ℕ
refusal_number (Malformed fault) = 1
refusal_number UnknownClient = 2
refusal_number NameInUse = 3
refusal_number AlreadyConnected = 4
refusal_number NotConnected = 5
refusal_number (OutOfRange length) = 6
refusal_number (NothingToTicket have) = 7
refusal_number (NothingToDeliver have) = 8
refusal_number (OutOfOrder expected got) = 9
refusal_number (Foreign number) = 10
refusal_number (Pending count) = 11
refusal_number ClientLimit = 12
refusal_number IdInUse = 13
refusal_number NoSuchInterval = 14
refusal_number CountLimit = 15
refusal_number LineTooLong = 16
refusal_number (Nacked fault) = 17
refusal_number (BadNumbers field kept got) = 18
refusal_number (Summary fault) = 19
refusal_number OutOfMemory = 0
refusal_number Stopped = 0

-- the text of a refusal without parts; empty for any other
abbrev pub phrase : Refusal → List ℕ
phrase UnknownClient = codes "UnknownClient"
phrase NameInUse = codes "NameInUse"
phrase AlreadyConnected = codes "AlreadyConnected"
phrase NotConnected = codes "NotConnected"
phrase ClientLimit = codes "ClientLimit 16"
phrase IdInUse = codes "IdInUse"
phrase NoSuchInterval = codes "NoSuchInterval"
phrase CountLimit = codes "CountLimit 1000000"
phrase LineTooLong = codes "LineTooLong"
phrase OutOfMemory = codes "OutOfMemory"
phrase Stopped = codes "Stopped"
phrase _ = []

-- the text of a refusal
abbrev pub refusal_text : Refusal → List ℕ
refusal_text (Malformed fault) = codes "Malformed " ++ cause_text fault
refusal_text (OutOfRange length) = codes "OutOfRange length " ++ decimal length
refusal_text (NothingToTicket have) = codes "NothingToTicket have " ++ decimal have
refusal_text (NothingToDeliver have) = codes "NothingToDeliver have " ++ decimal have
refusal_text (OutOfOrder expected got) = two_numbers (codes "OutOfOrder expected") expected got
refusal_text (Foreign number) = codes "Foreign " ++ decimal number
refusal_text (Pending count) = codes "Pending " ++ decimal count
refusal_text (Nacked fault) = codes "Nacked " ++ nack_text fault
refusal_text (BadNumbers field kept got) = bad_numbers_text field kept got
refusal_text (Summary fault) = codes "Summary " ++ summary_fault_text fault
refusal_text refusal = phrase refusal

-- what is written of a refused line: its number from 1, the number of the refusal and its text
unfoldable pub refused_line : ℕ → Refusal → List ℕ
refused_line number refusal =
    codes "line " ++ (decimal number ++ (codes " refused " ++ (decimal (refusal_number refusal) ++ (codes " " ++ refusal_text refusal))))
