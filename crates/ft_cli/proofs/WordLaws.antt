-- What the end of a run says is said of its arguments by its status.
use Rattle.std.specs.Prelude.{⊤}
use Rattle.std.proofs.Common.{◌≡◌, ◌≢◌, ℕ, List, [], Option, Some, None, Bool, true, false, Result, Ok, Err, refl, sym, subst, arith, inl, IfOk, IsErrOf, OnOk}
use Rattle.std.specs.Io.KnownBytes.{IsAtEnd}
use Rattle.ft_io.specs.Streams.{Rose}
use Rattle.ft_io.proofs.TakenAndLeft.{Appends-nil, Consumes-nil}
use Rattle.ft_replay.specs.declared.endings.Ending.{Ending}
use Rattle.ft_replay.specs.declared.endings.Ending.TheVariants as ending
use Rattle.ft_replay.specs.declared.endings.Fault.{Fault}
use Rattle.ft_replay.specs.declared.endings.Fault.TheVariants as fault
use Rattle.ft_replay.specs.LineForm.{Account}
use Rattle.ft_replay.specs.Run.{Moves, Says}
use Rattle.ft_replay.specs.Writing.{WritesBytes}
use Rattle.ft_cli.specs.declared.statuses.Status.{Status}
use Rattle.ft_cli.specs.declared.statuses.Status.TheVariants.{ReadFault, Usage, WriteFault}
use Rattle.ft_cli.specs.declared.words.Form.{Form}
use Rattle.ft_cli.specs.Report.{account_of}
use Rattle.ft_cli.specs.Run.{EndsWhole, SaysByStatus, SaysForWords, SaysOfForm}
use Rattle.ft_cli.specs.Statuses.{end_status, fault_status}
use Rattle.ft_cli.specs.Words.{reads_input}

-- ---- what is said of the bytes

-- what an end says, its status says
says_by_status : (account : Account) (AtEnd source_rose sink_rose : Type 0) (end : Result Ending Fault) (given written : List ℕ)
    → Says account AtEnd source_rose sink_rose end given written → SaysByStatus account AtEnd source_rose sink_rose (end_status end) given written
says_by_status account AtEnd source_rose sink_rose (Ok ending.Done) given written h = h
says_by_status account AtEnd source_rose sink_rose (Ok ending.SomeRefused) given written h = h
says_by_status account AtEnd source_rose sink_rose (Err fault.Read) given written h = h
says_by_status account AtEnd source_rose sink_rose (Err fault.Write) given written h = h
says_by_status account AtEnd source_rose sink_rose (Err fault.OutOfMemory) given written h = h
says_by_status account AtEnd source_rose sink_rose (Err fault.InputLimit) given written h = h

-- the arguments are of no command, and nothing was read or written
pub moves_usage : (form : Option Form) (first held : Option (List ℕ)) (source_rose sink_rose : Type 0) → form ≡ None
    → Moves first first held held (SaysForWords form first source_rose sink_rose Usage)
moves_usage form first held source_rose sink_rose is =
    subst (λ f. Moves first first held held (SaysForWords f first source_rose sink_rose Usage)) (sym is)
    (record { given = []; gives = Consumes-nil first; written = []; takes = Appends-nil held; says = (refl, refl, refl) })

-- what is said of a command is said of its arguments
for_words : (form : Option Form) (it : Form) → form ≡ Some it → (reads : Bool) → reads_input it ≡ reads → (left : Option (List ℕ)) (source_rose sink_rose : Type 0) (status : Status)
    (end : Result Ending Fault) → status ≡ end_status end → (given written : List ℕ) → SaysOfForm reads (account_of it) left source_rose sink_rose (end_status end) given written
    → SaysForWords form left source_rose sink_rose status given written
for_words form it is reads reading left source_rose sink_rose status end ends given written h =
    subst (λ f. SaysForWords f left source_rose sink_rose status given written) (sym is)
    (subst (λ s. SaysForWords (Some it) left source_rose sink_rose s given written) (sym ends)
    (subst (λ b. SaysOfForm b (account_of it) left source_rose sink_rose (end_status end) given written) (sym reading) h))

-- the lines of a command were read
pub moves_read : (form : Option Form) (it : Form) → form ≡ Some it → reads_input it ≡ true → (first left held holds : Option (List ℕ)) (source_rose sink_rose : Type 0) (status : Status)
    (end : Result Ending Fault) → status ≡ end_status end → Moves first left held holds (Says (account_of it) (IsAtEnd left) source_rose sink_rose end)
    → Moves first left held holds (SaysForWords form left source_rose sink_rose status)
moves_read form it is reading first left held holds source_rose sink_rose status end ends moves = record {
  given = moves.given;
  gives = moves.gives;
  written = moves.written;
  takes = moves.takes;
  says = for_words form it is true reading left source_rose sink_rose status end ends moves.given moves.written
      (says_by_status (account_of it) (IsAtEnd left) source_rose sink_rose end moves.given moves.written moves.says);
}

-- a command that reads nothing wrote its report, or not
says_unread : (account : Account) (held holds : Option (List ℕ)) (before now : ℕ) (end : Result Ending Fault) → IfOk end (λ ending. ending ≡ account.ending [])
    → (writes : WritesBytes {T = Ending} held holds before now (account.report []) end) → Says account ⊤ ⊥ (Rose before now) end [] writes.written
says_unread account held holds before now (Ok ending) ends writes = record { at_end = tt; within = omega arith; report = writes.says; ends = ends }
says_unread account held holds before now (Err fault.Read) ends writes = absurd writes.says
says_unread account held holds before now (Err fault.InputLimit) ends writes = absurd writes.says
says_unread account held holds before now (Err fault.Write) ends writes = (writes.says.0, inl writes.says.1)
says_unread account held holds before now (Err fault.OutOfMemory) ends writes = inl writes.says

pub moves_unread : (form : Option Form) (it : Form) → form ≡ Some it → reads_input it ≡ false → (first held holds : Option (List ℕ)) (source_rose : Type 0) (before now : ℕ) (status : Status)
    (end : Result Ending Fault) → status ≡ end_status end → IfOk end (λ ending. ending ≡ (account_of it).ending [])
    → WritesBytes {T = Ending} held holds before now ((account_of it).report []) end → Moves first first held holds (SaysForWords form first source_rose (Rose before now) status)
moves_unread form it is unread first held holds source_rose before now status end ends ending writes = record {
  given = [];
  gives = Consumes-nil first;
  written = writes.written;
  takes = writes.takes;
  says = for_words form it is false unread first source_rose (Rose before now) status end ends [] writes.written
      (refl, says_by_status (account_of it) ⊤ ⊥ (Rose before now) end [] writes.written (says_unread (account_of it) held holds before now end ending writes));
}

-- ---- what is written whole was written without a fault

-- a fault ends no whole report
fault-partial : {A : Type 0} (f : Fault) → EndsWhole (fault_status f) → A
fault-partial fault.Read h = absurd h
fault-partial fault.Write h = absurd h
fault-partial fault.OutOfMemory h = absurd h
fault-partial fault.InputLimit h = absurd h

-- what holds where a run came to its end holds where the report is whole
pub whole_steady : (A : Type 0) (end : Result Ending Fault) (status : Status) → status ≡ end_status end → OnOk end A → EndsWhole status → A
whole_steady A end status is h whole = by end h (subst EndsWhole is whole)
  where
    by : (r : Result Ending Fault) → OnOk r A → EndsWhole (end_status r) → A
    by (Ok s) g w = g
    by (Err f) g w = fault-partial f w

-- ---- which fault ended the run

-- what holds where the end of a run isn't that a read failed holds where its status isn't ReadFault
pub source_kept : (A : Type 0) (end : Result Ending Fault) (status : Status) → status ≡ end_status end → (¬ IsErrOf end fault.Read → A) → status ≢ ReadFault → A
source_kept A (Ok ending) status is kept other = kept (λ e. cc)
source_kept A (Err fault.Read) status is kept other = absurd (other is)
source_kept A (Err fault.Write) status is kept other = kept (λ e. cc)
source_kept A (Err fault.OutOfMemory) status is kept other = kept (λ e. cc)
source_kept A (Err fault.InputLimit) status is kept other = kept (λ e. cc)

-- the same of a write
pub sink_kept : (A : Type 0) (end : Result Ending Fault) (status : Status) → status ≡ end_status end → (¬ IsErrOf end fault.Write → A) → status ≢ WriteFault → A
sink_kept A (Ok ending) status is kept other = kept (λ e. cc)
sink_kept A (Err fault.Write) status is kept other = absurd (other is)
sink_kept A (Err fault.Read) status is kept other = kept (λ e. cc)
sink_kept A (Err fault.OutOfMemory) status is kept other = kept (λ e. cc)
sink_kept A (Err fault.InputLimit) status is kept other = kept (λ e. cc)
