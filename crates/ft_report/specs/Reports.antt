-- What is said of the report of an input.
use Rattle.std.specs.Prelude.{◌≡◌, ℕ, ◌<◌, ◌≤◌, ◌||◌, IsTrue, nat_eq, codes, List, length, take, ⊤}
use Rattle.ft_io.specs.Reader.{input_limit}
use Rattle.ft_replay.specs.declared.endings.Ending.{Ending}
use Rattle.ft_replay.specs.declared.endings.Ending.TheVariants.{Done, SomeRefused}
use Rattle.ft_replay.specs.Forms.{session_account}
use Rattle.ft_report.specs.declared.reports.Report.{Report}
use Rattle.ft_report.specs.declared.reports.ReportFault.{ReportFault}
use Rattle.ft_report.specs.declared.reports.ReportFault.TheVariants.{OutOfMemory, TooLong}

-- the report of a session over the input
abbrev pub session_bytes : List ℕ → List ℕ
session_bytes input = session_account.report input

-- it is the report of the input, and it ends so
pub record IsReport (input : List ℕ) (r : Report) : Type 0 where
  pub bytes : r.bytes.items ≡ session_bytes input
  pub ends : r.ending ≡ session_account.ending input

-- why there is no report: the input has more bytes than it may have, or there is no memory
abbrev pub IsCause : List ℕ → ReportFault → Type 0
IsCause input TooLong = input_limit < length input
IsCause input OutOfMemory = ⊤

-- the number by which C is told how a report ends
abbrev pub ending_number : Ending → ℕ
ending_number Done = 0
ending_number SomeRefused = 1

-- what a number tells of the report of the input, so many bytes, and of the room for them, in which these bytes were before; where there is no
-- report in the room, those still are
pub record Tells (input before room : List ℕ) (count status : ℕ) : Type 0 where
  pub within : status ≤ 1 → count ≤ length room
  pub bytes : status ≤ 1 → take count room ≡ session_bytes input
  pub ends : status ≤ 1 → status ≡ ending_number (session_account.ending input)
  pub needed : status ≡ 4 → count ≡ length (session_bytes input)
  pub small : status ≡ 4 → length room < count
  pub long : status ≡ 6 → input_limit < length input
  pub known : IsTrue (nat_eq status 0 || (nat_eq status 1 || (nat_eq status 4 || (nat_eq status 5 || nat_eq status 6))))
  pub none : 5 ≤ status → count ≡ 0
  pub untouched : 4 ≤ status → room ≡ before

-- the text of a fault
abbrev pub report_fault_text : ReportFault → List ℕ
report_fault_text OutOfMemory = codes "OutOfMemory"
report_fault_text TooLong = codes "TooLong"
