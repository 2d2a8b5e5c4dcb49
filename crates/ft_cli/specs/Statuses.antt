-- How the program ends.
use Rattle.std.specs.Prelude.{ℕ, List, Result, Ok, Err, codes}
use Rattle.ft_replay.specs.declared.endings.Ending.{Ending}
use Rattle.ft_replay.specs.declared.endings.Ending.TheVariants as ending
use Rattle.ft_replay.specs.declared.endings.Fault.{Fault}
use Rattle.ft_replay.specs.declared.endings.Fault.TheVariants as fault
use Rattle.ft_cli.specs.declared.statuses.Status.{Status}
use Rattle.ft_cli.specs.declared.statuses.Status.TheVariants.{Done, SomeRefused, Usage, ReadFault, WriteFault, OutOfMemory, InputLimit}

-- the number of a status
abbrev pub status_code : Status → ℕ
status_code Done = 0
status_code SomeRefused = 1
status_code Usage = 2
status_code ReadFault = 3
status_code WriteFault = 4
status_code OutOfMemory = 5
status_code InputLimit = 6

-- the text of a status
abbrev pub status_text : Status → List ℕ
status_text Done = codes "Done"
status_text SomeRefused = codes "SomeRefused"
status_text Usage = codes "Usage"
status_text ReadFault = codes "ReadFault"
status_text WriteFault = codes "WriteFault"
status_text OutOfMemory = codes "OutOfMemory"
status_text InputLimit = codes "InputLimit"

-- the status behind a whole report that ends so
abbrev pub whole_status : Ending → Status
whole_status ending.Done = Done
whole_status ending.SomeRefused = SomeRefused

-- the status of a run that a fault ends
abbrev pub fault_status : Fault → Status
fault_status fault.Read = ReadFault
fault_status fault.Write = WriteFault
fault_status fault.OutOfMemory = OutOfMemory
fault_status fault.InputLimit = InputLimit

-- the status of a run that ends so
abbrev pub end_status : Result Ending Fault → Status
end_status (Ok ending) = whole_status ending
end_status (Err fault) = fault_status fault
