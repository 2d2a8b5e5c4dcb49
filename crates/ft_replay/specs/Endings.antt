-- How a run ends, and the texts of that.
use Rattle.std.specs.Prelude.{ℕ, List, codes}
use Rattle.ft_io.specs.declared.reader.LineFault.{LineFault}
use Rattle.ft_io.specs.declared.reader.LineFault.TheVariants as line
use Rattle.ft_replay.specs.declared.endings.Ending.{Ending}
use Rattle.ft_replay.specs.declared.endings.Ending.TheVariants.{Done, SomeRefused}
use Rattle.ft_replay.specs.declared.endings.Fault.{Fault}
use Rattle.ft_replay.specs.declared.endings.Fault.TheVariants as fault

-- the fault of a reader of lines, as one of a run
abbrev pub fault_of_line : LineFault → Fault
fault_of_line line.Read = fault.Read
fault_of_line line.InputLimit = fault.InputLimit
fault_of_line line.OutOfMemory = fault.OutOfMemory

-- the text of a fault
abbrev pub fault_text : Fault → List ℕ
fault_text fault.Read = codes "Read"
fault_text fault.Write = codes "Write"
fault_text fault.OutOfMemory = codes "OutOfMemory"
fault_text fault.InputLimit = codes "InputLimit"

-- the text of how a run ends whose report is whole
abbrev pub ending_text : Ending → List ℕ
ending_text Done = codes "Done"
ending_text SomeRefused = codes "SomeRefused"
