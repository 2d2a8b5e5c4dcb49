-- The texts of faults, as they are shown.
use Rattle.std.specs.Prelude.{ℕ, List, ◌++◌, codes, decimal}
use Rattle.ft_io.specs.declared.reader.LineFault.{LineFault}
use Rattle.ft_io.specs.declared.reader.LineFault.TheVariants.{Read, InputLimit, OutOfMemory}
use Rattle.ft_io.specs.Reader.{input_limit}

-- why a reader of lines has stopped
abbrev pub line_fault_text : LineFault → List ℕ
line_fault_text Read = codes "Read"
line_fault_text InputLimit = codes "InputLimit " ++ decimal input_limit
line_fault_text OutOfMemory = codes "OutOfMemory"
