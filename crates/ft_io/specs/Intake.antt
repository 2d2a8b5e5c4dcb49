-- The input of a reader of lines.
use Rattle.std.specs.Prelude.{ℕ, Option}
use Rattle.ft_io.specs.Reader.{Reader}
use Rattle.ft_io.specs.declared.reader.LineFault.{LineFault}
use Rattle.ft_io.specs.declared.intake.Intake.{Intake}

-- the reader over an input
abbrev pub as_reader : Intake → ℕ → Option LineFault → Reader
as_reader a limit fault = record { pending = a.piece; given = a.given; limit = limit; ended = a.ended; fault = fault }
