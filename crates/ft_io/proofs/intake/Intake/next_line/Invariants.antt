use Rattle.std.proofs.Common.{◌≡◌, ◌+◌, ◌-◌, false, None}
use Rattle.ft_io.specs.Reader.{input_limit}
use Rattle.ft_io.specs.Intake.{as_reader}
use Rattle.ft_io.proofs.Gathering.{Gathers}
use Rattle.ft_io.proofs.intake.Intake.next_line.Given as goal

-- the line so far, and what the source gave for it
abbrev pub invariant-loop-whole : goal.invariant-loop-whole
invariant-loop-whole g l = record {
  gathers : Gathers (as_reader l.initial.self l.limit None) (g.S.Source.remaining l.initial.src) (g.S.Source.faults l.initial.src) l.self.piece l.self.given l.line (g.S.Source.remaining l.src) (g.S.Source.faults l.src);
  goes_on : l.self.ended ≡ false;
  steady : g.S.Source.faults l.src ≡ g.S.Source.faults l.initial.src;
}

-- each piece brings the input nearer to its limit
abbrev pub decreases-loop-whole : goal.decreases-loop-whole
decreases-loop-whole g l = input_limit + 1 - l.self.given
