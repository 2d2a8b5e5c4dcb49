use Rattle.std.proofs.Common.{◌≡◌, ◌≤◌, ◌-◌, length, take}
use Rattle.std.specs.Io.KnownBytes.{Appends}
use Rattle.ft_io.proofs.streams.write_all.Given as goal

-- the bytes up to `at` were taken
abbrev pub invariant-loop-at : goal.invariant-loop-at
invariant-loop-at g l = record {
  within : l.at ≤ length l.bytes;
  taken : Appends (g.K.Sink.contents l.initial.out) (g.K.Sink.contents l.out) (take l.at l.bytes);
  steady : g.K.Sink.faults l.out ≡ g.K.Sink.faults l.initial.out;
}

abbrev pub decreases-loop-at : goal.decreases-loop-at
decreases-loop-at g l = length l.initial.bytes - l.at
