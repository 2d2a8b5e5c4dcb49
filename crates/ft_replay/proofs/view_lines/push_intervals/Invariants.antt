use Rattle.std.proofs.Common.{◌≡◌, ◌++◌, drop, map, string_bytes}
use Rattle.ft_replay.specs.LineForm.{bytes_of}
use Rattle.ft_seqr.specs.ViewLines.{interval_line}
use Rattle.ft_replay.proofs.view_lines.push_intervals.Given as goal

abbrev pub invariant-loop-interval : goal.invariant-loop-interval
invariant-loop-interval l = string_bytes l.text ++ bytes_of (map interval_line (drop l.interval-index l.intervals)) ≡ string_bytes l.initial.text ++ bytes_of (map interval_line l.intervals)
