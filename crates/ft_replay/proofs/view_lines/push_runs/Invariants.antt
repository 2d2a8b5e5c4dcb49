use Rattle.std.proofs.Common.{◌≡◌, ◌++◌, drop, map, string_bytes}
use Rattle.ft_replay.specs.LineForm.{bytes_of}
use Rattle.ft_seqr.specs.ViewLines.{run_line}
use Rattle.ft_replay.proofs.view_lines.push_runs.Given as goal

abbrev pub invariant-loop-run : goal.invariant-loop-run
invariant-loop-run l = string_bytes l.text ++ bytes_of (map run_line (drop l.run-index l.runs)) ≡ string_bytes l.initial.text ++ bytes_of (map run_line l.runs)
