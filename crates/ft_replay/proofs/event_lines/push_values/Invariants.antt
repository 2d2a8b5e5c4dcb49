use Rattle.std.proofs.Common.{◌≡◌, ◌++◌, drop, string_bytes}
use Rattle.ft_replay.specs.LineForm.{bytes_of}
use Rattle.ft_replay.proofs.event_lines.push_values.Given as goal

abbrev pub invariant-loop-value : goal.invariant-loop-value
invariant-loop-value l = string_bytes l.text ++ bytes_of (drop l.value-index l.values) ≡ string_bytes l.initial.text ++ bytes_of l.values
