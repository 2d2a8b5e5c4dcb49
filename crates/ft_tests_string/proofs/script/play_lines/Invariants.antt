use Rattle.ft_tests_string.specs.Playing.{GoesTogether}
use Rattle.ft_tests_string.proofs.script.play_lines.Given as goal

abbrev pub invariant-loop-line : goal.invariant-loop-line
invariant-loop-line l = GoesTogether l.tree l.intervals l.progress
