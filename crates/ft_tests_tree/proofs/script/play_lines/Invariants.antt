use Rattle.ft_tests_tree.specs.Playing.{GoesTogether}
use Rattle.ft_tests_tree.proofs.script.play_lines.Given as goal

abbrev pub invariant-loop-line : goal.invariant-loop-line
invariant-loop-line l = GoesTogether l.tree l.progress
