use Rattle.ft_tests_string.specs.Sharing.{Plays}
use Rattle.ft_tests_string.proofs.shared.play_all.Given as goal

abbrev pub invariant-loop-line : goal.invariant-loop-line
invariant-loop-line l = Plays l.text l.place.number l.place.next l.spans.items
