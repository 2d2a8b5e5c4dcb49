use Rattle.std.proofs.Common.{ℕ, length}
use Rattle.ft_tests_string.specs.Sharing.{Rejoins}
use Rattle.ft_tests_string.proofs.sharing.give_all.Given as goal

abbrev pub invariant-loop-span : goal.invariant-loop-span
invariant-loop-span l = (low : ℕ) × Rejoins l.text l.place.number l.place.next low l.kept.items l.spans.items

abbrev pub decreases-loop-span : goal.decreases-loop-span
decreases-loop-span l = length l.spans.items
