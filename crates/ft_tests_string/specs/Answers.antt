-- What an answer to an edit means.
use Rattle.std.specs.Prelude.{◌+◌, ℕ}
use Rattle.ft_interval.specs.State.{IndexedState}
use Rattle.ft_tests_string.specs.declared.edits.Answer.{Answer}
use Rattle.ft_tests_string.specs.declared.edits.Answer.TheVariants.{Made, Passed, Refused}
use Rattle.ft_tests_string.specs.Playing.{Together}
use Rattle.ft_tree.specs.State.{TreeState}
use Rattle.ft_tree_leaves.specs.declared.text.TextContent.{TextContent}

-- the next stage after an edit that would be of stage k
abbrev pub after : Answer → ℕ → ℕ
after Made k = k + 1
after Passed k = k
after (Refused fault) k = k

-- what goes together with the tree as it was goes together with it as it is, behind an edit of the tree
abbrev pub Makes : ℕ → Answer → TreeState TextContent → TreeState TextContent → Type 0
Makes k answer old new = (c : IndexedState) → Together old c k → Together new c (after answer k)
