-- What goes together while a script is played, and what a call leaves that it goes on with.
use Rattle.std.specs.Prelude.{◌≡◌, Bool, true, IsTrue}
use Rattle.ft_tree_leaves.specs.declared.text.TextContent.{TextContent}
use Rattle.ft_tests_tree.specs.declared.progress.Progress.{Progress}
use Rattle.ft_tests_tree.specs.Passing.{HasNoChanges, HasNoReferences}
use Rattle.ft_tree.specs.State.{TreeState}

-- a tree that may be used and has no references; where it is known, no changes of properties are pending
pub record Together (t : TreeState TextContent) (is_calm : Bool) : Type 0 where
  pub usable : IsTrue t.usable
  pub calm : is_calm ≡ true → HasNoChanges t
  pub free : HasNoReferences t

-- the same with what the progress says
abbrev pub GoesTogether : TreeState TextContent → Progress → Type 0
GoesTogether t p = Together t p.calm

-- after a call the tree may be used, and it has no new references
pub record Stays (old now : TreeState TextContent) : Type 0 where
  pub usable : IsTrue now.usable
  pub free : HasNoReferences old → HasNoReferences now
