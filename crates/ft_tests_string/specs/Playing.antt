-- What goes together while a script is played.
use Rattle.std.specs.Prelude.{◌≡◌, ◌≤◌, ℕ, Bool, true, false, List, [], ◌∷◌}
use Rattle.std.specs.List.{list_all}
use Rattle.ft_interval.specs.State.{IndexedState, StandsOn}
use Rattle.ft_interval_store.specs.State.{IsAboveAll, text_elements}
use Rattle.ft_op.specs.declared.operations.BaseOp.{BaseOp}
use Rattle.ft_op.specs.declared.operations.BaseOp.TheVariants.{Annotate}
use Rattle.ft_props.specs.Element.{ElementContent}
use Rattle.ft_props.specs.declared.properties.Changes.{Changes}
use Rattle.ft_string.specs.Parts.{AreSound}
use Rattle.ft_tests_string.specs.declared.progress.Progress.{Progress}
use Rattle.ft_tree.specs.State.{TreeState}
use Rattle.ft_tree_leaves.specs.declared.text.TextContent.{TextContent}
use Rattle.ft_tree_leaves.specs.Elements.{TreeElement}

-- whether it is an annotation
abbrev pub is_annotation : BaseOp → Bool
is_annotation (Annotate p q changes) = true
is_annotation _ = false

-- whether there are no changes
abbrev pub are_none : List (ℕ × Changes) → Bool
are_none [] = true
are_none (c ∷ cs) = false

-- whether no changes are pending on an element
abbrev pub is_calm : TreeElement ElementContent → Bool
is_calm e = are_none e.overlay.pending

-- a tree that may be used, on which the intervals stand, with no pending changes of properties; pending stages are below k
pub record Together (t : TreeState TextContent) (c : IndexedState) (k : ℕ) : Type 0 where
  pub sound : AreSound t c.state
  pub stands : StandsOn t c
  pub calm : list_all is_calm (text_elements t) ≡ true
  pub some : 1 ≤ k
  pub above : IsAboveAll k c.state

-- the same with the next stage of the progress
abbrev pub GoesTogether : TreeState TextContent → IndexedState → Progress → Type 0
GoesTogether t c p = Together t c p.stage

-- what goes together with the tree as it was goes together with it as it is
abbrev pub Carries : TreeState TextContent → TreeState TextContent → Type 0
Carries old new = (c : IndexedState) → (k : ℕ) → Together old c k → Together new c k
