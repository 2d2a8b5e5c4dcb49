-- What collections hold, and how they stand on a tree.
use Rattle.std.specs.Prelude.{List, length}
use Rattle.ft_tree_leaves.specs.declared.text.TextContent.{TextContent}
use Rattle.ft_tree.specs.State.{TreeState}
use Rattle.ft_interval_store.specs.State.{CollectionsState, IsLive, ends_of_name, text_elements}
use Rattle.ft_interval_index.specs.Indexes.{LabelIndex, AreListed}

-- intervals and pending operations, and the indexes
pub record IndexedState : Type 0 where
  pub state : CollectionsState
  pub indexes : List LabelIndex

-- the references that the collections keep are live in the tree, and each index is that of the acknowledged intervals of its label
pub record StandsOn (tree : TreeState TextContent) (c : IndexedState) : Type 0 where
  pub live : IsLive tree.refs c.state
  pub listed : AreListed (length (text_elements tree)) tree.refs (λ n. ends_of_name n c.state.acked) c.indexes
