-- A text as a list of elements, and as one of leaves.
use Rattle.std.specs.Prelude.{ℕ, List}
use Rattle.ft_tree_leaves.specs.declared.leaves.TreeLeaf.{TreeLeaf}
use Rattle.ft_tree_leaves.specs.declared.text.TextContent.{TextContent}
use Rattle.ft_tree_leaves.specs.Elements.{TreeElement}
use Rattle.ft_props.specs.Element.{ElementContent}

-- the elements of a text, in order
abbrev pub TextElements : Type 0
TextElements = List (TreeElement ElementContent)

-- the leaves of a text, each with its node
abbrev pub TextLeaves : Type 0
TextLeaves = List (ℕ × TreeLeaf TextContent)
