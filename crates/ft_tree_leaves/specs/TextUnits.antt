-- What an element of a text is to the document.
use Rattle.ft_props.specs.Element.{ElementContent, Character, MarkerOf}
use Rattle.ft_tree_leaves.specs.declared.text.UnitKind.{UnitKind}
use Rattle.ft_tree_leaves.specs.declared.text.UnitKind.TheVariants as kind

-- the content of the document's element
abbrev pub unit_content : UnitKind → ElementContent
unit_content (kind.Character c) = Character c
unit_content (kind.Marker r) = MarkerOf r
