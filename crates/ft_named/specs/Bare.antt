-- Elements of a tree as the definitions show an element without its name.
use Rattle.ft_tree_leaves.specs.Elements.{TreeElement}
use Rattle.ft_props.specs.Element.{ElementContent, NamelessElement}

-- the element without a name, where `content` tells what its unit is to the document
abbrev pub bare : {U : Type 0} → (U → ElementContent) → TreeElement U → NamelessElement
bare content e = record { content = content e.unit; stamps = e.stamps; by = e.by; props = e.overlay.acked; pending = e.overlay.pending }
