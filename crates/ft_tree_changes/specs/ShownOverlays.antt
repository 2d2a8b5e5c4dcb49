-- What is shown of the elements of a tree, and what changes make of it.
use Rattle.ft_props.specs.Overlay.{OverlayState, after_acked_changes, after_pending_changes, shown_of}
use Rattle.ft_props.specs.Properties.{PropertyList}
use Rattle.ft_tree_leaves.specs.Elements.{TreeElement}
use Rattle.ft_tree_changes.specs.declared.annotations.Annotation.{Annotation}
use Rattle.ft_tree_changes.specs.declared.annotations.Annotation.TheVariants.{Acked, Pending}

-- its properties, with the pending changes on top of the acknowledged ones
abbrev pub shown_of_element : {U : Type 0} → TreeElement U → PropertyList
shown_of_element e = shown_of e.overlay

-- the properties of an element with the changes. At which stage they are pending doesn't matter to what is shown
abbrev pub annotated : Annotation → OverlayState → OverlayState
annotated (Acked changes) o = after_acked_changes changes.now o
annotated (Pending changes) o = after_pending_changes 0 changes.now o
