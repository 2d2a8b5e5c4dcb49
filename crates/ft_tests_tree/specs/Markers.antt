-- Trees whose leaves are markers.
use Rattle.std.specs.Prelude.{ℕ, List, [], ◌∷◌, None}
use Rattle.ft_base.specs.declared.stamps.Stamp.TheVariants.{Acked, Local}
use Rattle.ft_base.specs.declared.elements.Element.{Element as ElementStamps}
use Rattle.ft_tree_leaves.specs.declared.text.TextContent.{TextContent}
use Rattle.ft_tree_leaves.specs.Elements.{TreeElement}
use Rattle.ft_tree_leaves.specs.LeafLists.{elements}
use Rattle.ft_tree_leaves.specs.TextLeaves.{text_units}
use Rattle.ft_props.specs.Element.{ElementContent, MarkerOf}
use Rattle.ft_tree.specs.State.{TreeState}

-- the elements of a tree of text
abbrev pub elements_of : TreeState TextContent → List (TreeElement ElementContent)
elements_of t = elements text_units (λ x. x.by) t.leaves

-- a marker with these stamps and no properties
abbrev pub marker_element : ElementStamps → TreeElement ElementContent
marker_element e = record { unit = MarkerOf 7; stamps = e; by = None; overlay = record { acked = []; pending = [] } }

-- what message 1 inserted, the same after message 6 removed it, and what a stage inserted
abbrev inserted : ElementStamps
inserted = record { ins = Acked 1 2; dels = [] }

abbrev removed : ElementStamps
removed = record { ins = Acked 1 2; dels = Acked 6 2 ∷ [] }

abbrev pending : ℕ → ElementStamps
pending k = record { ins = Local k; dels = [] }

-- elements of stages 2 and 1 behind a removed one, behind another
abbrev pub two_stages : List (TreeElement ElementContent)
two_stages = marker_element inserted ∷ marker_element removed ∷ marker_element (pending 2) ∷ marker_element (pending 1) ∷ []
