-- What contracts see of the content of an element of a plain replica.
use Rattle.ft_props.specs.Element.{Character as CharacterOf, ElementContent, GridUnit, MarkerOf}
use Rattle.ft_plain_lists.specs.declared.elements.Content.{Content}
use Rattle.ft_plain_lists.specs.declared.elements.Content.TheVariants.{Character, Marker, Unit}

-- the content as the definitions have it
abbrev pub content_of : Content → ElementContent
content_of (Character c) = CharacterOf c
content_of (Marker ref_type) = MarkerOf ref_type
content_of Unit = GridUnit
