-- What a unit of a text is to the document.
use Rattle.ft_props.specs.Element.{ElementContent}

-- an element of a text is what its unit is
abbrev pub text_content : ElementContent → ElementContent
text_content u = u
