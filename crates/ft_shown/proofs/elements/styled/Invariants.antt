use Rattle.std.proofs.Common.{◌≡◌, ◌++◌, drop, map}
use Rattle.ft_changes.specs.Shown.{styled_elements}
use Rattle.ft_plain_lists.specs.Contents.{content_of}
use Rattle.ft_shown.proofs.elements.styled.Given as goal

-- those that are made, and those that the rest of the contents makes, are all
abbrev pub invariant-loop-content : goal.invariant-loop-content
invariant-loop-content l =
    l.elements.items ++ styled_elements l.props (map content_of (drop l.content-index l.contents))
    ≡ styled_elements l.props (map content_of l.contents)
