use Rattle.std.proofs.Common.{◌≡◌, ◌+◌, ◌++◌, drop, length, map}
use Rattle.ft_props.specs.Element.{new_elements}
use Rattle.ft_plain_lists.specs.Contents.{content_of}
use Rattle.ft_plain_lists.proofs.scans.new_elements.Given as goal

-- those that are made, and those that the rest of the contents makes, are all
abbrev pub invariant-loop-content : goal.invariant-loop-content
invariant-loop-content l = record {
  counted : length l.elements.items ≡ l.content-index;
  numbered : l.nth ≡ l.first + l.content-index;
  made : l.elements.items ++ new_elements l.nth l.ins l.dels l.by l.props (map content_of (drop l.content-index l.contents))
      ≡ new_elements l.first l.ins l.dels l.by l.props (map content_of l.contents);
}
