-- What an insertion of several contents makes of a tree.
use Rattle.std.specs.Prelude.{◌≡◌, ℕ, ◌+◌, ◌++◌, Bool, List, is_none, length, option_to_list}
use Rattle.std.specs.List.{list_all}
use Rattle.ft_base.specs.Scan.{put}
use Rattle.ft_interval_store.specs.State.{text_elements}
use Rattle.ft_tree_leaves.specs.declared.text.TextContent.{TextContent}
use Rattle.ft_tree_leaves.specs.Edits.{with_place}
use Rattle.ft_tree_leaves.specs.Elements.{TreeElement}
use Rattle.ft_tree_leaves.specs.Places.{put_place, shifted_place}
use Rattle.ft_tree_leaves.specs.References.{ChangesReferences}
use Rattle.ft_props.specs.Element.{ElementContent}
use Rattle.ft_tree.specs.State.{KeepsRest, TreeState}
use Rattle.ft_text.specs.declared.contents.Contents.{Contents}

-- the contents in order
abbrev pub contents_in : Contents → List TextContent
contents_in c = c.before.items ++ option_to_list c.last

-- whether the contents are of a pending insertion
abbrev pub are_new : List TextContent → Bool
are_new xs = list_all (λ x. is_none x.by) xs

-- new elements were put into a tree of text, and its references keep their elements
pub record PutsIn (seen past : TreeElement ElementContent → Bool) (p : ℕ) (added : List (TreeElement ElementContent))
    (old new : TreeState TextContent) : Type 0 where
  pub elements : text_elements new ≡ put seen past p added (text_elements old)
  pub refs : ChangesReferences (with_place (shifted_place (put_place seen past p (text_elements old)) (length added))) old.refs new.refs
  pub rest : KeepsRest old new
  pub made : new.made ≡ old.made + length added
