-- What a call makes of a tree of text that its callers go on with.
use Rattle.std.specs.Prelude.{◌≡◌, ℕ, [], None}
use Rattle.std.specs.List.{AllByRecursion}
use Rattle.ft_tree_leaves.specs.declared.text.TextContent.{TextContent}
use Rattle.ft_tree_leaves.specs.LeafLists.{elements}
use Rattle.ft_tree_leaves.specs.References.{IsReferenceIn, reference_at}
use Rattle.ft_tree_leaves.specs.TextLeaves.{text_units}
use Rattle.ft_tree.specs.State.{KeepsRest, TreeState}

-- no changes are pending on an element
abbrev pub HasNoChanges : TreeState TextContent → Type 0
HasNoChanges t = AllByRecursion (λ e. e.overlay.pending ≡ []) (elements text_units (λ x. x.by) t.leaves)

-- no reference is live
abbrev pub HasNoReferences : TreeState TextContent → Type 0
HasNoReferences t = (r : ℕ) → reference_at t.refs r ≡ None

-- the tree may still be used and asked from the same floor; it has no new changes; each live reference is live, and no
-- other is
pub record Passes (old now : TreeState TextContent) : Type 0 where
  pub rest : KeepsRest old now
  pub calm : HasNoChanges old → HasNoChanges now
  pub live : (r : ℕ) → IsReferenceIn old.refs r → IsReferenceIn now.refs r
  pub free : HasNoReferences old → HasNoReferences now
