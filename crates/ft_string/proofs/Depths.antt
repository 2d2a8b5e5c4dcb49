-- How deep a search among the elements of a tree goes.
use Rattle.std.proofs.Common.{◌≡◌, ℕ, ◌+◌, ◌^◌, All, map, ◌≤◌, arith, length}
use Rattle.std.proofs.lemmas.List.{length-map}
use Rattle.ft_interval_store.specs.State.{text_elements}
use Rattle.ft_tree_leaves.specs.declared.text.TextContent.{TextContent}
use Rattle.ft_tree_leaves.specs.TextLeaves.{text_units}
use Rattle.ft_tree.specs.State.{TreeState}
use Rattle.ft_zamboni.proofs.WholeSweeps.{few-leaves}
use Rattle.ft_named.specs.Bare.{bare}
use Rattle.ft_string.specs.Bare.{text_content}

-- a search among leaves goes no deeper than one among so many elements
pub depth-few : (tree : TreeState TextContent) → All (λ x. 1 ≤ length (text_units x.1.content)) tree.leaves → 4 ^ tree.depth ≤ length tree.leaves + 1
    → 4 ^ tree.depth ≤ length (map (bare text_content) (text_elements tree)) + 1
depth-few tree some deep =
    let few = few-leaves text_units (λ (x : TextContent). x.by) tree.leaves some in
    let all = length-map (text_elements tree) (bare text_content) in
    more (4 ^ tree.depth) (length tree.leaves) (length (text_elements tree)) (length (map (bare text_content) (text_elements tree))) deep few all
  where
    more : (n leaves elements shown : ℕ) → n ≤ leaves + 1 → leaves ≤ elements → shown ≡ elements → n ≤ shown + 1
    more n leaves elements shown l m e = omega arith
