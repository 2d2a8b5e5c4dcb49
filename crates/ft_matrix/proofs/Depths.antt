-- How deep a search among the units of a vector goes.
use Rattle.std.proofs.Common.{◌≡◌, ◌≤◌, ◌^◌, ℕ, ◌+◌, None, All, length, map, arith}
use Rattle.std.proofs.lemmas.List.{length-map}
use Rattle.ft_perm.specs.Handles.{HandleRun, handles_of}
use Rattle.ft_perm.specs.Vectors.{vector_elements}
use Rattle.ft_tree.specs.State.{TreeState}
use Rattle.ft_zamboni.proofs.WholeSweeps.{few-leaves}
use Rattle.ft_matrix.specs.Units.{shown_unit}

-- no deeper than one among so many units
pub depth-few : (tree : TreeState HandleRun) → All (λ x. 1 ≤ length (handles_of x.1.content)) tree.leaves → 4 ^ tree.depth ≤ length tree.leaves + 1
    → 4 ^ tree.depth ≤ length (map shown_unit (vector_elements tree)) + 1
depth-few tree some deep =
    let few = few-leaves handles_of (λ (x : HandleRun). None) tree.leaves some in
    let all = length-map (vector_elements tree) shown_unit in
    more (4 ^ tree.depth) (length tree.leaves) (length (vector_elements tree)) (length (map shown_unit (vector_elements tree))) deep few all
  where
    more : (n leaves units shown : ℕ) → n ≤ leaves + 1 → leaves ≤ units → shown ≡ units → n ≤ shown + 1
    more n leaves units shown l m e = omega arith
