use Rattle.std.proofs.Common.{◌+◌, ◌^◌, ◌≤◌, length, subst}
use Rattle.ft_perm.specs.Vectors.{VectorState}
use Rattle.ft_matrix.specs.Units.{shown_units}
use Rattle.ft_matrix.proofs.Depths.{depth-few}
use Rattle.ft_matrix.proofs.own_edits.first_leaf.Goals as goal

pub returns : goal.returns
returns c =
    subst (λ (v : VectorState). 4 ^ v.tree.depth ≤ length (shown_units v) + 1) c.units.view_is
    (depth-few c.units.inside.tree c.first_leaf.ensures.some c.first_leaf.ensures.depth)
