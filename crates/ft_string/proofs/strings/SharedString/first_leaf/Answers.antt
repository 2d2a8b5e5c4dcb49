use Rattle.std.proofs.Common.{◌+◌, ◌^◌, ◌≤◌, length, subst}
use Rattle.ft_string.specs.State.{TextState}
use Rattle.ft_string.proofs.Depths.{depth-few}
use Rattle.ft_string.proofs.strings.SharedString.first_leaf.Goals as goal

pub returns : goal.returns
returns c =
    subst (λ (s : TextState). 4 ^ s.depth ≤ length s.elements + 1) c.self.view_is
    (depth-few c.self.inside.tree c.first_leaf.ensures.some c.first_leaf.ensures.depth)
