use Rattle.std.proofs.Common.{List, subst, sym}
use Rattle.ft_tree_leaves.specs.Elements.{TreeElement}
use Rattle.ft_props.specs.Element.{ElementContent}
use Rattle.ft_rebase.specs.StageLists.{StandSideBySide}
use Rattle.ft_tests_tree.proofs.MarkerLists.{stages-side}
use Rattle.ft_tests_tree.proofs.normalising.push_filled.Goals as goal

pub normalise-requires-clause-side : goal.normalise-requires-clause-side
normalise-requires-clause-side c =
    subst (λ (es : List (TreeElement ElementContent)). StandSideBySide (λ e. e.stamps) es) (sym c.in_ok-fill.ensures.elements) stages-side
