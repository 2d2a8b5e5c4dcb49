use Rattle.std.proofs.Common.{Bool, ap, filter, ◌∙◌}
use Rattle.ft_tree_blocks.specs.Touched.{NodesOfStage, is_some_node}
use Rattle.ft_tree_blocks.proofs.touched.purge.Goals as goal

pub returns : goal.returns
returns c =
    let some : NodesOfStage → Bool = λ s. is_some_node s.nodes in
    c.drop_empty.ensures ∙ ap (filter some) c.purge_all.ensures
