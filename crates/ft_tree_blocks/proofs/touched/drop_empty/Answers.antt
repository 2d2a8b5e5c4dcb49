use Rattle.std.proofs.Common.{Bool, rules}
use Rattle.std.proofs.lemmas.Fn.{filter_same}
use Rattle.ft_tree_blocks.specs.Touched.{NodesOfStage, is_some_node}
use Rattle.ft_tree_blocks.proofs.touched.drop_empty.Goals as goal

pub returns : goal.returns
returns c =
    let some : NodesOfStage → Bool = λ s. is_some_node s.nodes in
    filter_same _ some _ (λ x b f' k. search rules) c.args.touched.now.items _ c.retain.ensures.filtered
