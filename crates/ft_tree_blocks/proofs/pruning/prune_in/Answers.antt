use Rattle.std.proofs.Common.{Bool, List, filter, subst, sym, ◌∙◌, ap}
use Rattle.ft_tree_blocks.specs.Touched.{NodesOfStage, Tracks, is_some_node}
use Rattle.ft_tree_blocks.proofs.PrunedLists.{tracks-pruned}
use Rattle.ft_tree_blocks.proofs.pruning.prune_in.Goals as goal

pub returns-clause-lists : goal.returns-clause-lists
returns-clause-lists g c =
    let some : NodesOfStage → Bool = λ s. is_some_node s.nodes in
    c.drop_empty.ensures ∙ ap (filter some) c.in_ok-prune_all.ensures

pub returns-clause-tracks : goal.returns-clause-tracks
returns-clause-tracks g c =
    let some : NodesOfStage → Bool = λ s. is_some_node s.nodes in
    subst (λ (ss : List NodesOfStage). Tracks c.args.blocks.now.leaves ss) (sym (c.drop_empty.ensures ∙ ap (filter some) c.in_ok-prune_all.ensures))
    (tracks-pruned c.args.blocks.now.leaves c.args.touched.now.items c.requires.tracks)
