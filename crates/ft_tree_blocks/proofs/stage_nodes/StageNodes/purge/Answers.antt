use Rattle.std.proofs.Common.{ℕ, List, ap, not, nat_eq, rules}
use Rattle.arrayvec.proofs.ArrayVecLemmas.{filter-from_retain}
use Rattle.ft_tree_blocks.specs.Touched.{NodesOfStage}
use Rattle.ft_tree_blocks.proofs.stage_nodes.StageNodes.purge.Goals as goal

-- the list of a stage with these nodes
abbrev with_nodes : ℕ → List ℕ → NodesOfStage
with_nodes k ids = record { stage = k; nodes = ids }

pub returns : goal.returns
returns c =
    let a = c.self.inside in
    rw (← c.self.view_is)
    (ap (with_nodes a.stage) (filter-from_retain _ (λ n. not (nat_eq n c.args.id)) _ (λ x b f' y k. search rules) a.nodes.items _ c.retain.ensures.filtered))
