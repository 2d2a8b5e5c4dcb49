use Rattle.std.proofs.Common.{sym, subst, true}
use Rattle.ft_named.specs.Nodes.{KeepsNodes}
use Rattle.ft_matrix.specs.GridStates.{GridState}
use Rattle.ft_matrix.specs.HoldsGrid.{HoldsGrid}
use Rattle.ft_matrix.proofs.HeldGrids.{restate}
use Rattle.ft_matrix.proofs.matrix.SharedMatrix.normalise.Goals as goal

pub returns-in-Ok-clause-rebuilt : goal.returns-in-Ok-clause-rebuilt
returns-in-Ok-clause-rebuilt c = λ last doc stages numbers n h its. restate c.normalise.new.self 0 0 true c.self.inside.usable _ stages
    (c.in-Ok.ensures.rebuilt last doc stages numbers (record {
      named = n;
      holds = restate c.self.inside.grid c.self.inside.given 0 c.self.inside.usable true doc stages (subst (λ s. HoldsGrid s doc stages) (sym c.self.view_is) h);
    }) its)

pub returns-in-Ok-clause-rows_nodes : goal.returns-in-Ok-clause-rows_nodes
returns-in-Ok-clause-rows_nodes c =
    subst (λ (s : GridState). KeepsNodes s.rows_tree.leaves c.normalise.new.self.rows.tree.leaves) c.self.view_is c.in-Ok.ensures.rows_nodes

pub returns-in-Ok-clause-cols_nodes : goal.returns-in-Ok-clause-cols_nodes
returns-in-Ok-clause-cols_nodes c =
    subst (λ (s : GridState). KeepsNodes s.cols_tree.leaves c.normalise.new.self.cols.tree.leaves) c.self.view_is c.in-Ok.ensures.cols_nodes
