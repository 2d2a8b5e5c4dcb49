use Rattle.std.proofs.Common.{◌∙◌, ap, subst, sym}
use Rattle.ft_block.specs.Leaves.{last_stage}
use Rattle.ft_tree_leaves.specs.Elements.{seen_in}
use Rattle.ft_perm.specs.Vectors.{VectorState, seen_handles}
use Rattle.ft_matrix.specs.declared.grid.Grid.{Grid}
use Rattle.ft_matrix.specs.Seen.{StandOnce, shown_at, shown_cells}
use Rattle.ft_matrix.specs.Units.{units_of}
use Rattle.ft_matrix.proofs.CellPlaces.{cells-listed, listed-all}
use Rattle.ft_matrix.proofs.SeenHandles.{once-seen}
use Rattle.ft_matrix.proofs.grid.Grid.shown_cells.Goals as goal

pub seen_runs-requires-clause-once : goal.seen_runs-requires-clause-once
seen_runs-requires-clause-once c =
    subst (λ (v : VectorState). StandOnce (seen_handles last_stage v.tree)) (sym (ap (λ (g : Grid). g.rows) c.self.view_is))
    (once-seen (seen_in last_stage) (units_of c.args.self.now.rows) c.requires.rows.proper.once)

pub seen_runs-requires-2-clause-once : goal.seen_runs-requires-2-clause-once
seen_runs-requires-2-clause-once c =
    subst (λ (v : VectorState). StandOnce (seen_handles last_stage v.tree)) (sym (ap (λ (g : Grid). g.cols) c.self.view_is))
    (once-seen (seen_in last_stage) (units_of c.args.self.now.cols) c.requires.cols.proper.once)

pub returns : goal.returns
returns c =
    listed-all c.listed.result (shown_cells c.args.self.now) c.in_ok-placed.placed c.listed.ensures.cells c.listed.ensures.ordered (λ o.
    cells-listed (shown_at _) _ _ c.in_ok-placed.placed o (c.in_ok-placed.ensures _ _ c.in_ok-rows.ensures c.in_ok-cols.ensures) ∙ ap shown_cells c.self.view_is)
