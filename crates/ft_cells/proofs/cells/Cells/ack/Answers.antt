use Rattle.std.proofs.Common.{◌≡◌, ℕ, refl, sym, ◌∙◌, ap}
use Rattle.std.specs.Ordering.{nat_cmp}
use Rattle.std.specs.BTreeMap as tree
use Rattle.ft_cells.specs.CellTables.{CellList, acked_write, cell_at}
use Rattle.ft_cells.specs.Indexed.{table_of}
use Rattle.ft_cells.proofs.StagedWrites.{acked_write-step, indexed-stage_step, stage_absent, stage_step}
use Rattle.ft_cells.proofs.cells.Cells.ack.Goals as goal

everywhere : (c : goal.After-ack_at) (r d : ℕ) → cell_at c.ack_at.new.cells.entries r d ≡ acked_write c.args.stage (table_of c.self.inside.cells r d)
everywhere c r d =
    c.ack_at.ensures r d
    ∙ stage_step c.args.stage (acked_write c.args.stage) (acked_write-step c.args.stage) (table_of c.self.inside.cells) (tree.get nat_cmp c.self.inside.stages c.args.stage)
    c.in-Some.place.line c.in-Some.place.across r d (sym c.remove.ensures.value ∙ c.in-Some.is) (c.self.invariant.staged r d c.args.stage)

pub invariant_of-self : goal.invariant_of-self
invariant_of-self c =
    indexed-stage_step c.args.stage (acked_write c.args.stage) (acked_write-step c.args.stage) (table_of c.self.inside.cells)
    (table_of c.ack_at.new.cells) c.self.inside.columns c.self.inside.stages _
    c.self.invariant refl (everywhere c) c.remove.ensures.updates.0

pub returns-in-Some-clause-acked : goal.returns-in-Some-clause-acked
returns-in-Some-clause-acked c = λ r d. everywhere c r d ∙ ap (λ (cells : CellList). acked_write c.args.stage (cell_at cells r d)) c.self.view_is

pub returns-in_default-clause-acked : goal.returns-in_default-clause-acked
returns-in_default-clause-acked c = λ r d.
    stage_absent c.args.stage (acked_write c.args.stage) (acked_write-step c.args.stage) (table_of c.self.inside.cells r d)
    (tree.get nat_cmp c.self.inside.stages c.args.stage) r d
    (sym c.remove.ensures.value ∙ c.in_default.is) (c.self.invariant.staged r d c.args.stage)
    ∙ ap (λ (cells : CellList). acked_write c.args.stage (cell_at cells r d)) c.self.view_is
