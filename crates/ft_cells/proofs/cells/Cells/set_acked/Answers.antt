use Rattle.ft_cells.specs.CellTables.{crossing}
use Rattle.ft_cells.specs.Indexed.{table_of}
use Rattle.ft_cells.proofs.WrittenCells.{either, indexed-acked, indexed-kept}
use Rattle.std.proofs.Common.{ℕ, refl}
use Rattle.ft_cells.proofs.cells.Cells.set_acked.Goals as goal

pub invariant_of-self-2 : goal.invariant_of-self-2
invariant_of-self-2 c =
    let old = table_of c.self.inside.cells in
    let new = table_of c.set_at.new.cells in
    let more = λ (r : ℕ) (d : ℕ). c.in_ok-insert.ensures.updates.0 (crossing d r) in
    either c.set_at.result c.set_at.ensures.ok c.set_at.ensures.err
    (λ is. indexed-acked c.args.value c.args.row c.args.col old new c.self.inside.columns c.insert.new.self c.self.inside.stages c.self.invariant more is)
    (λ is. indexed-kept c.args.row c.args.col old new c.self.inside.columns c.insert.new.self c.self.inside.stages c.self.inside.stages c.self.invariant more is
    (λ r d j h. refl))
