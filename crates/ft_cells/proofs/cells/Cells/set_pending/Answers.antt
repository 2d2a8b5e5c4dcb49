use Rattle.std.proofs.Common.{ℕ, ◌<◌, All, refl, ap}
use Rattle.std.specs.Map.{lookup}
use Rattle.std.specs.BTreeMap.{is_at}
use Rattle.std.specs.Ordering.{nat_cmp}
use Rattle.ft_cells.specs.CellTables.{CellList, cell_at, crossing}
use Rattle.ft_cells.specs.Indexed.{table_of}
use Rattle.ft_cells.proofs.WrittenCells.{either, indexed-kept, indexed-pending, stages_stay}
use Rattle.ft_cells.proofs.cells.Cells.set_pending.Goals as goal

pub invariant_of-self-in_err-insert-2 : goal.invariant_of-self-in_err-insert-2
invariant_of-self-in_err-insert-2 c =
    let old = table_of c.self.inside.cells in
    indexed-kept c.args.row c.args.col old old c.self.inside.columns c.insert.new.self c.self.inside.stages c.insert-2.new.self c.self.invariant
    (λ r d. c.in_ok-insert.ensures.updates.0 (crossing d r)) (λ r d. refl)
    (λ r d j h. ap (λ es. lookup (is_at (nat_cmp j)) es) c.in_err-insert-2.ensures.err)

pub write_at-requires : goal.write_at-requires
write_at-requires c = rw (ap (λ (cells : CellList). cell_at cells c.args.row c.args.col) c.self.view_is) (c.requires c.args.row c.args.col)

pub invariant_of-self-2 : goal.invariant_of-self-2
invariant_of-self-2 c =
    let old = table_of c.self.inside.cells in
    let new = table_of c.write_at.new.cells in
    let more = λ (r : ℕ) (d : ℕ). c.in_ok-insert.ensures.updates.0 (crossing d r) in
    let put = c.in_ok-insert-2.ensures.updates.0 in
    let below : (r d : ℕ) → All (λ w. w.0 < c.args.stage) (old r d).pending = λ r d. rw (ap (λ (cells : CellList). cell_at cells r d) c.self.view_is) (c.requires r d) in
    either c.write_at.result c.write_at.ensures.ok c.write_at.ensures.err
    (λ is. indexed-pending c.args.stage c.args.value c.args.row c.args.col old new c.self.inside.columns c.insert.new.self c.self.inside.stages c.insert-2.new.self below
    c.self.invariant more put is)
    (λ is. indexed-kept c.args.row c.args.col old new c.self.inside.columns c.insert.new.self c.self.inside.stages c.insert-2.new.self c.self.invariant more is
    (λ r d j h. stages_stay c.args.stage j (old r d) (crossing c.args.row c.args.col) _ _ (below r d) (put j) h))
