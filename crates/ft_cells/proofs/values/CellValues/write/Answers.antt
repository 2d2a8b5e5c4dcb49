use Rattle.std.proofs.Common.{◌<◌, All, sym, subst}
use Rattle.ft_cells.specs.CellTables.{CellState}
use Rattle.ft_cells.specs.Indexed.{AreRising}
use Rattle.ft_cells.proofs.Writes.{rising-push}
use Rattle.ft_cells.proofs.values.CellValues.write.Goals as goal

pub invariant_of-self-2 : goal.invariant_of-self-2
invariant_of-self-2 c =
    let ws = c.self.inside.pending.items in
    let below : All (λ w. w.0 < c.args.stage) ws = subst (λ (x : CellState). All (λ w. w.0 < c.args.stage) x.pending) (sym c.self.view_is) c.requires in
    subst AreRising (sym c.in_ok-push_back.ensures.items) (rising-push c.args.stage c.args.value ws c.self.invariant below)
