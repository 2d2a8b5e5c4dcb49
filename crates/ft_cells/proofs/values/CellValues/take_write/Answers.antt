use Rattle.std.proofs.Common.{ℕ, List, Some, ap, sym, subst, ◌∙◌, nat_eq, not}
use Rattle.std.specs.Map.{lookup}
use Rattle.ft_cells.specs.CellTables.{CellState, without_write}
use Rattle.ft_cells.specs.Indexed.{AreRising}
use Rattle.ft_cells.proofs.Writes.{Writes, lookup-found, filter-found, lookup-missing, filter-missing, rising-filter}
use Rattle.ft_cells.proofs.values.CellValues.take_write.Goals as goal

pub returns-in_err-i-clause-value : goal.returns-in_err-i-clause-value
returns-in_err-i-clause-value c =
    let k = c.args.stage in
    c.from_residual.ensures ∙ sym (lookup-missing k c.self.inside.pending.items (sym c.in_err-i.ensures))
    ∙ ap (λ (x : CellState). lookup (λ j. nat_eq j k) x.pending) c.self.view_is

pub returns-in_err-i-clause-rest : goal.returns-in_err-i-clause-rest
returns-in_err-i-clause-rest c =
    let k = c.args.stage in
    let pending = c.self.inside.pending.items in
    sym c.self.view_is
    ∙ ap (λ (ps : Writes). let x : CellState = record { acked = c.self.inside.acked; pending = ps } in x) (sym (filter-missing k pending (sym c.in_err-i.ensures)))
    ∙ ap (without_write k) c.self.view_is

pub invariant_of-self-2 : goal.invariant_of-self-2
invariant_of-self-2 c =
    let k = c.args.stage in
    let pending = c.self.inside.pending.items in
    subst AreRising (sym (c.in_ok-value.ensures.items ∙ filter-found k c.in_ok-i.i pending c.self.invariant (sym c.in_ok-i.ensures)))
    (rising-filter (λ w. not (nat_eq w.0 k)) pending c.self.invariant)

pub returns-clause-value : goal.returns-clause-value
returns-clause-value c =
    let k = c.args.stage in
    ap (λ (w : ℕ × List ℕ). Some w.1) c.in_ok-value.ensures.value
    ∙ sym (lookup-found k c.in_ok-i.i c.self.inside.pending.items (c.in_ok-value.field-0-0, c.in_ok-value.value) (sym c.in_ok-i.ensures))
    ∙ ap (λ (x : CellState). lookup (λ j. nat_eq j k) x.pending) c.self.view_is

pub returns-clause-rest : goal.returns-clause-rest
returns-clause-rest c =
    let k = c.args.stage in
    let left = λ (ps : Writes). let x : CellState = record { acked = c.self.inside.acked; pending = ps } in x in
    ap left (c.in_ok-value.ensures.items ∙ filter-found k c.in_ok-i.i c.self.inside.pending.items c.self.invariant (sym c.in_ok-i.ensures))
    ∙ ap (without_write k) c.self.view_is
