use Rattle.std.proofs.Common.{◌≡◌, ◌-◌, ap, sym, refl, ◌∙◌, length, get_or, rules, arith}
use Rattle.ft_cells.specs.CellTables.{CellState, last_value}
use Rattle.ft_cells.proofs.Writes.{last_value-last}
use Rattle.ft_cells.proofs.values.CellValues.value.Goals as goal

pub returns-in-Some : goal.returns-in-Some
returns-in-Some c =
    let ws = c.self.inside.pending.items in
    let last = c.in-Some.field-0.now in
    let len : c.self.inside.pending.len ≡ length ws = search rules in
    let there : last ≡ get_or ws (length ws - 1) last = c.in-Some.ensures.lookup ∙ ap (λ n. get_or ws (n - 1) last) len in
    sym (last_value-last c.self.inside.acked ws last (omega (arith, c.in-Some.ensures.variant.0 refl, len)) there)
    ∙ ap (λ (x : CellState). last_value x.acked x.pending) c.self.view_is
