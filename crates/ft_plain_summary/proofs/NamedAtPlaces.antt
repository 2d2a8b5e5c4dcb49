-- The names of unremoved elements stand at their places.
use Rattle.std.proofs.Common.{◌≡◌, ℕ, zero, suc, List, [], ◌∷◌, ◌++◌, Option, Some, None, ℤ, pos, negsuc, map, option_map, slice_get, refl, sym, ◌∙◌, ap, append_assoc, arith}
use Rattle.std.proofs.Math.Path.{ap₂}
use Rattle.ft_base.specs.Scan.{at}
use Rattle.ft_sumdoc.specs.declared.summary.CellRec.{CellRec}
use Rattle.ft_sumdoc.specs.declared.summary.IntervalRec.{IntervalRec}
use Rattle.ft_props.specs.Element.{ElementId, ListElement, id, is_unremoved}
use Rattle.ft_op.specs.Cells.{Cell}
use Rattle.ft_op.specs.Intervals.{element_at_end}
use Rattle.ft_msg.specs.Summary.{cell_at, cells_of, interval_of}
use Rattle.ft_plain_summary.specs.NamedPlaces.{named_cell, named_cells, named_end, named_interval, unremoved_names}

at-named : (xs : List ListElement) (p : ℕ) → option_map id (at is_unremoved p xs) ≡ slice_get (unremoved_names xs) p
at-named [] p = refl
at-named (x ∷ xs) zero = grind (arith, at-named xs 0)
at-named (x ∷ xs) (suc p) = grind (arith, at-named xs p, at-named xs (suc p))

end-named : (xs : List ListElement) (end : ℤ) → element_at_end is_unremoved xs end ≡ named_end (unremoved_names xs) end
end-named xs (pos p) = at-named xs p
end-named xs (negsuc p) = refl

interval-named : (xs : List ListElement) (i : IntervalRec) → interval_of xs i ≡ named_interval (unremoved_names xs) i
interval-named xs i =
    ap₂ (λ a b. record (interval_of xs i) { start = a; end = b }) (end-named xs i.ends.start) (end-named xs i.ends.end)

pub intervals-named : (xs : List ListElement) (is : List IntervalRec) → map (interval_of xs) is ≡ map (named_interval (unremoved_names xs)) is
intervals-named xs [] = refl
intervals-named xs (i ∷ is) = ap₂ (λ a b. a ∷ b) (interval-named xs i) (intervals-named xs is)

cell_at-named : (row col : Option ListElement) (c : CellRec) → cell_at row col c ≡ named_cell (option_map id row) (option_map id col) c
cell_at-named (Some row) (Some col) c = refl
cell_at-named (Some row) None c = refl
cell_at-named None (Some col) c = refl
cell_at-named None None c = refl

pub cells-named : (rows cols : List ListElement) (cs : List CellRec) → cells_of rows cols cs ≡ named_cells (unremoved_names rows) (unremoved_names cols) cs
cells-named rows cols [] = refl
cells-named rows cols (c ∷ cs) =
    ap₂ (λ a b. a ++ b)
    (cell_at-named (at is_unremoved c.row rows) (at is_unremoved c.col cols) c ∙ ap₂ (λ row col. named_cell row col c) (at-named rows c.row) (at-named cols c.col))
    (cells-named rows cols cs)

-- the cells so far, after one more
pub named_cells-with : (rows cols : List ElementId) (c : CellRec) (cs rest : List CellRec) (old new all : List Cell)
    → rest ≡ c ∷ cs → new ≡ old ++ named_cell (slice_get rows c.row) (slice_get cols c.col) c
    → old ++ named_cells rows cols rest ≡ all → new ++ named_cells rows cols cs ≡ all
named_cells-with rows cols c cs rest old new all front added so_far =
    ap (λ xs. xs ++ named_cells rows cols cs) added
    ∙ append_assoc old (named_cell (slice_get rows c.row) (slice_get cols c.col) c) (named_cells rows cols cs)
    ∙ ap (λ r. old ++ named_cells rows cols r) (sym front) ∙ so_far
