-- Intervals and cells by the names of the unremoved elements, which stand at their places in a list.
use Rattle.std.specs.Prelude.{List, [], ◌∷◌, ◌++◌, Option, Some, None, ℤ, pos, negsuc, slice_get}
use Rattle.ft_base.specs.Scan.{retain_map}
use Rattle.ft_sumdoc.specs.declared.summary.CellRec.{CellRec}
use Rattle.ft_sumdoc.specs.declared.summary.IntervalRec.{IntervalRec}
use Rattle.ft_props.specs.Element.{ElementId, ListElement, id, is_unremoved}
use Rattle.ft_op.specs.Cells.{Cell}
use Rattle.ft_op.specs.Intervals.{Interval}

-- the names of the unremoved elements in order
abbrev pub unremoved_names : List ListElement → List ElementId
unremoved_names xs = retain_map is_unremoved id xs

-- the name at an end
abbrev pub named_end : List ElementId → ℤ → Option ElementId
named_end names (pos p) = slice_get names p
named_end names (negsuc p) = None

-- an interval on the elements of these names
abbrev pub named_interval : List ElementId → IntervalRec → Interval
named_interval names i = record { label = i.label; id = i.id; start = named_end names i.ends.start; end = named_end names i.ends.end; props = i.props }

-- the cell of the row and the column of these names, where both are there
abbrev pub named_cell : Option ElementId → Option ElementId → CellRec → List Cell
named_cell (Some row) (Some col) c = record { row = row; col = col; value = c.value } ∷ []
named_cell _ _ c = []

-- the cells on the rows and columns of these names
abbrev pub named_cells : List ElementId → List ElementId → List CellRec → List Cell
named_cells rows cols [] = []
named_cells rows cols (c ∷ cs) = named_cell (slice_get rows c.row) (slice_get cols c.col) c ++ named_cells rows cols cs
