-- What leads from nothing to what a view shows.
use Rattle.std.specs.Prelude.{ℕ, ◌+◌, ◌-◌, cond, nat_eq, List, [], ◌∷◌, ◌++◌, drop, map, take}
use Rattle.ft_props.specs.Properties.{Characters}
use Rattle.ft_op.specs.declared.operations.Seg.TheVariants.{Chars, Marker}
use Rattle.ft_op.specs.declared.operations.Target.{Target}
use Rattle.ft_op.specs.declared.operations.Target.TheVariants.{Rows, Cols}
use Rattle.ft_sumdoc.specs.declared.summary.CellRec.{CellRec}
use Rattle.ft_msg.specs.declared.views.Run.{Run}
use Rattle.ft_msg.specs.declared.views.Spot.{Spot}
use Rattle.ft_msg.specs.Content.{ViewContent}
use Rattle.ft_changes.specs.declared.changes.ViewChange.{ViewChange}
use Rattle.ft_changes.specs.declared.changes.ViewChange.TheVariants.{Put, PutUnits, SetCell, SetInterval, Style}
use Rattle.ft_changes.specs.Shown.{ShownContent}
use Rattle.ft_changes.specs.Told.{unless_no_elements}

-- no element, no row or column, no cell, no interval
abbrev pub nothing_shown : ShownContent
nothing_shown = record { elements = []; intervals = []; rows = 0; cols = 0; cells = [] }

-- characters from place i on, as one change
abbrev pub put_text : ℕ → Characters → List ViewChange
put_text i text = unless_no_elements text (Put i (Chars text) [])

-- characters and markers from place i on: the characters up to the next marker as one change
abbrev pub put_elements : ℕ → Characters → List Spot → List ViewChange
put_elements i text [] = put_text i text
put_elements i text (m ∷ ms) =
    put_text i (take (m.pos - i) text) ++ Put m.pos (Marker m.ref_type) [] ∷ put_elements (m.pos + 1) (drop (m.pos - i) text) ms

-- a run of properties
abbrev pub style_of : Run → ViewChange
style_of run = Style run.start (run.end - run.start) run.props

-- so many rows or columns, if there are any
abbrev pub put_units : Target → ℕ → List ViewChange
put_units target n = cond (nat_eq n 0) [] (PutUnits target 0 n ∷ [])

-- a cell
abbrev pub set_of : CellRec → ViewChange
set_of cell = SetCell cell.row cell.col cell.value

-- all that a view shows: its elements, then their properties, then rows and columns, cells, and intervals
abbrev pub told_from_nothing : ViewContent → List ViewChange
told_from_nothing v =
    put_elements 0 v.text v.markers
    ++ (map style_of v.runs ++ (put_units Rows v.rows ++ (put_units Cols v.cols ++ (map set_of v.cells ++ map SetInterval v.intervals))))
