-- The units of a vector without their handles, and the cells by the places of their units.
use Rattle.std.specs.Prelude.{ℕ, ◌+◌, true, nat_eq, Bool, List, [], ◌∷◌, ◌++◌, Option, map}
use Rattle.std.specs.Option.{option_and_then, option_map}
use Rattle.ft_sumdoc.specs.declared.summary.CellRec.{CellRec}
use Rattle.ft_base.specs.Scan.{rank}
use Rattle.ft_props.specs.Properties.{ValueBytes}
use Rattle.ft_props.specs.Element.{GridUnit, NamelessElement}
use Rattle.ft_tree_leaves.specs.Elements.{TreeElement}
use Rattle.ft_msg.specs.Content.{cell_record}
use Rattle.ft_perm.specs.Vectors.{VectorState, vector_elements}
use Rattle.ft_cells.specs.CellTables.{CellList, CellState, cell_at, unless_null}

-- a unit without its handle
abbrev pub shown_unit : TreeElement ℕ → NamelessElement
shown_unit e = record { content = GridUnit; stamps = e.stamps; by = e.by; props = e.overlay.acked; pending = e.overlay.pending }

-- the units of a vector in order
abbrev pub units_of : VectorState → List (TreeElement ℕ)
units_of v = vector_elements v.tree

-- the same without their handles
abbrev pub shown_units : VectorState → List NamelessElement
shown_units v = map shown_unit (units_of v)

-- whether it is the unit with this handle
abbrev pub has_handle : ℕ → TreeElement ℕ → Bool
has_handle handle e = nat_eq e.unit handle

-- the place of a handle in the whole list, if one is given
abbrev pub place_of_handle : VectorState → Option ℕ → Option ℕ
place_of_handle v handle = option_map (λ h. rank (has_handle h) (λ _. true) (units_of v)) handle

-- the acknowledged value of a cell, if it has one that isn't null
abbrev pub acked_value : CellState → Option ValueBytes
acked_value cell = option_and_then unless_null cell.acked

-- the values of a row at the places of its columns, from column j on
abbrev pub placed_row : {C : Type 0} → (C → Option ValueBytes) → ℕ → ℕ → List C → List CellRec
placed_row value i j [] = []
placed_row value i j (col ∷ cols) = cell_record i j (value col) ++ placed_row value i (j + 1) cols

-- the values of rows, from row i on
abbrev pub placed_cells : {R C : Type 0} → (R → C → Option ValueBytes) → List C → ℕ → List R → List CellRec
placed_cells value cols i [] = []
placed_cells value cols i (row ∷ rows) = placed_row (value row) i 0 cols ++ placed_cells value cols (i + 1) rows

-- the acknowledged value of the cell of two units
abbrev pub unit_value : CellList → TreeElement ℕ → TreeElement ℕ → Option ValueBytes
unit_value cells row col = acked_value (cell_at cells row.unit col.unit)
