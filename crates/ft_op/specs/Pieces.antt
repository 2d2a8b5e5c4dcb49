-- How a pending stage is sent again after a reconnection: as pieces whose positions are those of now, and which
-- together make one operation for each edit.
use Rattle.std.specs.Prelude.{ℕ, ◌-◌, Bool, false, cond, ◌&&◌, nat_eq, List, [], ◌∷◌, Option, Some, None, map, flat_map}
use Rattle.std.specs.List.{list_any}
use Rattle.ft_op.specs.declared.operations.Ends.{Ends}
use Rattle.ft_op.specs.declared.operations.BaseOp.{BaseOp}
use Rattle.ft_op.specs.declared.operations.BaseOp.TheVariants.{Insert, Remove, Annotate}
use Rattle.ft_op.specs.declared.operations.CellOp.{CellOp}
use Rattle.ft_op.specs.declared.operations.CellOp.TheVariants.{SpliceIn, SpliceOut, Set}
use Rattle.ft_op.specs.declared.operations.TextOp.{TextOp}
use Rattle.ft_op.specs.declared.operations.TextOp.TheVariants.{One, Group, IntervalAdd, IntervalChange}
use Rattle.ft_op.specs.declared.operations.GridOp.TheVariants as grid
use Rattle.ft_op.specs.declared.operations.ChannelOp.{ChannelOp}
use Rattle.ft_op.specs.declared.operations.ChannelOp.TheVariants.{Text, Grid}
use Rattle.ft_base.specs.Scan.{rank}
use Rattle.ft_props.specs.Element.{ListElement, ElementId, id, has_id, seen}
use Rattle.ft_props.specs.Steps.{is_annotated_by, is_removed_by, lowered_runs, stage_position, marked_runs}
use Rattle.ft_op.specs.Operation.{OnGrid, OnIntervals, OnText, SubOperation, segment_contents, sub_operations}
use Rattle.ft_op.specs.Intervals.{NamedElements, settle_elements}
use Rattle.ft_op.specs.Document.{Document, rows_or_cols}
use Rattle.ft_op.specs.Stages.{Stage}
use Rattle.ft_props.specs.Slide.{end_number}

-- the piece, unless the list is empty
abbrev pub unless_empty : {A : Type 0} → List A → SubOperation → List SubOperation
unless_empty [] sub_operation = []
unless_empty (_ ∷ _) sub_operation = sub_operation ∷ []

-- the pieces of a sub-operation of the text: an insertion of nothing has none, a removal and an annotation one for each
-- run of marked elements
abbrev pub text_pieces : ℕ → List ListElement → BaseOp → List SubOperation
text_pieces k xs (Insert p seg props) = unless_empty (segment_contents seg) (OnText (Insert (stage_position k xs) seg props))
text_pieces k xs (Remove p q) = map (λ r. OnText (Remove r.0 r.1)) (lowered_runs 0 (marked_runs k (is_removed_by k) xs))
text_pieces k xs (Annotate p q changes) = map (λ r. OnText (Annotate r.0 r.1 changes)) (marked_runs k (is_annotated_by k) xs)

-- the ends of an interval operation as numbers at stage k
abbrev pub ends_in : ℕ → List ListElement → NamedElements → Ends
ends_in k xs names = record { start = end_number k xs names.first; end = end_number k xs names.second }

-- the interval operation with its ends as they are at stage k
abbrev pub interval_piece : ℕ → List ListElement → NamedElements → TextOp → TextOp
interval_piece k xs names (IntervalAdd label id ends props) = IntervalAdd label id (ends_in k xs names) props
interval_piece k xs names (IntervalChange label id (Some ends) props) = IntervalChange label id (Some (ends_in k xs names)) props
interval_piece k xs names op = op

-- whether an element is named and seen at stage k
abbrev pub is_named_and_seen : ℕ → List ListElement → Option ElementId → Bool
is_named_and_seen k xs None = false
is_named_and_seen k xs (Some x) = list_any (λ e. has_id x e && seen k e) xs

-- the number of a named unit at stage k
abbrev pub position_of_named : ℕ → List ListElement → Option ElementId → ℕ
position_of_named k xs None = 0
position_of_named k xs (Some x) = rank (has_id x) (seen k) xs

-- the pieces of a sub-operation of the grid; a cell write has none where its row or column isn't seen
abbrev pub grid_pieces : ℕ → Document → NamedElements → CellOp → List SubOperation
grid_pieces k doc names (SpliceIn target p count) =
    cond (nat_eq count 0) [] (OnGrid (SpliceIn target (stage_position k (rows_or_cols target doc).items) count) ∷ [])
grid_pieces k doc names (SpliceOut target p q) =
    let xs = (rows_or_cols target doc).items in
    map (λ r. OnGrid (SpliceOut target r.0 r.1)) (lowered_runs 0 (marked_runs k (is_removed_by k) xs))
grid_pieces k doc names (Set i j value) =
    cond (is_named_and_seen k doc.rows.items names.first && is_named_and_seen k doc.cols.items names.second)
    (OnGrid (Set (position_of_named (k - 1) doc.rows.items names.first) (position_of_named (k - 1) doc.cols.items names.second) value) ∷ [])
    []

-- the pieces of a stage
abbrev pub pieces : Document → Stage → List SubOperation
pieces doc t = elim t.sub_operation [
  | OnText op ↦ text_pieces t.stage doc.text.items op
  | OnIntervals op ↦ OnIntervals (interval_piece t.stage doc.text.items (settle_elements doc.text.items t.stage t.names) op) ∷ []
  | OnGrid op ↦ grid_pieces t.stage doc t.names op
]

-- the piece as a member of a group of the text
abbrev pub base_op_of : SubOperation → List BaseOp
base_op_of (OnText op) = op ∷ []
base_op_of _ = []

-- the piece as a member of a group of the grid
abbrev pub cell_op_of : SubOperation → List CellOp
cell_op_of (OnGrid op) = op ∷ []
cell_op_of _ = []

-- the operation that pieces make: one piece bare, several as a group, none for none
abbrev pub op_of : List SubOperation → Option ChannelOp
op_of [] = None
op_of (OnText op ∷ []) = Some (Text (One op))
op_of (OnText op ∷ p ∷ sub_operations) = Some (Text (Group (op ∷ flat_map base_op_of (p ∷ sub_operations))))
op_of (OnIntervals op ∷ sub_operations) = Some (Text op)
op_of (OnGrid op ∷ []) = Some (Grid (grid.One op))
op_of (OnGrid op ∷ p ∷ sub_operations) = Some (Grid (grid.Group (op ∷ flat_map cell_op_of (p ∷ sub_operations))))
