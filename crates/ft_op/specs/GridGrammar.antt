-- Which operation of the grid a JSON value is, or its first fault in the order in which its fields are tested.
use Rattle.std.specs.Prelude.{ℕ, Bool, not, false, ◌&&◌, nat_eq, nat_lt, is_some, List, Option, Some, None, option_and_then, Result, Ok, Err, codes, bytes_eq, if◌then◌else◌}
use Rattle.serde_json.specs.Data.{Data, string}
use Rattle.serde_json.specs.Find.{as_str}
use Rattle.ft_json.specs.declared.fields.Field.TheVariants.{Col, Contents, Count, Kind, Ops, Pos1, Row, Target as TargetField, Value}
use Rattle.ft_json.specs.Reading.{array_field, count, count_field, field}
use Rattle.ft_op.specs.declared.operations.Target.{Target}
use Rattle.ft_op.specs.declared.operations.Target.TheVariants.{Rows, Cols}
use Rattle.ft_op.specs.declared.operations.CellOp.{CellOp}
use Rattle.ft_op.specs.declared.operations.CellOp.TheVariants.{SpliceIn, SpliceOut, Set}
use Rattle.ft_op.specs.declared.operations.GridOp.{GridOp}
use Rattle.ft_op.specs.declared.operations.GridOp.TheVariants.{One, Group}
use Rattle.ft_op.specs.declared.operations.OpFault.{OpFault}
use Rattle.ft_op.specs.declared.operations.OpFault.TheVariants.{Missing, WrongKind, UnknownType, CountLimit, NestedGroup}
use Rattle.ft_op.specs.Types.{group_type, splice_in_type, splice_limit, splice_out_type}
use Rattle.ft_op.specs.Reading.{◌>>=◌, is_object, kept_value, needed, range, read_each}

-- ---- splices

-- the list that a word names
abbrev pub named_target : List ℕ → Result Target OpFault
named_target word =
    if bytes_eq word (codes "rows") then Ok Rows else (if bytes_eq word (codes "cols") then Ok Cols else Err (WrongKind TargetField))

-- the list that the field `target` names
abbrev pub target_of : Data → Result Target OpFault
target_of (string word) = named_target word
target_of _ = Err (WrongKind TargetField)

-- the splice of new units that an object is, in this list
unfoldable pub splice_in : Target → Data → Result CellOp OpFault
splice_in list d = do
  p ← needed (count_field d Pos1)
  n ← needed (count_field d Count)
  if nat_lt splice_limit n then Err CountLimit else Ok (SpliceIn list p n)

-- the removal of units that an object is, from this list
unfoldable pub splice_out : Target → Data → Result CellOp OpFault
splice_out list d = do
  r ← range d
  Ok (SpliceOut list r.0 r.1)

-- the splice of this type
abbrev pub typed_splice : Target → Data → ℕ → Result CellOp OpFault
typed_splice list d n =
    if nat_eq n splice_in_type then splice_in list d else (if nat_eq n splice_out_type then splice_out list d else Err (UnknownType n))

-- the splice that an object is whose field `target` is this
unfoldable pub splice : Data → Data → Result CellOp OpFault
splice d target = do
  list ← target_of target
  n ← needed (count_field d Kind)
  typed_splice list d n

-- ---- cells

-- the write of what the field `value` is to a cell
abbrev pub write_of : ℕ → ℕ → Option Data → Result CellOp OpFault
write_of i j None = Err (Missing Value)
write_of i j (Some d) = do
  text ← kept_value d
  Ok (Set i j text)

-- the write to a cell that an object is
unfoldable pub cell_write : Data → Result CellOp OpFault
cell_write d = do
  i ← needed (count_field d Row)
  j ← needed (count_field d Col)
  write_of i j (field d Value)

-- ---- operations

-- whether an object is a group: it has no field `target`, and its type is 3
abbrev pub is_group_type : Option ℕ → Bool
is_group_type None = false
is_group_type (Some n) = nat_eq n group_type

unfoldable pub is_group : Data → Bool
is_group d = not (is_some (field d TargetField)) && is_group_type (option_and_then count (field d Kind))

-- the fault of a type that is neither "set" nor a group's
abbrev pub type_fault : Option ℕ → OpFault
type_fault None = WrongKind Kind
type_fault (Some n) = UnknownType n

-- whether the field `type` is "set"
abbrev pub is_set : Option (List ℕ) → Bool
is_set None = false
is_set (Some word) = bytes_eq word (codes "set")

-- the operation without a field `target` whose field `type` is this, where it is no group
abbrev pub untargeted : Data → Option Data → Result CellOp OpFault
untargeted d None = Err (Missing Kind)
untargeted d (Some type) = if is_set (as_str type) then cell_write d else Err (type_fault (count type))

-- the operation of an object that is no group, by its field `target` if it is there
abbrev pub cell_op_with : Data → Option Data → Result CellOp OpFault
cell_op_with d (Some target) = splice d target
cell_op_with d None = untargeted d (field d Kind)

unfoldable pub cell_op : Data → Result CellOp OpFault
cell_op d = cell_op_with d (field d TargetField)

-- the item of a group that a value is
unfoldable pub group_item : Data → Result CellOp OpFault
group_item d = if is_object d then (if is_group d then Err NestedGroup else cell_op d) else Err (WrongKind Ops)

-- the group that an object is
unfoldable pub group : Data → Result GridOp OpFault
group d = do
  items ← needed (array_field d Ops)
  ops ← read_each group_item items
  Ok (Group ops)

-- the operation of an object
abbrev pub object_op : Data → Result GridOp OpFault
object_op d =
    if is_group d then group d
    else (do
      op ← cell_op d
      Ok (One op))

-- the operation of the grid that a value is
unfoldable pub grid_op : Data → Result GridOp OpFault
grid_op d = if is_object d then object_op d else Err (WrongKind Contents)
