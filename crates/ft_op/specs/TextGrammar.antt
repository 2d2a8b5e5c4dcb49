-- Which operation of the text a JSON value is, or its first fault in the order in which its fields are tested.
use Rattle.std.specs.Prelude.{ℕ, ℤ, pos, negsuc, int_lt, Bool, not, ◌&&◌, ◌||◌, nat_eq, is_some, List, [], Option, Some, None, Result, Ok, Err, chars, codes, bytes_eq, if◌then◌else◌}
use Rattle.std.specs.Ordering.{int_eq}
use Rattle.serde_json.specs.Data.{Data, string}
use Rattle.ft_json.specs.declared.fields.Field.{Field}
use Rattle.ft_json.specs.declared.fields.Field.TheVariants.{Adjust as AdjustField, Contents, Delta, End, Id, Interval, Kind, Label, Marker as MarkerField, Max, Min, Ops, Pos1, RefType, Seg, Start, Text as TextField}
use Rattle.ft_json.specs.Reading.{array_field, count_field, field, given_field, num_field, pairs, signed_field, text_field}
use Rattle.ft_props.specs.declared.properties.Adjust.{Adjust}
use Rattle.ft_props.specs.Properties.{Characters, PropertySet, value_of}
use Rattle.ft_op.specs.declared.operations.Seg.{Seg as Segment}
use Rattle.ft_op.specs.declared.operations.Seg.TheVariants.{Chars, Marker}
use Rattle.ft_op.specs.declared.operations.BaseOp.{BaseOp}
use Rattle.ft_op.specs.declared.operations.BaseOp.TheVariants.{Insert, Remove, Annotate}
use Rattle.ft_op.specs.declared.operations.Ends.{Ends}
use Rattle.ft_op.specs.declared.operations.TextOp.{TextOp}
use Rattle.ft_op.specs.declared.operations.TextOp.TheVariants.{One, Group, IntervalAdd, IntervalChange, IntervalDelete}
use Rattle.ft_op.specs.declared.operations.OpFault.{OpFault}
use Rattle.ft_op.specs.declared.operations.OpFault.TheVariants.{Missing, WrongKind, UnknownType, Reversed, NestedGroup}
pub use Rattle.ft_op.specs.Reading.{is_object, range}
use Rattle.ft_op.specs.Types.{insertion_type, removal_type, annotation_type, group_type}
use Rattle.ft_op.specs.Reading.{◌>>=◌, needed, read_each, read_named, given_properties}

-- ---- insertions

-- the characters that the field `text` of a segment is
abbrev pub characters_of : Data → Result Segment OpFault
characters_of (string text) = Ok (Chars (chars text))
characters_of _ = Err (WrongKind Seg)

-- the marker that the field `marker` of a segment is
abbrev pub marker_of : Option Data → Result Segment OpFault
marker_of None = Err (WrongKind Seg)
marker_of (Some d) =
    if is_object d then
    (do
      ref_type ← needed (count_field d RefType)
      Ok (Marker ref_type))
    else Err (WrongKind Seg)

-- the segment that an object is: its field `text` decides, if it is there, and else its field `marker`
abbrev pub object_segment : Data → Option Data → Result Segment OpFault
object_segment d (Some text) = characters_of text
object_segment d None = marker_of (field d MarkerField)

-- the segment that a value is: a string, or an object
unfoldable pub segment : Data → Result Segment OpFault
segment d = if is_object d then object_segment d (field d TextField) else characters_of d

-- the insertion at this position of what the field `seg` is; its properties stand in it
abbrev pub insertion_of : ℕ → Option Data → Result BaseOp OpFault
insertion_of p None = Err (Missing Seg)
insertion_of p (Some d) = do
  seg ← segment d
  props ← given_properties d
  Ok (Insert p seg props)

-- the insertion that an object is
unfoldable pub insertion : Data → Result BaseOp OpFault
insertion d = do
  p ← needed (count_field d Pos1)
  insertion_of p (field d Seg)

-- ---- removals

-- the removal that an object is
unfoldable pub removal : Data → Result BaseOp OpFault
removal d = do
  r ← range d
  Ok (Remove r.0 r.1)

-- ---- annotations

-- a bound of an adjustment: absent or null means none
unfoldable pub bound : Data → Field → Result (Option ℤ) OpFault
bound d f =
    if is_some (given_field d f) then
    (do
      z ← needed (signed_field d f)
      Ok (Some z))
    else Ok None

-- the adjustment of these numbers
abbrev pub adjustment_of : ℤ → Option ℤ → Option ℤ → Result Adjust OpFault
adjustment_of delta (Some min) (Some max) =
    if int_lt max min then Err (Reversed min max) else Ok (record { delta = delta; min = Some min; max = Some max })
adjustment_of delta (Some min) None = Ok (record { delta = delta; min = Some min; max = None })
adjustment_of delta None max = Ok (record { delta = delta; min = None; max = max })

-- the adjustment that a value is
unfoldable pub adjustment : Data → Result Adjust OpFault
adjustment d =
    if is_object d then
    (do
      delta ← needed (signed_field d Delta)
      min ← bound d Min
      max ← bound d Max
      adjustment_of delta min max)
    else Err (WrongKind AdjustField)

-- the adjustment that a value is, of a key that the set doesn't have
unfoldable pub adjustment_beside : PropertySet → Characters → Data → Result Adjust OpFault
adjustment_beside set key d = if is_some (value_of key set) then Err (WrongKind AdjustField) else adjustment d

-- the adjustments of names and values, which rise by their names in a value that was read
abbrev pub adjustments_of : PropertySet → Option (List (Characters × Data)) → Result (List (Characters × Adjust)) OpFault
adjustments_of set None = Err (WrongKind AdjustField)
adjustments_of set (Some ps) = read_each (read_named (adjustment_beside set)) ps

abbrev pub given_adjustments_of : PropertySet → Option Data → Result (List (Characters × Adjust)) OpFault
given_adjustments_of set None = Ok []
given_adjustments_of set (Some d) = adjustments_of set (pairs d)

-- the adjustments of an annotation: absent or null means none
unfoldable pub given_adjustments : PropertySet → Data → Result (List (Characters × Adjust)) OpFault
given_adjustments set d = given_adjustments_of set (given_field d AdjustField)

-- the annotation that an object is
unfoldable pub annotation : Data → Result BaseOp OpFault
annotation d = do
  r ← range d
  props ← given_properties d
  adjust ← given_adjustments props d
  Ok (Annotate r.0 r.1 (record { props = props; adjust = adjust }))

-- ---- groups

-- the operation of this type that may stand in a group
unfoldable pub base_op : Data → ℕ → Result BaseOp OpFault
base_op d n =
    if nat_eq n insertion_type then insertion d
    else (if nat_eq n removal_type then removal d
    else (if nat_eq n annotation_type then annotation d else Err (UnknownType n)))

-- the item of a group that has this type
abbrev pub group_item_of : Data → ℕ → Result BaseOp OpFault
group_item_of d n = if nat_eq n group_type then Err NestedGroup else base_op d n

-- the item of a group that a value is
unfoldable pub group_item : Data → Result BaseOp OpFault
group_item d =
    if is_object d then
    (do
      n ← needed (count_field d Kind)
      group_item_of d n)
    else Err (WrongKind Ops)

-- the group that an object is
unfoldable pub group : Data → Result TextOp OpFault
group d = do
  items ← needed (array_field d Ops)
  ops ← read_each group_item items
  Ok (Group ops)

-- the operation of this type
abbrev pub typed_op : Data → ℕ → Result TextOp OpFault
typed_op d n =
    if nat_eq n group_type then group d
    else (do
      op ← base_op d n
      Ok (One op))

-- ---- intervals

-- whether two ends are allowed: both -1, or in order from 0 on
abbrev pub are_read_ends : ℤ → ℤ → Bool
are_read_ends a b = (int_eq a (negsuc 0) && int_eq b (negsuc 0)) || (not (int_lt a (pos 0)) && not (int_lt b a))

-- the ends of two numbers from -1 on
abbrev pub ends_if_allowed : ℤ → ℤ → Result Ends OpFault
ends_if_allowed a b = if are_read_ends a b then Ok (record { start = a; end = b }) else Err (Reversed a b)

-- the ends that an object has
unfoldable pub interval_ends : Data → Result Ends OpFault
interval_ends d = do
  a ← needed (num_field d Start)
  b ← needed (num_field d End)
  ends_if_allowed a b

-- the new ends that an object has: both, or none
unfoldable pub new_ends : Data → Result (Option Ends) OpFault
new_ends d =
    if is_some (field d Start) || is_some (field d End) then
    (do
      ends ← interval_ends d
      Ok (Some ends))
    else Ok None

-- the new interval that an object is
unfoldable pub interval_add : Data → Result TextOp OpFault
interval_add d = do
  label ← needed (text_field d Label)
  id ← needed (text_field d Id)
  ends ← interval_ends d
  props ← given_properties d
  Ok (IntervalAdd label id ends props)

-- the change of an interval that an object is
unfoldable pub interval_change : Data → Result TextOp OpFault
interval_change d = do
  label ← needed (text_field d Label)
  id ← needed (text_field d Id)
  ends ← new_ends d
  props ← given_properties d
  Ok (IntervalChange label id ends props)

-- the deletion of an interval that an object is
unfoldable pub interval_delete : Data → Result TextOp OpFault
interval_delete d = do
  label ← needed (text_field d Label)
  id ← needed (text_field d Id)
  Ok (IntervalDelete label id)

-- the interval operation of this word
abbrev pub named_interval_op : Data → List ℕ → Result TextOp OpFault
named_interval_op d word =
    if bytes_eq word (codes "add") then interval_add d
    else (if bytes_eq word (codes "change") then interval_change d
    else (if bytes_eq word (codes "delete") then interval_delete d else Err (WrongKind Interval)))

-- the interval operation that the field `interval` tells
unfoldable pub interval_op : Data → Data → Result TextOp OpFault
interval_op d (string word) = named_interval_op d word
interval_op d _ = Err (WrongKind Interval)

-- ---- operations

-- the operation of an object, by its field `interval` if it is there, and else by its type
abbrev pub op_with : Data → Option Data → Result TextOp OpFault
op_with d (Some interval) = interval_op d interval
op_with d None = do
  n ← needed (count_field d Kind)
  typed_op d n

-- the operation of the text that a value is
unfoldable pub text_op : Data → Result TextOp OpFault
text_op d = if is_object d then op_with d (field d Interval) else Err (WrongKind Contents)
