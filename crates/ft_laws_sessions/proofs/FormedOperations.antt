-- An operation that is read of a regular value is well formed.
use Rattle.std.proofs.Common.{◌≡◌, ℕ, List, [], Option, Some, None, Result, Ok, refl, subst, codes, bytes_eq, nat_eq, is_some}
use Rattle.std.specs.Prelude.{IsFalse}
use Rattle.serde_json.specs.Data.{Data, null, boolean, number, string, array, object}
use Rattle.serde_json.specs.Find.{as_str}
use Rattle.ft_json.specs.declared.fields.Field.TheVariants.{Adjust as AdjustField, Col, Id, Interval, Kind, Label, Ops, Pos1, Props, Row, Seg, Target as TargetField, Value}
use Rattle.ft_json.specs.Reading.{array_field, count_field, field, given_field, pairs, text_field}
use Rattle.ft_props.specs.Properties.{Characters, PropertySet, ValueBytes, value_of}
use Rattle.ft_props.specs.declared.properties.Adjust.{Adjust}
use Rattle.ft_op.specs.declared.operations.BaseOp.{BaseOp}
use Rattle.ft_op.specs.declared.operations.BaseOp.TheVariants.{Insert, Annotate}
use Rattle.ft_op.specs.declared.operations.TextOp.{TextOp}
use Rattle.ft_op.specs.declared.operations.TextOp.TheVariants.{One, Group, IntervalAdd, IntervalChange, IntervalDelete}
use Rattle.ft_op.specs.declared.operations.CellOp.{CellOp}
use Rattle.ft_op.specs.declared.operations.CellOp.TheVariants.{Set}
use Rattle.ft_op.specs.declared.operations.GridOp.{GridOp}
use Rattle.ft_op.specs.declared.operations.GridOp.TheVariants as grid
use Rattle.ft_op.specs.declared.operations.OpFault.{OpFault}
use Rattle.ft_op.specs.Faults.{op_fault}
use Rattle.ft_op.specs.Reading.{◌>>=◌, given_properties, is_object, kept_value, property_set_of, range, read_each, read_given_set, read_named, set_value}
use Rattle.ft_op.specs.TextGrammar.{adjustment, adjustment_beside, adjustments_of, annotation, base_op, given_adjustments, given_adjustments_of, group, group_item, insertion, insertion_of, interval_add, interval_change, interval_delete, interval_ends, interval_op, named_interval_op, new_ends, op_with, segment, text_op, typed_op}
use Rattle.ft_op.specs.GridGrammar.{cell_op, cell_op_with, cell_write, grid_op, is_group, is_set, splice, target_of, untargeted, write_of}
use Rattle.ft_op.specs.GridGrammar as grid_grammar
use Rattle.ft_op.specs.WellFormed.{AreAdjustments, IsAdjustment, IsPropertySet, IsSetValue, IsWellFormedBase, IsWellFormedCell, IsWellFormedGrid, IsWellFormedText}
use Rattle.ft_op.proofs.ReadNumbers.{adjustment-formed, count_field-is_count, either_way, interval_ends-formed, new_ends-formed, range-is_range, removal-formed, segment-is_segment, typed_splice-formed}
use Rattle.ft_op.proofs.ReadSteps.{fault_step, read_step, same_value, test_failed, test_held}
use Rattle.ft_laws_sessions.proofs.RegularValues.{AreRegularIfPaired, HasRegularValue, IsRegular, IsRegularIfGiven, array_field-regular, each-formed, field-regular, given_field-regular, kept-within, pairs-regular, set_value-formed}

-- ---- properties

abbrev HasSetValue : Characters × Option ValueBytes → Type 0
HasSetValue p = IsSetValue p.1

abbrev set_value_of : Characters → Data → Result (Option ValueBytes) OpFault
set_value_of key d = set_value d

named-formed : (p : Characters × Data) (q : Characters × Option ValueBytes) → HasRegularValue p → read_named set_value_of p ≡ Ok q → HasSetValue q
named-formed p q r e =
    let value = read_step (set_value p.1) _ q e in
    subst HasSetValue (same_value (p.0, value.0) q _ refl value.2) (set_value-formed p.1 value.0 r value.1)

set-formed : (o : Option (List (Characters × Data))) (set : PropertySet) → AreRegularIfPaired o → property_set_of o ≡ Ok set → IsPropertySet set
set-formed None set r e = (cc)
set-formed (Some ps) set r e = each-formed HasRegularValue HasSetValue (read_named set_value_of) named-formed ps set r e

given_set-formed : (o : Option Data) (set : PropertySet) → IsRegularIfGiven o → read_given_set o ≡ Ok set → IsPropertySet set
given_set-formed None set r e = subst IsPropertySet (same_value [] set _ refl e) tt
given_set-formed (Some d) set r e = set-formed (pairs d) set (pairs-regular d r) e

properties-formed : (d : Data) (set : PropertySet) → IsRegular d → given_properties d ≡ Ok set → IsPropertySet set
unfolding given_properties
properties-formed d set r e = given_set-formed (given_field d Props) set (given_field-regular d Props r) e

-- ---- adjustments

-- the adjustment is one, of a key that the set doesn't have
abbrev IsBeside : PropertySet → Characters × Adjust → Type 0
IsBeside set p = IsFalse (is_some (value_of p.0 set)) × IsAdjustment p.1

beside-formed : (set : PropertySet) (p : Characters × Data) (q : Characters × Adjust) → HasRegularValue p → read_named (adjustment_beside set) p ≡ Ok q → IsBeside set q
unfolding adjustment_beside
beside-formed set p q r e =
    let a = read_step (adjustment_beside set p.0 p.1) _ q e in
    let tested = test_failed (is_some (value_of p.0 set)) _ (adjustment p.1) a.0 a.1 in
    subst (IsBeside set) (same_value (p.0, a.0) q _ refl a.2) (tested.0, adjustment-formed p.1 a.0 tested.1)

adjustments_of-formed : (set : PropertySet) (o : Option (List (Characters × Data))) (ps : List (Characters × Adjust)) → AreRegularIfPaired o
    → adjustments_of set o ≡ Ok ps → AreAdjustments set ps
adjustments_of-formed set None ps r e = (cc)
adjustments_of-formed set (Some qs) ps r e = each-formed HasRegularValue (IsBeside set) (read_named (adjustment_beside set)) (beside-formed set) qs ps r e

if_given-formed : (set : PropertySet) (o : Option Data) (ps : List (Characters × Adjust)) → IsRegularIfGiven o → given_adjustments_of set o ≡ Ok ps → AreAdjustments set ps
if_given-formed set None ps r e = subst (AreAdjustments set) (same_value [] ps _ refl e) tt
if_given-formed set (Some d) ps r e = adjustments_of-formed set (pairs d) ps (pairs-regular d r) e

adjustments-formed : (set : PropertySet) (d : Data) (ps : List (Characters × Adjust)) → IsRegular d → given_adjustments set d ≡ Ok ps → AreAdjustments set ps
unfolding given_adjustments
adjustments-formed set d ps r e = if_given-formed set (given_field d AdjustField) ps (given_field-regular d AdjustField r) e

-- ---- operations of a group of the text

insertion_of-formed : (d : Data) (p : ℕ) (o : Option Data) (op : BaseOp) → count_field d Pos1 ≡ Ok p → IsRegularIfGiven o → insertion_of p o ≡ Ok op → IsWellFormedBase op
insertion_of-formed d p None op h r e = (cc)
insertion_of-formed d p (Some s) op h r e =
    let seg = read_step (segment s) _ op e in
    let props = read_step (given_properties s) _ op seg.2 in
    subst IsWellFormedBase (same_value (Insert p seg.0 props.0) op _ refl props.2)
    (count_field-is_count d Pos1 p h, segment-is_segment s seg.0 seg.1, properties-formed s props.0 r props.1)

insertion-formed : (d : Data) (op : BaseOp) → IsRegular d → insertion d ≡ Ok op → IsWellFormedBase op
unfolding insertion
insertion-formed d op r e =
    let p = fault_step op_fault (count_field d Pos1) _ op e in
    insertion_of-formed d p.0 (field d Seg) op p.1 (field-regular d Seg r) p.2

annotation-formed : (d : Data) (op : BaseOp) → IsRegular d → annotation d ≡ Ok op → IsWellFormedBase op
unfolding annotation
annotation-formed d op r e =
    let places = read_step (range d) _ op e in
    let props = read_step (given_properties d) _ op places.2 in
    let adjust = read_step (given_adjustments props.0 d) _ op props.2 in
    subst IsWellFormedBase (same_value (Annotate places.0.0 places.0.1 (record { props = props.0; adjust = adjust.0 })) op _ refl adjust.2)
    (range-is_range d places.0 places.1, properties-formed d props.0 r props.1, adjustments-formed props.0 d adjust.0 r adjust.1)

base_op-formed : (d : Data) (n : ℕ) (op : BaseOp) → IsRegular d → base_op d n ≡ Ok op → IsWellFormedBase op
unfolding base_op
base_op-formed d n op r e =
    either_way IsWellFormedBase (nat_eq n 0) _ _ op (insertion-formed d op r)
    (either_way IsWellFormedBase (nat_eq n 1) _ _ op (removal-formed d op) (λ h. annotation-formed d op r (test_held (nat_eq n 2) _ _ op h).1)) e

group_item-formed : (d : Data) (op : BaseOp) → IsRegular d → group_item d ≡ Ok op → IsWellFormedBase op
unfolding group_item
group_item-formed d op r e =
    let n = fault_step op_fault (count_field d Kind) _ op (test_held (is_object d) _ _ op e).1 in
    base_op-formed d n.0 op r (test_failed (nat_eq n.0 3) _ _ op n.2).1

-- ---- operations of the text

group-formed : (d : Data) (op : TextOp) → IsRegular d → group d ≡ Ok op → IsWellFormedText op
unfolding group
group-formed d op r e =
    let items = fault_step op_fault (array_field d Ops) _ op e in
    let ops = read_step (read_each group_item items.0) _ op items.2 in
    subst IsWellFormedText (same_value (Group ops.0) op _ refl ops.2)
    (each-formed IsRegular IsWellFormedBase group_item group_item-formed items.0 ops.0 (array_field-regular d Ops items.0 r items.1) ops.1)

one-formed : (d : Data) (n : ℕ) (op : TextOp) → IsRegular d → (base_op d n >>= (λ base. Ok (One base))) ≡ Ok op → IsWellFormedText op
one-formed d n op r e =
    let base = read_step (base_op d n) _ op e in
    subst IsWellFormedText (same_value (One base.0) op _ refl base.2) (base_op-formed d n base.0 r base.1)

typed_op-formed : (d : Data) (n : ℕ) (op : TextOp) → IsRegular d → typed_op d n ≡ Ok op → IsWellFormedText op
typed_op-formed d n op r e = either_way IsWellFormedText (nat_eq n 3) _ _ op (group-formed d op r) (one-formed d n op r) e

add-formed : (d : Data) (op : TextOp) → IsRegular d → interval_add d ≡ Ok op → IsWellFormedText op
unfolding interval_add
add-formed d op r e =
    let label = fault_step op_fault (text_field d Label) _ op e in
    let id = fault_step op_fault (text_field d Id) _ op label.2 in
    let ends = read_step (interval_ends d) _ op id.2 in
    let props = read_step (given_properties d) _ op ends.2 in
    subst IsWellFormedText (same_value (IntervalAdd label.0 id.0 ends.0 props.0) op _ refl props.2)
    (interval_ends-formed d ends.0 ends.1, properties-formed d props.0 r props.1)

change-formed : (d : Data) (op : TextOp) → IsRegular d → interval_change d ≡ Ok op → IsWellFormedText op
unfolding interval_change
change-formed d op r e =
    let label = fault_step op_fault (text_field d Label) _ op e in
    let id = fault_step op_fault (text_field d Id) _ op label.2 in
    let ends = read_step (new_ends d) _ op id.2 in
    let props = read_step (given_properties d) _ op ends.2 in
    subst IsWellFormedText (same_value (IntervalChange label.0 id.0 ends.0 props.0) op _ refl props.2)
    (new_ends-formed d ends.0 ends.1, properties-formed d props.0 r props.1)

delete-formed : (d : Data) (op : TextOp) → interval_delete d ≡ Ok op → IsWellFormedText op
unfolding interval_delete
delete-formed d op e =
    let label = fault_step op_fault (text_field d Label) _ op e in
    let id = fault_step op_fault (text_field d Id) _ op label.2 in
    subst IsWellFormedText (same_value (IntervalDelete label.0 id.0) op _ refl id.2) tt

named_op-formed : (d : Data) (word : List ℕ) (op : TextOp) → IsRegular d → named_interval_op d word ≡ Ok op → IsWellFormedText op
named_op-formed d word op r e =
    either_way IsWellFormedText (bytes_eq word (codes "add")) _ _ op (add-formed d op r)
    (either_way IsWellFormedText (bytes_eq word (codes "change")) _ _ op (change-formed d op r)
    (λ h. delete-formed d op (test_held (bytes_eq word (codes "delete")) _ _ op h).1)) e

interval_op-formed : (d word : Data) (op : TextOp) → IsRegular d → interval_op d word ≡ Ok op → IsWellFormedText op
unfolding interval_op
interval_op-formed d null op r e = (cc)
interval_op-formed d (boolean b) op r e = (cc)
interval_op-formed d (number n) op r e = (cc)
interval_op-formed d (string word) op r e = named_op-formed d word op r e
interval_op-formed d (array ds) op r e = (cc)
interval_op-formed d (object ms) op r e = (cc)

op_with-formed : (d : Data) (o : Option Data) (op : TextOp) → IsRegular d → op_with d o ≡ Ok op → IsWellFormedText op
op_with-formed d (Some word) op r e = interval_op-formed d word op r e
op_with-formed d None op r e = let n = fault_step op_fault (count_field d Kind) _ op e in typed_op-formed d n.0 op r n.2

pub text_op-formed : (d : Data) (op : TextOp) → IsRegular d → text_op d ≡ Ok op → IsWellFormedText op
unfolding text_op
text_op-formed d op r e = op_with-formed d (field d Interval) op r (test_held (is_object d) _ _ op e).1

-- ---- operations of the grid

splice-formed : (d target : Data) (op : CellOp) → splice d target ≡ Ok op → IsWellFormedCell op
unfolding splice
splice-formed d target op e =
    let list = read_step (target_of target) _ op e in
    let n = fault_step op_fault (count_field d Kind) _ op list.2 in
    typed_splice-formed list.0 d n.0 op n.2

write-formed : (d : Data) (i j : ℕ) (o : Option Data) (op : CellOp) → count_field d Row ≡ Ok i → count_field d Col ≡ Ok j → IsRegularIfGiven o → write_of i j o ≡ Ok op
    → IsWellFormedCell op
write-formed d i j None op h k r e = (cc)
write-formed d i j (Some v) op h k r e =
    let text = read_step (kept_value v) _ op e in
    subst IsWellFormedCell (same_value (Set i j text.0) op _ refl text.2) (count_field-is_count d Row i h, count_field-is_count d Col j k, kept-within v text.0 r text.1)

cell_write-formed : (d : Data) (op : CellOp) → IsRegular d → cell_write d ≡ Ok op → IsWellFormedCell op
unfolding cell_write
cell_write-formed d op r e =
    let i = fault_step op_fault (count_field d Row) _ op e in
    let j = fault_step op_fault (count_field d Col) _ op i.2 in
    write-formed d i.0 j.0 (field d Value) op i.1 j.1 (field-regular d Value r) j.2

untargeted-formed : (d : Data) (o : Option Data) (op : CellOp) → IsRegular d → untargeted d o ≡ Ok op → IsWellFormedCell op
untargeted-formed d None op r e = (cc)
untargeted-formed d (Some type) op r e = cell_write-formed d op r (test_held (is_set (as_str type)) _ _ op e).1

cell_op_with-formed : (d : Data) (o : Option Data) (op : CellOp) → IsRegular d → cell_op_with d o ≡ Ok op → IsWellFormedCell op
cell_op_with-formed d (Some target) op r e = splice-formed d target op e
cell_op_with-formed d None op r e = untargeted-formed d (field d Kind) op r e

cell_op-formed : (d : Data) (op : CellOp) → IsRegular d → cell_op d ≡ Ok op → IsWellFormedCell op
unfolding cell_op
cell_op-formed d op r e = cell_op_with-formed d (field d TargetField) op r e

cell_item-formed : (d : Data) (op : CellOp) → IsRegular d → grid_grammar.group_item d ≡ Ok op → IsWellFormedCell op
unfolding grid_grammar.group_item
cell_item-formed d op r e =
    let inside = test_held (is_object d) _ _ op e in
    cell_op-formed d op r (test_failed (is_group d) _ _ op inside.1).1

cells-formed : (d : Data) (op : GridOp) → IsRegular d → grid_grammar.group d ≡ Ok op → IsWellFormedGrid op
unfolding grid_grammar.group
cells-formed d op r e =
    let items = fault_step op_fault (array_field d Ops) _ op e in
    let ops = read_step (read_each grid_grammar.group_item items.0) _ op items.2 in
    subst IsWellFormedGrid (same_value (grid.Group ops.0) op _ refl ops.2)
    (each-formed IsRegular IsWellFormedCell grid_grammar.group_item cell_item-formed items.0 ops.0 (array_field-regular d Ops items.0 r items.1) ops.1)

one_cell-formed : (d : Data) (op : GridOp) → IsRegular d → (cell_op d >>= (λ cell. Ok (grid.One cell))) ≡ Ok op → IsWellFormedGrid op
one_cell-formed d op r e =
    let cell = read_step (cell_op d) _ op e in
    subst IsWellFormedGrid (same_value (grid.One cell.0) op _ refl cell.2) (cell_op-formed d cell.0 r cell.1)

pub grid_op-formed : (d : Data) (op : GridOp) → IsRegular d → grid_op d ≡ Ok op → IsWellFormedGrid op
unfolding grid_op
grid_op-formed d op r e =
    either_way IsWellFormedGrid (is_group d) _ _ op (cells-formed d op r) (one_cell-formed d op r) (test_held (is_object d) _ _ op e).1
