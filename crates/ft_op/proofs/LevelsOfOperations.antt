-- How many levels the value has that a well-formed operation is written as.
use Rattle.std.proofs.Common.{◌≤◌, ℕ, List, [], ◌∷◌, Option, Some, None, option_map, codes, arith, ℤ}
use Rattle.std.specs.List.{AllByRecursion}
use Rattle.serde_json.specs.Data.{Data, Items, depth, items_depth, members_depth}
use Rattle.ft_json.specs.Canonical.{IsTextWithin, value_of}
use Rattle.ft_json.proofs.Back.{StandsFor-IsTextWithin}
use Rattle.ft_props.specs.Keys.{Characters}
use Rattle.ft_props.specs.Properties.{PropertySet, ValueBytes}
use Rattle.ft_props.specs.declared.properties.Adjust.{Adjust}
use Rattle.ft_op.specs.declared.operations.Seg.{Seg}
use Rattle.ft_op.specs.declared.operations.Seg.TheVariants.{Chars, Marker}
use Rattle.ft_op.specs.declared.operations.BaseOp.{BaseOp}
use Rattle.ft_op.specs.declared.operations.BaseOp.TheVariants.{Insert, Remove, Annotate}
use Rattle.ft_op.specs.declared.operations.Ends.{Ends}
use Rattle.ft_op.specs.declared.operations.TextOp.{TextOp}
use Rattle.ft_op.specs.declared.operations.TextOp.TheVariants.{One, Group, IntervalAdd, IntervalChange, IntervalDelete}
use Rattle.ft_op.specs.declared.operations.Target.{Target}
use Rattle.ft_op.specs.declared.operations.Target.TheVariants.{Rows, Cols}
use Rattle.ft_op.specs.declared.operations.CellOp.{CellOp}
use Rattle.ft_op.specs.declared.operations.CellOp.TheVariants.{SpliceIn, SpliceOut, Set}
use Rattle.ft_op.specs.declared.operations.GridOp.{GridOp}
use Rattle.ft_op.specs.declared.operations.GridOp.TheVariants as grid
use Rattle.ft_op.specs.declared.operations.ChannelOp.{ChannelOp}
use Rattle.ft_op.specs.declared.operations.ChannelOp.TheVariants.{Text, Grid}
use Rattle.ft_op.specs.WellFormed.{IsPropertySet, IsSetValue, IsWellFormed, IsWellFormedBase, IsWellFormedCell, IsWellFormedGrid, IsWellFormedText}
use Rattle.ft_op.specs.Written.{given_adjust, given_end, given_set, given_start, written, written_adjustment, written_base, written_cell, written_characters, written_grid_op, written_group, written_interval, written_items, written_number, written_pairs, written_segment, written_set, written_target, written_text_op, written_value}
use Rattle.ft_op.proofs.WrittenFields.{fields_within, HasAtMost}
use Rattle.ft_op.proofs.CanonicalOperations.{adjustment_fields, characters_fields, marker_fields, insertion_fields, removal_fields, annotation_fields, interval_fields, group_fields}

pub value_levels : (v : ValueBytes) → IsTextWithin 100 v → depth (value_of v) ≤ 100
value_levels v h = (StandsFor-IsTextWithin 100 v (omega arith) h).shallow

pub pairs_levels : {V : Type 0} (written_as : V → Data) (levels : ℕ) (pairs : List (Characters × V)) → AllByRecursion (λ p. depth (written_as p.1) ≤ levels) pairs → members_depth (written_pairs written_as pairs) ≤ levels
pairs_levels written_as levels [] h = omega arith
pairs_levels written_as levels (p ∷ pairs) h = let first = h.0 in omega (arith, pairs_levels written_as levels pairs h.1)

pub items_levels : {A : Type 0} (P : A → Type 0) (written_as : A → Data) (levels : ℕ) → ((x : A) → P x → depth (written_as x) ≤ levels) → (xs : List A) → AllByRecursion P xs → items_depth (written_items written_as xs) ≤ levels
items_levels P written_as levels f [] h = omega arith
items_levels P written_as levels f (x ∷ xs) h = omega (arith, f x h.0, items_levels P written_as levels f xs h.1)

set_value_levels : (v : Option ValueBytes) → IsSetValue v → depth (written_value v) ≤ 100
set_value_levels None h = omega arith
set_value_levels (Some v) h = value_levels v h.0

set_values_levels : (set : PropertySet) → IsPropertySet set → AllByRecursion (λ p. depth (written_value p.1) ≤ 100) set
set_values_levels [] h = tt
set_values_levels (p ∷ set) h = (set_value_levels p.1 h.0, set_values_levels set h.1)

set_levels : (set : PropertySet) → IsPropertySet set → depth (written_set set) ≤ 101
set_levels set h = omega (arith, pairs_levels written_value 100 set (set_values_levels set h))

given_set_levels : (set : PropertySet) → IsPropertySet set → HasAtMost 101 (given_set set)
given_set_levels [] h = tt
given_set_levels (p ∷ set) h = set_levels (p ∷ set) h

bound_levels : (levels : ℕ) (o : Option ℤ) → HasAtMost levels (option_map written_number o)
bound_levels levels None = tt
bound_levels levels (Some z) = omega arith

adjustment_levels : (a : Adjust) → depth (written_adjustment a) ≤ 1
adjustment_levels a =
    let within = fields_within 0 (adjustment_fields a) (omega arith, (bound_levels 0 a.max, (bound_levels 0 a.min, tt))) in
    omega (arith, within)

all_adjustments_levels : (adjust : List (Characters × Adjust)) → AllByRecursion (λ p. depth (written_adjustment p.1) ≤ 1) adjust
all_adjustments_levels [] = tt
all_adjustments_levels (p ∷ adjust) = (adjustment_levels p.1, all_adjustments_levels adjust)

adjustments_levels : (adjust : List (Characters × Adjust)) → HasAtMost 101 (given_adjust adjust)
adjustments_levels [] = tt
adjustments_levels (p ∷ adjust) = omega (arith, pairs_levels written_adjustment 1 (p ∷ adjust) (all_adjustments_levels (p ∷ adjust)))

characters_levels : (text : Characters) (o : Option Data) → HasAtMost 101 o → depth (written_characters text o) ≤ 102
characters_levels text None h = omega arith
characters_levels text (Some props) h = omega (arith, fields_within 101 (characters_fields text props) (h, (omega arith, tt)))

segment_levels : (seg : Seg) (set : PropertySet) → IsPropertySet set → depth (written_segment seg set) ≤ 102
segment_levels (Chars text) set h = characters_levels text (given_set set) (given_set_levels set h)
segment_levels (Marker n) set h = omega (arith, fields_within 101 (marker_fields n set) (omega arith, (given_set_levels set h, tt)))

base_levels : (op : BaseOp) → IsWellFormedBase op → depth (written_base op) ≤ 103
base_levels (Insert p seg props) h =
    omega (arith, fields_within 102 (insertion_fields p seg props) (omega arith, (segment_levels seg props h.2, (omega arith, tt))))
base_levels (Remove p q) h = omega (arith, fields_within 102 (removal_fields p q) (omega arith, (omega arith, (omega arith, tt))))
base_levels (Annotate p q changes) h =
    let within = fields_within 101 (annotation_fields p q changes) (
      adjustments_levels changes.adjust,
      (omega arith, (omega arith, (set_levels changes.props h.1, (omega arith, tt)))),
    ) in
    omega (arith, within)

ends_levels : (ends : Option Ends) → HasAtMost 101 (given_start ends) × HasAtMost 101 (given_end ends)
ends_levels None = (tt, tt)
ends_levels (Some e) = (omega arith, omega arith)

interval_levels : (word : List ℕ) (label id : Characters) (ends : Option Ends) (set : PropertySet) → IsPropertySet set → depth (written_interval word label id ends set) ≤ 105
interval_levels word label id ends set h =
    let numbers = ends_levels ends in
    let within = fields_within 101 (interval_fields word label id ends set) (
      numbers.1,
      (omega arith, (omega arith, (omega arith, (given_set_levels set h, (numbers.0, tt))))),
    ) in
    omega (arith, within)

group_levels : (ops : Items) → items_depth ops ≤ 103 → depth (written_group ops) ≤ 105
group_levels ops h = let within = fields_within 104 (group_fields ops) (omega arith, (omega arith, tt)) in omega (arith, within)

text_levels : (op : TextOp) → IsWellFormedText op → depth (written_text_op op) ≤ 105
text_levels (One op) h = omega (arith, base_levels op h)
text_levels (Group ops) h = group_levels _ (items_levels IsWellFormedBase written_base 103 base_levels ops h)
text_levels (IntervalAdd label id ends props) h = interval_levels (codes "add") label id (Some ends) props h.1
text_levels (IntervalChange label id ends props) h = interval_levels (codes "change") label id ends props h.1
text_levels (IntervalDelete label id) h = interval_levels (codes "delete") label id None [] tt

target_levels : (list : Target) → depth (written_target list) ≤ 0
target_levels Rows = omega arith
target_levels Cols = omega arith

cell_levels : (op : CellOp) → IsWellFormedCell op → depth (written_cell op) ≤ 103
cell_levels (SpliceIn list p n) h = let target = target_levels list in omega arith
cell_levels (SpliceOut list p q) h = let target = target_levels list in omega arith
cell_levels (Set i j v) h = omega (arith, value_levels v h.2)

grid_levels : (op : GridOp) → IsWellFormedGrid op → depth (written_grid_op op) ≤ 105
grid_levels (grid.One op) h = omega (arith, cell_levels op h)
grid_levels (grid.Group ops) h = group_levels _ (items_levels IsWellFormedCell written_cell 103 cell_levels ops h)

pub op_levels : (op : ChannelOp) → IsWellFormed op → depth (written op) ≤ 105
op_levels (Text op) h = text_levels op h
op_levels (Grid op) h = grid_levels op h
