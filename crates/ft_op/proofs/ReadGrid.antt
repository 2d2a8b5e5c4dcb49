-- A written operation of the grid is read back.
use Rattle.std.proofs.Common.{◌≡◌, ℕ, false, List, [], ◌∷◌, map, Option, Some, None, Ok, codes, refl, leb-true, le-ltb, lt-ltb, arith, ◌^◌}
use Rattle.std.specs.Prelude.{IsTrue}
use Rattle.std.specs.List.{AllByRecursion}
use Rattle.serde_json.specs.Data.{Data, string, object}
use Rattle.ft_json.specs.Canonical.{value_of}
use Rattle.ft_json.specs.declared.fields.Field.TheVariants.{Col, Count, Kind, Ops, Pos1, Row, Target as TargetField, Value}
use Rattle.ft_json.specs.Fields.{field_name}
use Rattle.ft_json.specs.Reading.{count}
use Rattle.ft_props.specs.Properties.{ValueBytes}
use Rattle.ft_op.specs.declared.operations.Target.{Target}
use Rattle.ft_op.specs.declared.operations.Target.TheVariants.{Rows, Cols}
use Rattle.ft_op.specs.declared.operations.CellOp.{CellOp}
use Rattle.ft_op.specs.declared.operations.CellOp.TheVariants.{SpliceIn, SpliceOut, Set}
use Rattle.ft_op.specs.declared.operations.GridOp.{GridOp}
use Rattle.ft_op.specs.declared.operations.GridOp.TheVariants.{One, Group}
use Rattle.ft_op.specs.Reading.{read_each}
use Rattle.ft_op.specs.GridGrammar.{cell_op, cell_write, grid_op, group, group_item, is_group, splice, splice_in, splice_out, target_of, typed_splice}
use Rattle.ft_op.specs.WellFormed.{is_count, is_range, IsWellFormedCell, IsWellFormedGrid}
use Rattle.ft_op.specs.Written.{written_cell, written_count, written_grid_op, written_items, written_target}
use Rattle.ft_op.proofs.WrittenFields.{fields}
use Rattle.ft_op.proofs.CanonicalOperations.{group_fields, set_fields, splice_in_fields, splice_out_fields}
use Rattle.ft_op.proofs.ReadFields.{array_is, count_is, field_is, found, range_is}
use Rattle.ft_op.proofs.ReadProperties.{kept_again}

target_back : (list : Target) → target_of (written_target list) ≡ Ok list
target_back Rows = refl
target_back Cols = refl

splice_in_back : (list : Target) (p n : ℕ) → IsWellFormedCell (SpliceIn list p n) → splice_in list (object (fields (splice_in_fields list p n))) ≡ Ok (SpliceIn list p n)
unfolding splice_in field_name
splice_in_back list p n h =
    let fs = splice_in_fields list p n in
    let few = leb-true n 1000000 h.1 in
    let small = lt-ltb n (2 ^ 53) (omega arith) in
    rw (count_is fs Pos1 p refl h.0, count_is fs Count n refl small, le-ltb 1000000 n few)

splice_out_back : (list : Target) (p q : ℕ) → IsTrue (is_range p q) → splice_out list (object (fields (splice_out_fields list p q))) ≡ Ok (SpliceOut list p q)
unfolding splice_out field_name
splice_out_back list p q h = rw (range_is (splice_out_fields list p q) p q refl refl h)

-- ---- an operation with a target

targeted : (fs : List (List ℕ × Option Data)) (list : Target) (n : ℕ) (op : CellOp) → found (field_name TargetField) fs ≡ Some (written_target list) → found (field_name Kind) fs ≡ Some (written_count n)
    → IsTrue (is_count n) → typed_splice list (object (fields fs)) n ≡ Ok op → cell_op (object (fields fs)) ≡ Ok op
unfolding cell_op splice
targeted fs list n op h g small e =
    rw (field_is fs TargetField (Some (written_target list)) h, target_back list, count_is fs Kind n g small, e)

no_group_with_target : (fs : List (List ℕ × Option Data)) (list : Target) → found (field_name TargetField) fs ≡ Some (written_target list) → is_group (object (fields fs)) ≡ false
unfolding is_group
no_group_with_target fs list h = rw (field_is fs TargetField (Some (written_target list)) h)

-- ---- a write to a cell

write_back : (i j : ℕ) (v : ValueBytes) → IsWellFormedCell (Set i j v) → cell_write (object (fields (set_fields i j v))) ≡ Ok (Set i j v)
unfolding cell_write field_name
write_back i j v h =
    let fs = set_fields i j v in
    rw (count_is fs Row i refl h.0, count_is fs Col j refl h.1, field_is fs Value (Some (value_of v)) refl, kept_again v h.2)

set_back : (i j : ℕ) (v : ValueBytes) → IsWellFormedCell (Set i j v) → cell_op (object (fields (set_fields i j v))) ≡ Ok (Set i j v)
unfolding cell_op field_name
set_back i j v h =
    let fs = set_fields i j v in
    rw (field_is fs TargetField None refl, field_is fs Kind (Some (string (codes "set"))) refl, write_back i j v h)

set_is_no_group : (i j : ℕ) (v : ValueBytes) → is_group (object (fields (set_fields i j v))) ≡ false
unfolding is_group field_name count
set_is_no_group i j v =
    let fs = set_fields i j v in rw (field_is fs TargetField None refl, field_is fs Kind (Some (string (codes "set"))) refl)

-- ---- operations

cell_back : (op : CellOp) → IsWellFormedCell op → cell_op (written_cell op) ≡ Ok op
unfolding field_name
cell_back (SpliceIn list p n) h = targeted (splice_in_fields list p n) list 0 (SpliceIn list p n) refl refl refl (splice_in_back list p n h)
cell_back (SpliceOut list p q) h = targeted (splice_out_fields list p q) list 1 (SpliceOut list p q) refl refl refl (splice_out_back list p q h)
cell_back (Set i j v) h = set_back i j v h

no_group : (op : CellOp) → is_group (written_cell op) ≡ false
unfolding field_name
no_group (SpliceIn list p n) = no_group_with_target (splice_in_fields list p n) list refl
no_group (SpliceOut list p q) = no_group_with_target (splice_out_fields list p q) list refl
no_group (Set i j v) = set_is_no_group i j v

item_of : (fs : List (List ℕ × Option Data)) (op : CellOp) → is_group (object (fields fs)) ≡ false → cell_op (object (fields fs)) ≡ Ok op → group_item (object (fields fs)) ≡ Ok op
unfolding group_item
item_of fs op h e = rw (h, e)

item_back : (op : CellOp) → IsWellFormedCell op → group_item (written_cell op) ≡ Ok op
item_back (SpliceIn list p n) h = item_of (splice_in_fields list p n) _ (no_group (SpliceIn list p n)) (cell_back (SpliceIn list p n) h)
item_back (SpliceOut list p q) h = item_of (splice_out_fields list p q) _ (no_group (SpliceOut list p q)) (cell_back (SpliceOut list p q) h)
item_back (Set i j v) h = item_of (set_fields i j v) _ (no_group (Set i j v)) (cell_back (Set i j v) h)

items_back : (ops : List CellOp) → AllByRecursion IsWellFormedCell ops → read_each group_item (map written_cell ops) ≡ Ok ops
items_back [] h = refl
items_back (op ∷ ops) h = rw (item_back op h.0, items_back ops h.1)

one_of : (fs : List (List ℕ × Option Data)) (op : CellOp) → is_group (object (fields fs)) ≡ false → cell_op (object (fields fs)) ≡ Ok op → grid_op (object (fields fs)) ≡ Ok (One op)
unfolding grid_op
one_of fs op h e = rw (h, e)

one_back : (op : CellOp) → IsWellFormedCell op → grid_op (written_cell op) ≡ Ok (One op)
one_back (SpliceIn list p n) h = one_of (splice_in_fields list p n) _ (no_group (SpliceIn list p n)) (cell_back (SpliceIn list p n) h)
one_back (SpliceOut list p q) h = one_of (splice_out_fields list p q) _ (no_group (SpliceOut list p q)) (cell_back (SpliceOut list p q) h)
one_back (Set i j v) h = one_of (set_fields i j v) _ (no_group (Set i j v)) (cell_back (Set i j v) h)

group_back : (ops : List CellOp) → AllByRecursion IsWellFormedCell ops → grid_op (written_grid_op (Group ops)) ≡ Ok (Group ops)
unfolding grid_op is_group group field_name count
group_back ops h =
    let fs = group_fields (written_items written_cell ops) in
    rw (
      field_is fs TargetField None refl,
      field_is fs Kind (Some (written_count 3)) refl,
      array_is written_cell fs Ops ops refl,
      items_back ops h,
    )

pub grid_op_back : (op : GridOp) → IsWellFormedGrid op → grid_op (written_grid_op op) ≡ Ok op
grid_op_back (One op) h = one_back op h
grid_op_back (Group ops) h = group_back ops h
