-- The faults of operations, and their texts.
use Rattle.std.specs.Prelude.{ℕ, List, ◌++◌, codes}
use Rattle.std.specs.Fmt.{decimal, signed_decimal}
use Rattle.ft_json.specs.declared.faults.FieldFault.{FieldFault}
use Rattle.ft_json.specs.declared.faults.FieldFault.TheVariants as field
use Rattle.ft_json.specs.declared.faults.JsonFault.{JsonFault}
use Rattle.ft_json.specs.declared.faults.JsonFault.TheVariants as json
use Rattle.ft_op.specs.declared.operations.OpFault.{OpFault}
use Rattle.ft_op.specs.declared.operations.OpFault.TheVariants.{Missing, WrongKind, UnknownType, Reversed, CountLimit, NestedGroup, Fraction, TooDeep, OutOfMemory}
use Rattle.ft_json.specs.Fields.{field_name}

-- the fault of a field, as one of an operation
abbrev pub op_fault : FieldFault → OpFault
op_fault (field.Missing f) = Missing f
op_fault (field.WrongKind f) = WrongKind f
op_fault field.OutOfMemory = OutOfMemory

-- why a value isn't kept, as the fault of an operation; a value has no fault of the text that it was read from
abbrev pub value_fault : JsonFault → OpFault
value_fault json.TooDeep = TooDeep
value_fault json.OutOfMemory = OutOfMemory
value_fault json.Fraction = Fraction
value_fault json.NotUtf8 = Fraction
value_fault json.NotJson = Fraction

-- the text of a fault, as it is shown
abbrev pub op_fault_text : OpFault → List ℕ
op_fault_text (Missing f) = codes "Missing " ++ field_name f
op_fault_text (WrongKind f) = codes "WrongKind " ++ field_name f
op_fault_text (UnknownType n) = codes "UnknownType " ++ decimal n
op_fault_text (Reversed a b) = codes "Reversed " ++ (signed_decimal a ++ (codes " " ++ signed_decimal b))
op_fault_text CountLimit = codes "CountLimit"
op_fault_text NestedGroup = codes "NestedGroup"
op_fault_text Fraction = codes "Fraction"
op_fault_text TooDeep = codes "TooDeep"
op_fault_text OutOfMemory = codes "OutOfMemory"
