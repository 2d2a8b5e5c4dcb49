-- The texts of faults, as they are shown.
use Rattle.std.specs.Prelude.{ℕ, List, ◌++◌, codes}
use Rattle.ft_json.specs.declared.faults.JsonFault.{JsonFault}
use Rattle.ft_json.specs.declared.faults.JsonFault.TheVariants as json
use Rattle.ft_json.specs.declared.faults.FieldFault.{FieldFault}
use Rattle.ft_json.specs.declared.faults.FieldFault.TheVariants as fields
use Rattle.ft_json.specs.Fields.{field_name}

-- the text of a fault of a JSON text or a value
abbrev pub json_fault_text : JsonFault → List ℕ
json_fault_text json.NotUtf8 = codes "NotUtf8"
json_fault_text json.NotJson = codes "NotJson"
json_fault_text json.Fraction = codes "Fraction"
json_fault_text json.TooDeep = codes "TooDeep"
json_fault_text json.OutOfMemory = codes "OutOfMemory"

-- the text of a fault of a field
abbrev pub field_fault_text : FieldFault → List ℕ
field_fault_text (fields.Missing field) = codes "Missing " ++ field_name field
field_fault_text (fields.WrongKind field) = codes "WrongKind " ++ field_name field
field_fault_text fields.OutOfMemory = codes "OutOfMemory"
