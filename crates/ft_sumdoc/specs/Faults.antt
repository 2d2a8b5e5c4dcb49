-- The faults of texts, values and fields, as faults of a summary.
use Rattle.std.specs.Prelude.{Result}
use Rattle.ft_json.specs.declared.faults.FieldFault.{FieldFault}
use Rattle.ft_json.specs.declared.faults.FieldFault.TheVariants as field_fault
use Rattle.ft_json.specs.declared.faults.JsonFault.{JsonFault}
use Rattle.ft_json.specs.declared.faults.JsonFault.TheVariants as json
use Rattle.ft_op.specs.Reading.{with_fault}
use Rattle.ft_sumdoc.specs.declared.summary.SumCause.TheVariants.{NotUtf8, NotJson, Fraction, TooDeep, Missing, WrongKind}
use Rattle.ft_sumdoc.specs.declared.summary.SumFault.{SumFault}
use Rattle.ft_sumdoc.specs.declared.summary.SumFault.TheVariants.{Malformed, OutOfMemory}

-- the fault of a text or a value, as one of a summary
abbrev pub fault_of_json : JsonFault → SumFault
fault_of_json json.NotUtf8 = Malformed NotUtf8
fault_of_json json.NotJson = Malformed NotJson
fault_of_json json.Fraction = Malformed Fraction
fault_of_json json.TooDeep = Malformed TooDeep
fault_of_json json.OutOfMemory = OutOfMemory

-- the fault of a field, as one of a summary
abbrev pub fault_of_field : FieldFault → SumFault
fault_of_field (field_fault.Missing f) = Malformed (Missing f)
fault_of_field (field_fault.WrongKind f) = Malformed (WrongKind f)
fault_of_field field_fault.OutOfMemory = OutOfMemory

-- what a field gives, or its fault as one of a summary
abbrev pub field_of_summary : {A : Type 0} → Result A FieldFault → Result A SumFault
field_of_summary r = with_fault fault_of_field r
