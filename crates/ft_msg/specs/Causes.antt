-- The faults of texts, fields and operations, as causes.
use Rattle.ft_json.specs.declared.faults.FieldFault.{FieldFault}
use Rattle.ft_json.specs.declared.faults.FieldFault.TheVariants as field_fault
use Rattle.ft_json.specs.declared.faults.JsonFault.{JsonFault}
use Rattle.ft_json.specs.declared.faults.JsonFault.TheVariants as json
use Rattle.ft_op.specs.declared.operations.OpFault.{OpFault}
use Rattle.ft_op.specs.declared.operations.OpFault.TheVariants as op
use Rattle.ft_msg.specs.declared.faults.Cause.{Cause}
use Rattle.ft_msg.specs.declared.faults.Cause.TheVariants as cause

-- the fault of a field, as a cause
abbrev pub cause_of_field : FieldFault → Cause
cause_of_field (field_fault.Missing f) = cause.Missing f
cause_of_field (field_fault.WrongKind f) = cause.WrongKind f
cause_of_field field_fault.OutOfMemory = cause.OutOfMemory

-- the fault of an operation, as a cause
abbrev pub cause_of_op : OpFault → Cause
cause_of_op (op.Missing f) = cause.Missing f
cause_of_op (op.WrongKind f) = cause.WrongKind f
cause_of_op (op.UnknownType n) = cause.UnknownType n
cause_of_op (op.Reversed a b) = cause.Reversed a b
cause_of_op op.CountLimit = cause.CountLimit
cause_of_op op.NestedGroup = cause.NestedGroup
cause_of_op op.Fraction = cause.Fraction
cause_of_op op.TooDeep = cause.TooDeep
cause_of_op op.OutOfMemory = cause.OutOfMemory

-- the fault of a text, as a cause
abbrev pub cause_of_json : JsonFault → Cause
cause_of_json json.NotUtf8 = cause.NotUtf8
cause_of_json json.NotJson = cause.NotJson
cause_of_json json.Fraction = cause.Fraction
cause_of_json json.TooDeep = cause.TooDeep
cause_of_json json.OutOfMemory = cause.OutOfMemory
