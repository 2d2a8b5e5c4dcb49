-- The texts of causes and of what is refused, as they are shown.
use Rattle.std.specs.Prelude.{ℕ, ℤ, List, ◌++◌, codes}
use Rattle.std.specs.Fmt.{decimal, signed_decimal}
use Rattle.ft_json.specs.declared.fields.Field.{Field}
use Rattle.ft_json.specs.Fields.{field_name}
use Rattle.ft_msg.specs.declared.faults.Cause.{Cause}
use Rattle.ft_msg.specs.declared.faults.Cause.TheVariants as cause
use Rattle.ft_msg.specs.declared.faults.EditFault.{EditFault}
use Rattle.ft_msg.specs.declared.faults.EditFault.TheVariants as edit
use Rattle.ft_msg.specs.declared.faults.ProcessFault.{ProcessFault}
use Rattle.ft_msg.specs.declared.faults.ProcessFault.TheVariants as processing
use Rattle.ft_msg.specs.declared.faults.LinkFault.{LinkFault}
use Rattle.ft_msg.specs.declared.faults.LinkFault.TheVariants as link
use Rattle.ft_msg.specs.declared.faults.ViewFault.{ViewFault}
use Rattle.ft_msg.specs.declared.faults.ViewFault.TheVariants as viewing
use Rattle.ft_msg.specs.declared.faults.SummaryFault.{SummaryFault}
use Rattle.ft_msg.specs.declared.faults.SummaryFault.TheVariants as summing

-- the text of a cause
abbrev pub cause_text : Cause → List ℕ
cause_text cause.NotUtf8 = codes "NotUtf8"
cause_text cause.NotJson = codes "NotJson"
cause_text cause.Fraction = codes "Fraction"
cause_text cause.TooDeep = codes "TooDeep"
cause_text (cause.Missing field) = codes "Missing " ++ field_name field
cause_text (cause.WrongKind field) = codes "WrongKind " ++ field_name field
cause_text (cause.UnknownType n) = codes "UnknownType " ++ decimal n
cause_text (cause.Reversed a b) = codes "Reversed " ++ (signed_decimal a ++ (codes " " ++ signed_decimal b))
cause_text cause.CountLimit = codes "CountLimit"
cause_text cause.NestedGroup = codes "NestedGroup"
cause_text cause.UnknownWord = codes "UnknownWord"
cause_text cause.OutOfMemory = codes "OutOfMemory"

-- that a client stopped at this number
abbrev pub stopped_text : ℕ → List ℕ
stopped_text seq = codes "Stopped " ++ decimal seq

-- a field with the number that is kept of it and the one that came
abbrev pub bad_numbers_text : Field → ℕ → ℤ → List ℕ
bad_numbers_text field kept got =
    codes "BadNumbers " ++ (field_name field ++ (codes " kept " ++ (decimal kept ++ (codes " got " ++ signed_decimal got))))

-- why an edit is refused
abbrev pub edit_fault_text : EditFault → List ℕ
edit_fault_text edit.OutOfMemory = codes "OutOfMemory"
edit_fault_text (edit.Stopped seq) = stopped_text seq
edit_fault_text edit.IdInUse = codes "IdInUse"
edit_fault_text edit.NoSuchInterval = codes "NoSuchInterval"
edit_fault_text (edit.OutOfRange length) = codes "OutOfRange length " ++ decimal length

-- why a message is refused
abbrev pub process_fault_text : ProcessFault → List ℕ
process_fault_text processing.OutOfMemory = codes "OutOfMemory"
process_fault_text (processing.Stopped seq) = stopped_text seq
process_fault_text (processing.OutOfOrder expected got) = codes "OutOfOrder expected " ++ (decimal expected ++ (codes " got " ++ decimal got))
process_fault_text (processing.BadNumbers field kept got) = bad_numbers_text field kept got
process_fault_text processing.NotSent = codes "NotSent"

-- why a change of the link is refused
abbrev pub link_fault_text : LinkFault → List ℕ
link_fault_text link.OutOfMemory = codes "OutOfMemory"
link_fault_text (link.Stopped seq) = stopped_text seq
link_fault_text link.AlreadyConnected = codes "AlreadyConnected"
link_fault_text link.NotConnected = codes "NotConnected"

-- why there is no view
abbrev pub view_fault_text : ViewFault → List ℕ
view_fault_text viewing.OutOfMemory = codes "OutOfMemory"
view_fault_text (viewing.Stopped seq) = stopped_text seq

-- why there is no summary
abbrev pub no_summary_text : SummaryFault → List ℕ
no_summary_text summing.OutOfMemory = codes "OutOfMemory"
no_summary_text (summing.Stopped seq) = stopped_text seq
no_summary_text (summing.Pending count) = codes "Pending " ++ decimal count
