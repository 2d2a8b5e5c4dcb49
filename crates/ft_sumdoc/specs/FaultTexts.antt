-- The texts of the faults of summaries, as they are shown.
use Rattle.std.specs.Prelude.{ℕ, List, ◌++◌, codes}
use Rattle.std.specs.Fmt.{decimal}
use Rattle.ft_json.specs.Fields.{field_name}
use Rattle.ft_sumdoc.specs.declared.summary.SumCause.{SumCause}
use Rattle.ft_sumdoc.specs.declared.summary.SumCause.TheVariants as cause
use Rattle.ft_sumdoc.specs.declared.summary.SumFault.{SumFault}
use Rattle.ft_sumdoc.specs.declared.summary.SumFault.TheVariants.{Malformed, Version, BadStamp, BadCount, OutOfMemory}

-- the text of the cause of a summary's fault
abbrev pub summary_cause_text : SumCause → List ℕ
summary_cause_text cause.NotUtf8 = codes "NotUtf8"
summary_cause_text cause.NotJson = codes "NotJson"
summary_cause_text cause.Fraction = codes "Fraction"
summary_cause_text cause.TooDeep = codes "TooDeep"
summary_cause_text (cause.Missing field) = codes "Missing " ++ field_name field
summary_cause_text (cause.WrongKind field) = codes "WrongKind " ++ field_name field

-- the text of a summary's fault
abbrev pub summary_fault_text : SumFault → List ℕ
summary_fault_text (Malformed fault) = codes "Malformed " ++ summary_cause_text fault
summary_fault_text (Version n) = codes "Version " ++ decimal n
summary_fault_text (BadStamp place) = codes "BadStamp " ++ decimal place
summary_fault_text (BadCount said found) = codes "BadCount said " ++ (decimal said ++ (codes " found " ++ decimal found))
summary_fault_text OutOfMemory = codes "OutOfMemory"
