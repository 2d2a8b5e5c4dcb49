-- The text of why a local edit of an interval is refused, as it is shown.
use Rattle.std.specs.Prelude.{ℕ, List, ◌++◌, codes}
use Rattle.std.specs.Fmt.{decimal}
use Rattle.ft_interval_store.specs.declared.faults.IntervalFault.{IntervalFault}
use Rattle.ft_interval_store.specs.declared.faults.IntervalFault.TheVariants as fault

-- the text of a fault
abbrev pub interval_fault_text : IntervalFault → List ℕ
interval_fault_text fault.IdInUse = codes "IdInUse"
interval_fault_text fault.NoSuchInterval = codes "NoSuchInterval"
interval_fault_text (fault.OutOfRange length) = codes "OutOfRange length " ++ decimal length
interval_fault_text fault.OutOfMemory = codes "OutOfMemory"
