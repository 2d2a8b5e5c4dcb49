-- The text of why a call of a tree is refused, as it is shown.
use Rattle.std.specs.Prelude.{ℕ, List, ◌++◌, codes}
use Rattle.std.specs.Fmt.{decimal}
use Rattle.ft_tree.specs.declared.faults.TreeFault.{TreeFault}
use Rattle.ft_tree.specs.declared.faults.TreeFault.TheVariants as fault

-- the text of a fault
abbrev pub tree_fault_text : TreeFault → List ℕ
tree_fault_text (fault.OutOfRange length) = codes "OutOfRange length " ++ decimal length
tree_fault_text fault.OutOfMemory = codes "OutOfMemory"
