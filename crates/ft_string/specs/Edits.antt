-- Edits of a shared text: which are short, how many elements the client sees before one, and refusals of intervals as those of edits.
use Rattle.std.specs.Prelude.{ℕ, ◌≤◌, Bool, true, false, length}
use Rattle.ft_msg.specs.declared.faults.EditFault.{EditFault}
use Rattle.ft_msg.specs.declared.faults.EditFault.TheVariants.{IdInUse, NoSuchInterval, OutOfMemory, OutOfRange}
use Rattle.ft_interval_store.specs.declared.faults.IntervalFault.{IntervalFault}
use Rattle.ft_interval_store.specs.declared.faults.IntervalFault.TheVariants as interval
use Rattle.ft_base.specs.Scan.{len}
use Rattle.ft_base.specs.Visibility.{seen_at}
use Rattle.ft_string.specs.State.{TextState}
use Rattle.ft_op.specs.declared.operations.BaseOp.TheVariants.{Insert}
use Rattle.ft_op.specs.declared.operations.TextOp.{TextOp}
use Rattle.ft_op.specs.declared.operations.TextOp.TheVariants.{One}
use Rattle.ft_tree_leaves.specs.TextRuns.{longest_run}
use Rattle.ft_op.specs.Operation.{segment_contents}

-- a single insertion of no more characters than a leaf may have, or of a marker
abbrev pub IsShort : TextOp → Type 0
IsShort (One (Insert p seg props)) = length (segment_contents seg) ≤ longest_run
IsShort _ = ⊥

-- how many elements the client sees
abbrev pub seen_count : TextState → ℕ
seen_count s = len (λ e. seen_at e.stamps 18446744073709551615) s.elements

-- the refusal of an edit of intervals as that of an edit
abbrev pub edit_fault_of : IntervalFault → EditFault
edit_fault_of interval.IdInUse = IdInUse
edit_fault_of interval.NoSuchInterval = NoSuchInterval
edit_fault_of (interval.OutOfRange l) = OutOfRange l
edit_fault_of interval.OutOfMemory = OutOfMemory

-- whether it is a refusal, and not OutOfMemory
abbrev pub is_refusal : IntervalFault → Bool
is_refusal interval.OutOfMemory = false
is_refusal _ = true
