-- Intervals that are found by their names.
use Rattle.std.specs.Prelude.{◌≡◌, Bool, false, ◌||◌, List, None}
use Rattle.ft_op.specs.declared.operations.ChannelOp.{ChannelOp}
use Rattle.ft_op.specs.declared.operations.ChannelOp.TheVariants.{Grid, Text}
use Rattle.ft_sumdoc.specs.declared.summary.IntervalRec.{IntervalRec}
use Rattle.ft_interval_store.specs.declared.intervals.Interval.{Interval}
use Rattle.ft_interval_store.specs.Intervals.{Name, interval_of, is_on}

-- the name of an interval as it is shown
abbrev pub name_of_record : IntervalRec → Name
name_of_record i = (i.label, i.id)

-- whether an operation is on the interval of that name
abbrev pub is_operation_on : Name → ChannelOp → Bool
is_operation_on n (Text op) = is_on n op
is_operation_on n (Grid op) = false

-- there are none but of the names that pass the test
abbrev pub HasNoOther : {T : Type 0} → (Name → Bool) → List (Interval T) → Type 0
HasNoOther wanted is = (n : Name) → wanted n ≡ false → interval_of n is ≡ None

-- none were added but of the names that pass the test
abbrev pub AddsNoOther : {T : Type 0} → (Name → Bool) → List (Interval T) → List (Interval T) → Type 0
AddsNoOther wanted old new = (before : Name → Bool) → HasNoOther before old → HasNoOther (λ n. before n || wanted n) new
