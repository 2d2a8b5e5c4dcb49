-- The kinds of operations of the text.
use Rattle.std.proofs.Common.{◌≡◌, true, [], ◌∷◌, refl}
use Rattle.ft_interval_store.specs.State.{is_interval_operation}
use Rattle.ft_op.specs.declared.operations.TextOp.{TextOp}
use Rattle.ft_op.specs.declared.operations.TextOp.TheVariants.{One, Group, IntervalAdd, IntervalChange, IntervalDelete}
use Rattle.ft_op.specs.Operation.{OnIntervals, text_sub_operations}

-- one on an interval is a sub-operation of its own
pub one_on_intervals : (op : TextOp) → is_interval_operation op ≡ true → text_sub_operations op ≡ OnIntervals op ∷ []
one_on_intervals (One op) h = (cc)
one_on_intervals (Group ops) h = (cc)
one_on_intervals (IntervalAdd label id ends props) h = refl
one_on_intervals (IntervalChange label id ends props) h = refl
one_on_intervals (IntervalDelete label id) h = refl
