-- An operation that adds, changes or deletes an interval is one on intervals.
use Rattle.std.proofs.Common.{◌≡◌, true, refl}
use Rattle.ft_op.specs.declared.operations.TextOp.{TextOp}
use Rattle.ft_op.specs.declared.operations.TextOp.TheVariants.{Group, IntervalAdd, IntervalChange, IntervalDelete, One}
use Rattle.ft_interval_store.specs.State.{is_add, is_change, is_delete, is_interval_operation}

pub add-is-on-intervals : (op : TextOp) → is_add op ≡ true → is_interval_operation op ≡ true
add-is-on-intervals (IntervalAdd label id ends props) e = refl
add-is-on-intervals (IntervalChange label id ends props) e = refl
add-is-on-intervals (IntervalDelete label id) e = refl
add-is-on-intervals (One op) e = e
add-is-on-intervals (Group ops) e = e

pub change-is-on-intervals : (op : TextOp) → is_change op ≡ true → is_interval_operation op ≡ true
change-is-on-intervals (IntervalAdd label id ends props) e = refl
change-is-on-intervals (IntervalChange label id ends props) e = refl
change-is-on-intervals (IntervalDelete label id) e = refl
change-is-on-intervals (One op) e = e
change-is-on-intervals (Group ops) e = e

pub delete-is-on-intervals : (op : TextOp) → is_delete op ≡ true → is_interval_operation op ≡ true
delete-is-on-intervals (IntervalAdd label id ends props) e = refl
delete-is-on-intervals (IntervalChange label id ends props) e = refl
delete-is-on-intervals (IntervalDelete label id) e = refl
delete-is-on-intervals (One op) e = e
delete-is-on-intervals (Group ops) e = e
