-- Pending stages: each sub-operation of a client's own edit is a stage, numbered from 1, until its message comes back.
use Rattle.std.specs.Prelude.{ℕ, List, [], ◌∷◌}
use Rattle.ft_props.specs.Element.{ListElement}
use Rattle.ft_op.specs.Operation.{OnIntervals, SubOperation}
use Rattle.ft_op.specs.Intervals.{Interval, NamedElements, after_interval_operation, settle_ends, settle_elements}

-- a pending stage: its number, its sub-operation, and the elements that this names
pub record Stage : Type 0 where
  pub stage : ℕ
  pub sub_operation : SubOperation
  pub names : NamedElements

-- the intervals after the interval operation of a stage, if it is one
abbrev pub intervals_after_stage : SubOperation → NamedElements → List Interval → List Interval
intervals_after_stage (OnIntervals op) names is = after_interval_operation op names is
intervals_after_stage _ names is = is

-- the intervals after all stages: at each stage every end is settled, and then its operation applied with its own ends
-- settled
abbrev pub shown_intervals : List ListElement → List Interval → List Stage → List Interval
shown_intervals xs is [] = is
shown_intervals xs is (t ∷ stages) =
    shown_intervals xs (intervals_after_stage t.sub_operation (settle_elements xs t.stage t.names) (settle_ends xs t.stage is)) stages
