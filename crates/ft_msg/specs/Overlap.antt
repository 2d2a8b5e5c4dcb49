-- The shown intervals of a client that meet a range of its text, and how many nodes of an index are read to find them.
use Rattle.std.specs.Prelude.{ℕ, ◌+◌, ◌*◌, ◌≤◌, ◌^◌, Bool, true, false, List, filter}
use Rattle.ft_base.specs.Scan.{len}
use Rattle.ft_sumdoc.specs.declared.summary.IntervalRec.{IntervalRec}
use Rattle.ft_sumdoc.specs.Meeting.{meets}
use Rattle.ft_props.specs.Properties.{Characters}
use Rattle.ft_op.specs.Operation.{OnIntervals, SubOperation}
use Rattle.ft_op.specs.Stages.{Stage}
use Rattle.ft_msg.specs.Client.{NaiveClient, stages_of}
use Rattle.ft_msg.specs.Content.{content}

-- the shown intervals of a label that meet the places from a to b, by rising id
abbrev pub overlap : NaiveClient → Characters → ℕ → ℕ → List IntervalRec
overlap x label a b = filter (meets label a b) (content x).intervals

-- whether a sub-operation is on intervals
abbrev pub is_on_intervals : SubOperation → Bool
is_on_intervals (OnIntervals op) = true
is_on_intervals _ = false

-- how many pending stages of a client are on intervals
abbrev pub pending_on_intervals : NaiveClient → ℕ
pending_on_intervals x = len (λ (t : Stage). is_on_intervals t.sub_operation) (stages_of x)

-- from one count of node reads to the other are no more than a search for k of n items in a balanced tree takes, of which each
-- block but the root has four children or more
abbrev pub ReadsFewNodes : ℕ → ℕ → ℕ → ℕ → Type 0
ReadsFewNodes n k before after = (d : ℕ) × (4 ^ d ≤ n + 1) × (after ≤ before + 9 * (d + 1) * (k + 1))
