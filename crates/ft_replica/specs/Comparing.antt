-- Which of what is shown beside the lists is compared.
use Rattle.std.specs.Prelude.{Bool, true, false, ◌||◌, cond, List, [], filter, map}
use Rattle.std.specs.List.{list_any}
use Rattle.ft_op.specs.declared.operations.ChannelOp.{ChannelOp}
use Rattle.ft_op.specs.declared.operations.ChannelOp.TheVariants.{Grid, Text}
use Rattle.ft_op.specs.Operation.{sub_operations}
use Rattle.ft_op.specs.Stages.{Stage}
use Rattle.ft_sumdoc.specs.declared.summary.IntervalRec.{IntervalRec}
use Rattle.ft_changes.specs.Beside.{is_changed_by}
use Rattle.ft_changes.specs.Laws.{sets_cell}
use Rattle.ft_changes.specs.Shown.{ShownContent}
use Rattle.ft_replica.specs.declared.comparing.Compared.{Compared}
use Rattle.ft_replica.specs.declared.comparing.ComparedIntervals.{ComparedIntervals}
use Rattle.ft_replica.specs.declared.comparing.ComparedIntervals.TheVariants.{All, OfOperation, OfOperationAndStages}

-- for another client's message with this operation: cells where it sets some; of intervals those that it or a pending stage adds,
-- changes or deletes, if it moves the ends of the others as it moves the lists, else all
abbrev pub compared_by : Bool → ChannelOp → Compared
compared_by moves_alike op = record { cells = list_any sets_cell (sub_operations op); intervals = cond moves_alike OfOperationAndStages All }

-- whether it is an operation of the table
abbrev pub is_of_table : ChannelOp → Bool
is_of_table (Text op) = false
is_of_table (Grid op) = true

-- for an edit of the client's own: cells where it is one of the table; of intervals those that it adds, changes or deletes
abbrev pub compared_by_edit : ChannelOp → Compared
compared_by_edit op = record { cells = is_of_table op; intervals = OfOperation }

-- the intervals that are compared with a step of this operation, where these stages are pending
abbrev pub compared_intervals : ComparedIntervals → ChannelOp → List Stage → List IntervalRec → List IntervalRec
compared_intervals All op stages is = is
compared_intervals OfOperation op stages is = filter (is_changed_by (sub_operations op)) is
compared_intervals OfOperationAndStages op stages is =
    filter (λ i. is_changed_by (sub_operations op) i || is_changed_by (map (λ t. t.sub_operation) stages) i) is

-- what is shown, without what isn't compared
abbrev pub compared_part : Compared → ChannelOp → List Stage → ShownContent → ShownContent
compared_part compared op stages s = record s {
  intervals = compared_intervals compared.intervals op stages s.intervals;
  cells = cond compared.cells s.cells [];
}
