use Rattle.std.proofs.Common.{◌||◌, ◌∙◌, List, ap, append-nil, filter, map, sym}
use Rattle.ft_op.specs.Operation.{sub_operations}
use Rattle.ft_op.specs.Stages.{Stage}
use Rattle.ft_sumdoc.specs.declared.summary.IntervalRec.{IntervalRec}
use Rattle.ft_msg.specs.Client.{stages_of}
use Rattle.ft_changes.specs.Beside.{is_changed_by}
use Rattle.ft_changes.specs.Shown.{shown_content}
use Rattle.ft_plain.specs.Own.{PlainState, client_at}
use Rattle.ft_replica.specs.declared.comparing.ComparedIntervals.{ComparedIntervals}
use Rattle.ft_replica.specs.Comparing.{compared_intervals}
use Rattle.ft_plain.proofs.own.PlainOwn.compared_intervals.Goals as goal

pub returns-in-All : goal.returns-in-All
returns-in-All c =
    let x = client_at c.args.last c.args.self.now in
    let some = λ (which : ComparedIntervals). compared_intervals which c.args.op.now (stages_of x) (shown_content x).intervals in
    c.in_ok-intervals.ensures ∙ sym (ap some c.in-All.is)

pub returns-in-OfOperation : goal.returns-in-OfOperation
returns-in-OfOperation c =
    let x = client_at c.args.last c.args.self.now in
    let some = λ (which : ComparedIntervals). compared_intervals which c.args.op.now (stages_of x) (shown_content x).intervals in
    c.those_of.ensures ∙ ap (filter (is_changed_by (sub_operations c.args.op.now))) c.in_ok-intervals.ensures ∙ sym (ap some c.in-OfOperation.is)

pub returns-in-OfOperationAndStages : goal.returns-in-OfOperationAndStages
returns-in-OfOperationAndStages c =
    let x = client_at c.args.last c.args.self.now in
    let op = c.args.op.now in
    let around = λ (stages : List Stage) (is : List IntervalRec).
    filter (λ i. is_changed_by (sub_operations op) i || is_changed_by (map (λ (t : Stage). t.sub_operation) stages) i) is in
    let some = λ (which : ComparedIntervals). compared_intervals which op (stages_of x) (shown_content x).intervals in
    let stages = c.as_slice.ensures ∙ ap (λ (d : PlainState). d.stages) c.self.view_is ∙ sym (append-nil c.args.self.now.stages) in
    c.those_around.ensures ∙ ap (around c.as_slice.result.now) c.in_ok-intervals.ensures ∙ ap (λ ts. around ts (shown_content x).intervals) stages
    ∙ sym (ap some c.in-OfOperationAndStages.is)
