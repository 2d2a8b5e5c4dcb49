use Rattle.std.proofs.Common.{rules, ◌||◌, ◌∙◌, ap, filter, map}
use Rattle.std.proofs.lemmas.Fn.{filter_same}
use Rattle.ft_op.specs.Operation.{sub_operations}
use Rattle.ft_op.specs.Stages.{Stage}
use Rattle.ft_sumdoc.specs.declared.summary.IntervalRec.{IntervalRec}
use Rattle.ft_changes.specs.Beside.{is_changed_by}
use Rattle.ft_plain.proofs.own.reading.those_around.Goals as goal

pub returns : goal.returns
returns c =
    let test = λ (i : IntervalRec).
    is_changed_by (sub_operations c.args.op.now) i || is_changed_by (map (λ (t : Stage). t.sub_operation) c.args.stages.now) i in
    c.of.ensures
    ∙ filter_same _ test _ (λ x b f' k. search rules) c.into_items-items.result.items _ c.retain.ensures.filtered
    ∙ ap (filter test) c.into_items-items.ensures
