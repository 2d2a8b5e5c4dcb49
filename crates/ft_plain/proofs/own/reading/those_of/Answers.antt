use Rattle.std.proofs.Common.{rules, ◌∙◌, ap, filter}
use Rattle.std.proofs.lemmas.Fn.{filter_same}
use Rattle.ft_op.specs.Operation.{sub_operations}
use Rattle.ft_changes.specs.Beside.{is_changed_by}
use Rattle.ft_plain.proofs.own.reading.those_of.Goals as goal

pub returns : goal.returns
returns c =
    let test = is_changed_by (sub_operations c.args.op.now) in
    c.of.ensures
    ∙ filter_same _ test _ (λ x b f' k. search rules) c.into_items-items.result.items _ c.retain.ensures.filtered
    ∙ ap (filter test) c.into_items-items.ensures
