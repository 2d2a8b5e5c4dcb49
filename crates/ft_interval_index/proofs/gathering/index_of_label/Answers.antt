use Rattle.std.proofs.Common.{◌+◌, ◌^◌, ◌≤◌, Option, length, subst}
use Rattle.ft_interval_store.specs.State.{text_elements}
use Rattle.ft_interval_index.specs.Indexes.{LabelIndex, index_of, list_in}
use Rattle.ft_interval_index.proofs.Overlapping.{few-items, few-labelled}
use Rattle.ft_interval_index.proofs.gathering.index_of_label.Goals as goal

pub returns-clause-depth : goal.returns-clause-depth
returns-clause-depth c =
    subst (λ (o : Option LabelIndex). 4 ^ (list_in o).depth ≤ length (list_in o).items + 1) c.of_label-index.ensures (c.order_is_kept.ensures
    c.args.label.now)

pub returns-clause-few : goal.returns-clause-few
returns-clause-few c =
    let label = c.args.label.now in
    let tree = c.requires.0 in
    few-items (length (text_elements tree)) tree.refs c.args.store.now.acked label (index_of label c.args.indexes.now)
    c.first_stage-first.ensures.names (c.requires.1 label)

pub returns-clause-labelled : goal.returns-clause-labelled
returns-clause-labelled c =
    let label = c.args.label.now in
    let tree = c.requires.0 in
    few-labelled (length (text_elements tree)) tree.refs c.args.store.now.acked label (index_of label c.args.indexes.now)
    c.first_stage-first.ensures.names (c.requires.1 label)
