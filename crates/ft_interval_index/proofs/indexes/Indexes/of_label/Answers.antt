use Rattle.std.proofs.Common.{ap, ◌∙◌}
use Rattle.ft_interval_index.specs.Indexes.{index_of, labelled_if}
use Rattle.ft_interval_index.proofs.LabelLists.{finds-text, found-index}
use Rattle.ft_interval_index.proofs.indexes.Indexes.of_label.Goals as goal

pub returns : goal.returns
returns c =
    let label = c.args.label.now in
    ap (labelled_if label) c.get.ensures.value
    ∙ found-index label _ (finds-text label c.as_str.result.now c.as_str.utf8 c.as_str.ensures.characters) c.self.inside.by_label.entries
    ∙ ap (index_of label) c.self.view_is
