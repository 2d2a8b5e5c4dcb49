use Rattle.std.proofs.Common.{ℕ, List, sym, subst}
use Rattle.ft_overlap.specs.Items.{AreKnown, IsInOrder}
use Rattle.ft_interval_index.specs.Indexes.{KeepsOtherLabels, LabelIndex, TakesItem, index_of, list_in}
use Rattle.ft_interval_index.specs.ByLabel.{labelled_by}
use Rattle.ft_interval_index.specs.Order.{IsPlaced, list_place}
use Rattle.ft_interval_index.proofs.ListedNames.{unlists-by}
use Rattle.ft_interval_index.proofs.indexes.unlist.Goals as goal

pub take-requires-clause-known : goal.take-requires-clause-known
take-requires-clause-known c =
    subst (λ (xs : List LabelIndex). AreKnown (IsPlaced c.args.tree.now) (list_in (index_of c.args.label.now xs)).items) (sym c.indexes.view_is)
    c.requires.known

pub take-requires-clause-order : goal.take-requires-clause-order
take-requires-clause-order c =
    subst (λ (xs : List LabelIndex). IsInOrder (list_place c.args.tree.now.refs) (list_in (index_of c.args.label.now xs))) (sym c.indexes.view_is)
    c.requires.order

pub returns-clause-label : goal.returns-clause-label
returns-clause-label c =
    let label = c.args.label.now in
    let refs = c.args.tree.now.refs in
    let new = labelled_by c.take.new.by_label.entries in
    let taken = subst (λ (xs : List LabelIndex). TakesItem refs c.in-Some.start (index_of label xs) (index_of label new)) c.indexes.view_is
    (subst (λ (s : ℕ). TakesItem refs s (index_of label (labelled_by c.indexes.inside.by_label.entries)) (index_of label new)) c.start.view_is
    c.take.ensures.takes) in
    unlists-by refs c.args.ends.now c.in-Some.start (index_of label c.args.indexes.now) (index_of label new) c.in-Some.is taken

pub returns-clause-others : goal.returns-clause-others
returns-clause-others c =
    subst (λ (xs : List LabelIndex). KeepsOtherLabels c.args.label.now xs (labelled_by c.take.new.by_label.entries)) c.indexes.view_is
    c.take.ensures.others
