use Rattle.std.proofs.Common.{sym, subst}
use Rattle.ft_interval_index.specs.Indexes.{HasItems, KeepsOtherLabels, index_of}
use Rattle.ft_interval_index.specs.ByLabel.{labelled_by}
use Rattle.ft_interval_index.proofs.LabelLists.{Entries, finds-text, found-none, nothing-gone, others-removed}
use Rattle.ft_interval_index.proofs.indexes.drop_empty.Goals as goal

pub returns-then-is_empty_at-clause-same : goal.returns-then-is_empty_at-clause-same
returns-then-is_empty_at-clause-same c =
    let label = c.args.label.now in
    let es = c.args.by_label.now.entries in
    let finds = finds-text label c.as_str.result.now c.as_str.utf8 c.as_str.ensures.characters in
    nothing-gone label (index_of label (labelled_by es)) _ (c.is_empty_at.ensures.none c.if-is_empty_at.true)
    (found-none label _ finds c.remove.new.self.entries c.remove.ensures.updates.1)

pub returns-then-is_empty_at-clause-others : goal.returns-then-is_empty_at-clause-others
returns-then-is_empty_at-clause-others c =
    let label = c.args.label.now in
    let es = c.args.by_label.now.entries in
    let finds = finds-text label c.as_str.result.now c.as_str.utf8 c.as_str.ensures.characters in
    subst (λ (xs : Entries). KeepsOtherLabels label (labelled_by es) (labelled_by xs)) (sym c.remove.ensures.entries) (others-removed label _ finds
    es)

pub returns-then-is_empty_at-clause-some : goal.returns-then-is_empty_at-clause-some
returns-then-is_empty_at-clause-some c =
    let label = c.args.label.now in
    let es = c.args.by_label.now.entries in
    let finds = finds-text label c.as_str.result.now c.as_str.utf8 c.as_str.ensures.characters in
    subst HasItems (sym (found-none label _ finds c.remove.new.self.entries c.remove.ensures.updates.1)) tt
