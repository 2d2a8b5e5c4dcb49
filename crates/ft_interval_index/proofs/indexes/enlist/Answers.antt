use Rattle.std.proofs.Common.{List, ◌∷◌, sym, ap, subst, ◌∙◌}
use Rattle.std.proofs.lemmas.Result.{on_ok_weaker}
use Rattle.ft_overlap.specs.Items.{AreKnown, IsInOrder, has_key}
use Rattle.ft_interval_index.specs.Indexes.{IsSameIndex, KeepsOtherLabels, LabelIndex, PutsItem, index_of, item_for, list_in}
use Rattle.ft_interval_index.specs.ByLabel.{labelled_by}
use Rattle.ft_interval_index.specs.Order.{IsPlaced, list_place}
use Rattle.ft_interval_index.proofs.LabelLists.{items-put}
use Rattle.ft_interval_index.proofs.Listed.{from-attached}
use Rattle.ft_interval_index.proofs.ListedNames.{enlists-by, enlists-none}
use Rattle.ft_interval_index.proofs.indexes.enlist.Goals as goal

pub returns-in_default-clause-label : goal.returns-in_default-clause-label
returns-in_default-clause-label c =
    let label = c.args.label.now in
    let new = labelled_by c.drop_empty.new.by_label.entries in
    enlists-none c.args.tree.now.refs c.args.id.now c.args.ends (index_of label c.args.indexes.now) (index_of label new)
    (sym c.both_attached.ensures ∙ c.in_default.is)
    (subst (λ (xs : List LabelIndex). IsSameIndex (index_of label xs) (index_of label new)) c.indexes.view_is c.drop_empty.ensures.same)

pub returns-in_default-clause-others : goal.returns-in_default-clause-others
returns-in_default-clause-others c =
    subst (λ (xs : List LabelIndex). KeepsOtherLabels c.args.label.now xs (labelled_by c.drop_empty.new.by_label.entries)) c.indexes.view_is
    c.drop_empty.ensures.others

pub add-requires-clause-known : goal.add-requires-clause-known
add-requires-clause-known c =
    let s = c.in-Some.start in
    let e = c.in-Some.end in
    subst (λ (xs : List LabelIndex). AreKnown (IsPlaced c.args.tree.now) (item_for s e ∷ (list_in (index_of c.args.label.now xs)).items)) (sym
    c.indexes.view_is)
    (c.requires.known s e (from-attached c.args.tree.now.refs c.args.ends s e (sym c.both_attached.ensures ∙ c.in-Some.is)))

pub add-requires-clause-order : goal.add-requires-clause-order
add-requires-clause-order c =
    subst (λ (xs : List LabelIndex). IsInOrder (list_place c.args.tree.now.refs) (list_in (index_of c.args.label.now xs))) (sym c.indexes.view_is)
    c.requires.order

pub add-requires-clause-fresh : goal.add-requires-clause-fresh
add-requires-clause-fresh c =
    let s = c.in-Some.start in
    let e = c.in-Some.end in
    ap (λ (xs : List LabelIndex). has_key s (list_in (index_of c.args.label.now xs)).items) c.indexes.view_is
    ∙ c.requires.fresh s e (from-attached c.args.tree.now.refs c.args.ends s e (sym c.both_attached.ensures ∙ c.in-Some.is))

pub returns-clause-label : goal.returns-clause-label
returns-clause-label c =
    let label = c.args.label.now in
    let refs = c.args.tree.now.refs in
    let s = c.in-Some.start in
    let e = c.in-Some.end in
    let new = labelled_by c.add.new.by_label.entries in
    on_ok_weaker c.add.result (λ p. enlists-by refs c.args.id.now c.args.ends (s, e) (index_of label c.args.indexes.now) (index_of label new)
    (sym c.both_attached.ensures ∙ c.in-Some.is)
    (subst (λ (xs : List LabelIndex). PutsItem refs c.args.id.now s e (index_of label xs) (index_of label new)) c.indexes.view_is p))
    c.add.ensures.puts

pub returns-clause-others : goal.returns-clause-others
returns-clause-others c =
    on_ok_weaker c.add.result (λ p.
    subst (λ (xs : List LabelIndex). KeepsOtherLabels c.args.label.now xs (labelled_by c.add.new.by_label.entries)) c.indexes.view_is p)
    c.add.ensures.others

pub returns-clause-some : goal.returns-clause-some
returns-clause-some c =
    let label = c.args.label.now in
    on_ok_weaker c.add.result (λ p. items-put c.args.tree.now.refs c.args.id.now c.in-Some.start c.in-Some.end
    (index_of label (labelled_by c.indexes.inside.by_label.entries)) (index_of label (labelled_by c.add.new.by_label.entries)) p) c.add.ensures.puts
