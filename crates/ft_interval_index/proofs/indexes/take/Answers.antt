use Rattle.std.proofs.Common.{Option, Some, ap, sym, subst}
use Rattle.std.specs.Prelude.{String, is_some}
use Rattle.std.specs.declared.alloc.Global.{Global}
use Rattle.std.specs.BTreeMap.{BTreeMap}
use Rattle.ft_overlap.specs.Items.{AreKnown, IsInOrder, ItemList}
use Rattle.ft_interval_index.specs.Indexes.{KeepsOtherLabels, LabelIndex, TakesItem, index_of, labelled, list_in}
use Rattle.ft_interval_index.specs.ByLabel.{labelled_by}
use Rattle.ft_interval_index.specs.Order.{IsPlaced, list_place}
use Rattle.ft_interval_index.proofs.LabelLists.{Entries, finds-text, found-some, found-none, others-set}
use Rattle.ft_interval_index.proofs.ListedNames.{none-taken}
use Rattle.ft_interval_index.proofs.indexes.take.Goals as goal

pub take_item-requires-clause-known : goal.take_item-requires-clause-known
take_item-requires-clause-known c =
    let label = c.args.label.now in
    let es = c.args.by_label.now.entries in
    let finds = finds-text label c.as_str.result.now c.as_str.utf8 c.as_str.ensures.characters in
    let there = found-some label _ finds es c.in-Some.index.now (sym c.in-Some.ensures.value) in
    subst (λ (x : Option LabelIndex). AreKnown (IsPlaced c.args.tree.now) (list_in x).items) there c.requires.known

pub take_item-requires-clause-order : goal.take_item-requires-clause-order
take_item-requires-clause-order c =
    let label = c.args.label.now in
    let es = c.args.by_label.now.entries in
    let finds = finds-text label c.as_str.result.now c.as_str.utf8 c.as_str.ensures.characters in
    let there = found-some label _ finds es c.in-Some.index.now (sym c.in-Some.ensures.value) in
    subst (λ (x : Option LabelIndex). IsInOrder (list_place c.args.tree.now.refs) (list_in x)) there c.requires.order

pub returns-in-Some-clause-takes : goal.returns-in-Some-clause-takes
returns-in-Some-clause-takes c =
    let label = c.args.label.now in
    let es = c.args.by_label.now.entries in
    let finds = finds-text label c.as_str.result.now c.as_str.utf8 c.as_str.ensures.characters in
    let there = found-some label _ finds es c.in-Some.index.now (sym c.in-Some.ensures.value) in
    let w = c.take_item.new.index in
    let new = (c.get_mut.follows.lender w).entries in
    let some = ap is_some (sym c.in-Some.ensures.value) in
    let now = found-some label _ finds new w ((c.get_mut.follows.holds w).3 some).1 in
    subst (λ (o : Option LabelIndex). TakesItem c.args.tree.now.refs c.args.start o (index_of label (labelled_by new))) (sym there)
    (subst (λ (o : Option LabelIndex). TakesItem c.args.tree.now.refs c.args.start (Some (labelled label c.in-Some.index.now)) o) (sym now)
    (c.take_item.ensures label))

pub returns-in-Some-clause-others : goal.returns-in-Some-clause-others
returns-in-Some-clause-others c =
    let label = c.args.label.now in
    let es = c.args.by_label.now.entries in
    let finds = finds-text label c.as_str.result.now c.as_str.utf8 c.as_str.ensures.characters in
    let w = c.take_item.new.index in
    subst (λ (xs : Entries). KeepsOtherLabels label (labelled_by es) (labelled_by xs)) (sym (c.get_mut.follows.holds w).0) (others-set label _ finds
    w es)

pub returns-in_default-clause-takes : goal.returns-in_default-clause-takes
returns-in_default-clause-takes c =
    let label = c.args.label.now in
    let es = c.args.by_label.now.entries in
    let finds = finds-text label c.as_str.result.now c.as_str.utf8 c.as_str.ensures.characters in
    subst (λ (m : BTreeMap (String Global) ItemList).
    TakesItem c.args.tree.now.refs c.args.start (index_of label (labelled_by es)) (index_of label (labelled_by m.entries)))
    (sym c.get_mut.follows.holds-at-none)
    (none-taken c.args.tree.now.refs c.args.start (index_of label (labelled_by es)) (found-none label _ finds es (sym c.in_default.ensures.value)))
