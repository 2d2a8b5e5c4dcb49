use Rattle.std.proofs.Common.{◌∷◌, Option, Some, ap, sym, subst, ◌∙◌}
use Rattle.std.specs.Prelude.{is_some}
use Rattle.std.proofs.lemmas.Result.{on_ok_weaker}
use Rattle.ft_overlap.specs.Items.{AreKnown, IsInOrder, has_key}
use Rattle.ft_interval_index.specs.Indexes.{KeepsOtherLabels, LabelIndex, PutsItem, index_of, item_for, labelled, list_in}
use Rattle.ft_interval_index.specs.ByLabel.{labelled_by}
use Rattle.ft_interval_index.specs.Order.{IsPlaced, list_place}
use Rattle.ft_interval_index.proofs.LabelLists.{Entries, finds-text, found-some, found-none, others-set}
use Rattle.ft_interval_index.proofs.indexes.add.Goals as goal

pub add_item-requires-clause-known : goal.add_item-requires-clause-known
add_item-requires-clause-known c =
    let label = c.args.label.now in
    let es = c.args.by_label.now.entries in
    let finds = finds-text label c.as_str.result.now c.as_str.utf8 c.as_str.ensures.characters in
    let there = found-some label _ finds es c.in-Some.index.now (sym c.in-Some.ensures.value) in
    subst (λ (x : Option LabelIndex). AreKnown (IsPlaced c.args.tree.now) (item_for c.args.start c.args.end ∷ (list_in x).items)) there
    c.requires.known

pub add_item-requires-clause-order : goal.add_item-requires-clause-order
add_item-requires-clause-order c =
    let label = c.args.label.now in
    let es = c.args.by_label.now.entries in
    let finds = finds-text label c.as_str.result.now c.as_str.utf8 c.as_str.ensures.characters in
    let there = found-some label _ finds es c.in-Some.index.now (sym c.in-Some.ensures.value) in
    subst (λ (x : Option LabelIndex). IsInOrder (list_place c.args.tree.now.refs) (list_in x)) there c.requires.order

pub add_item-requires-clause-fresh : goal.add_item-requires-clause-fresh
add_item-requires-clause-fresh c =
    let label = c.args.label.now in
    let es = c.args.by_label.now.entries in
    let finds = finds-text label c.as_str.result.now c.as_str.utf8 c.as_str.ensures.characters in
    let there = found-some label _ finds es c.in-Some.index.now (sym c.in-Some.ensures.value) in
    sym (ap (λ (x : Option LabelIndex). has_key c.args.start (list_in x).items) there) ∙ c.requires.fresh

pub returns-in-Some-clause-puts : goal.returns-in-Some-clause-puts
returns-in-Some-clause-puts c =
    let label = c.args.label.now in
    let es = c.args.by_label.now.entries in
    let finds = finds-text label c.as_str.result.now c.as_str.utf8 c.as_str.ensures.characters in
    let there = found-some label _ finds es c.in-Some.index.now (sym c.in-Some.ensures.value) in
    let w = c.add_item.new.index in
    let Puts = PutsItem c.args.tree.now.refs c.args.id.now c.args.start c.args.end in
    let new = (c.get_mut.follows.lender w).entries in
    let some = ap is_some (sym c.in-Some.ensures.value) in
    let now = found-some label _ finds new w ((c.get_mut.follows.holds w).3 some).1 in
    on_ok_weaker c.add_item.result (λ p. subst (λ (o : Option LabelIndex). Puts o (index_of label (labelled_by new))) (sym there)
    (subst (λ (o : Option LabelIndex). Puts (Some (labelled label c.in-Some.index.now)) o) (sym now) (p label))) c.add_item.ensures

pub returns-in-Some-clause-others : goal.returns-in-Some-clause-others
returns-in-Some-clause-others c =
    let label = c.args.label.now in
    let es = c.args.by_label.now.entries in
    let finds = finds-text label c.as_str.result.now c.as_str.utf8 c.as_str.ensures.characters in
    let w = c.add_item.new.index in
    let others = subst (λ (xs : Entries). KeepsOtherLabels label (labelled_by es) (labelled_by xs)) (sym (c.get_mut.follows.holds w).0)
    (others-set label _ finds w es) in
    on_ok_weaker c.add_item.result (λ p. others) c.add_item.ensures

pub returns-in-None-clause-puts : goal.returns-in-None-clause-puts
returns-in-None-clause-puts c =
    let label = c.args.label.now in
    let es = c.args.by_label.now.entries in
    let finds = finds-text label c.as_str.result.now c.as_str.utf8 c.as_str.ensures.characters in
    let none = found-none label _ finds es (sym c.in-None.ensures.value) in
    let Puts = PutsItem c.args.tree.now.refs c.args.id.now c.args.start c.args.end in
    on_ok_weaker c.add_first.result (λ p. subst (λ (o : Option LabelIndex). Puts o (index_of label (labelled_by c.add_first.new.by_label.entries)))
    (sym none) p)
    c.add_first.ensures.puts

pub add_first-requires : goal.add_first-requires
add_first-requires c =
    let label = c.args.label.now in
    let es = c.args.by_label.now.entries in
    let finds = finds-text label c.as_str.result.now c.as_str.utf8 c.as_str.ensures.characters in
    let none = found-none label _ finds es (sym c.in-None.ensures.value) in
    record {
      known = subst (λ (x : Option LabelIndex). AreKnown (IsPlaced c.args.tree.now) (item_for c.args.start c.args.end ∷ (list_in x).items)) none
          c.requires.known;
    }
