use Rattle.std.proofs.Common.{Some, ap, sym, subst, ◌∙◌}
use Rattle.ft_overlap.specs.Items.{ItemList}
use Rattle.ft_interval_index.specs.Indexes.{HasItems, labelled}
use Rattle.ft_interval_index.proofs.LabelLists.{finds-text, found-none, found-some}
use Rattle.ft_interval_index.proofs.indexes.is_empty_at.Goals as goal

pub returns-in-Some-clause-none : goal.returns-in-Some-clause-none
returns-in-Some-clause-none c = λ empty.
    let label = c.args.label.now in
    let es = c.args.by_label.now.entries in
    let finds = finds-text label c.as_str.result.now c.as_str.utf8 c.as_str.ensures.characters in
    found-some label _ finds es c.in-Some.index.now (sym c.in-Some.ensures.value)
    ∙ ap (λ (x : ItemList). Some (labelled label x)) (c.is_empty.ensures.none empty)

pub returns-in-Some-clause-some : goal.returns-in-Some-clause-some
returns-in-Some-clause-some c = λ full.
    let label = c.args.label.now in
    let es = c.args.by_label.now.entries in
    let finds = finds-text label c.as_str.result.now c.as_str.utf8 c.as_str.ensures.characters in
    subst HasItems (sym (found-some label _ finds es c.in-Some.index.now (sym c.in-Some.ensures.value))) (c.is_empty.ensures.some full)

pub returns-in-None-clause-some : goal.returns-in-None-clause-some
returns-in-None-clause-some c = λ full.
    let label = c.args.label.now in
    let es = c.args.by_label.now.entries in
    let finds = finds-text label c.as_str.result.now c.as_str.utf8 c.as_str.ensures.characters in
    subst HasItems (sym (found-none label _ finds es (sym c.in-None.ensures.value))) tt
