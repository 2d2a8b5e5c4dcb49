use Rattle.std.proofs.Common.{Option, filter, length, option_copied, ◌∙◌, ap, sym, subst, rules}
use Rattle.std.proofs.lemmas.Fn.{filter_same}
use Rattle.ft_overlap.specs.Items.{AreKnown, IsInOrder}
use Rattle.ft_sumdoc.specs.Meeting.{meets}
use Rattle.ft_interval_store.specs.Shown.{shown_place}
use Rattle.ft_interval_store.specs.State.{ends_of_name, text_elements}
use Rattle.ft_interval_index.specs.Indexes.{LabelIndex, index_of, labelled_if, list_in}
use Rattle.ft_interval_index.specs.Order.{IsLiveIn, list_place}
use Rattle.ft_interval_index.proofs.LabelLists.{found-own}
use Rattle.ft_interval_index.proofs.Listed.{ends-inside, items-live}
use Rattle.ft_interval_index.proofs.ListedNames.{live-ends-of}
use Rattle.ft_interval_index.proofs.Overlapping.{few-steps, found-all}
use Rattle.ft_interval_index.proofs.ShownOrder.{shown-keeps}
use Rattle.ft_interval_index.proofs.gathering.overlapping.Goals as goal

pub index_of_label-index-requires : goal.index_of_label-index-requires
index_of_label-index-requires g c = (c.args.tree.now, c.requires.listed)

pub gathered-requires-clause-live : goal.gathered-requires-clause-live
gathered-requires-clause-live g c = c.requires.live

pub gathered-requires-clause-known : goal.gathered-requires-clause-known
gathered-requires-clause-known g c =
    let label = c.args.label.now in
    let tree = c.args.tree.now in
    let store = c.args.store.now in
    subst (λ (o : Option LabelIndex). AreKnown (IsLiveIn tree) (list_in o).items) (sym c.index_of_label-index.ensures.index)
    (items-live tree (length (text_elements tree)) (λ id. ends_of_name (label, id) store.acked) (index_of label c.args.indexes.now) c.requires.usable
    (λ id. live-ends-of tree.refs store c.requires.live (label, id)) (c.requires.listed label))

pub gathered-requires-clause-order : goal.gathered-requires-clause-order
gathered-requires-clause-order g c =
    let label = c.args.label.now in
    let tree = c.args.tree.now in
    let x = index_of label c.args.indexes.now in
    let xs = text_elements tree in
    let l = c.requires.listed label in
    subst (λ (o : Option LabelIndex). IsInOrder (shown_place xs tree.refs) (list_in o)) (sym c.index_of_label-index.ensures.index)
    (l.law (list_place tree.refs) (shown_place xs tree.refs)
    (shown-keeps xs tree.refs (list_in x).items
    (ends-inside (length xs) tree.refs (λ id. ends_of_name (label, id) c.args.store.now.acked) x l)) l.order)

pub shown_behind-requires-clause-live : goal.shown_behind-requires-clause-live
shown_behind-requires-clause-live g c = c.requires.live

pub shown_behind-requires-clause-shown : goal.shown_behind-requires-clause-shown
shown_behind-requires-clause-shown g c = (c.in_ok-first.ensures.part.0, c.in_ok-first.ensures.part.1)

pub returns-in_err-first-clause-cost : goal.returns-in_err-first-clause-cost
returns-in_err-first-clause-cost g c =
    let label = c.args.label.now in
    let xs = c.args.indexes.now in
    few-steps c.args.tree.now c.args.store.now label c.args.a c.args.b (index_of label xs) c.first_stage-first.ensures.names
    c.first_stage-first.ensures.order (found-own label xs) (c.requires.listed label) (labelled_if label (option_copied
    c.index_of_label-index.result))
    c.index_of_label-index.ensures.index c.gathered.new.steps c.args.steps.now c.in_err-first.ensures.cost

pub returns-in_err-found-clause-cost : goal.returns-in_err-found-clause-cost
returns-in_err-found-clause-cost g c =
    let label = c.args.label.now in
    let xs = c.args.indexes.now in
    few-steps c.args.tree.now c.args.store.now label c.args.a c.args.b (index_of label xs) c.first_stage-first.ensures.names
    c.first_stage-first.ensures.order (found-own label xs) (c.requires.listed label) (labelled_if label (option_copied
    c.index_of_label-index.result))
    c.index_of_label-index.ensures.index c.gathered.new.steps c.args.steps.now c.in_ok-first.ensures.cost

pub returns-clause-cost : goal.returns-clause-cost
returns-clause-cost g c =
    let label = c.args.label.now in
    let xs = c.args.indexes.now in
    few-steps c.args.tree.now c.args.store.now label c.args.a c.args.b (index_of label xs) c.first_stage-first.ensures.names
    c.first_stage-first.ensures.order (found-own label xs) (c.requires.listed label) (labelled_if label (option_copied
    c.index_of_label-index.result))
    c.index_of_label-index.ensures.index c.gathered.new.steps c.args.steps.now c.in_ok-first.ensures.cost

pub returns-clause-found : goal.returns-clause-found
returns-clause-found g c =
    let label = c.args.label.now in
    let xs = c.args.indexes.now in
    let test = meets label c.args.a c.args.b in
    let w = c.in_ok-first.ensures.part in
    filter_same _ test _ (λ x b f' k. search rules) c.in_ok-found.found.items _ c.retain.ensures.filtered
    ∙ ap (filter test) (c.in_ok-found.ensures w.0 w.1)
    ∙ found-all c.args.tree.now c.args.store.now label c.args.a c.args.b (index_of label xs) c.first_stage-first.ensures.names
    c.first_stage-first.ensures.order (found-own label xs) (c.requires.listed label) (labelled_if label (option_copied
    c.index_of_label-index.result))
    c.index_of_label-index.ensures.index c.in_ok-first.ensures.fits w.0 w.2
