use Rattle.std.proofs.Common.{chars, ◌∷◌, Option, Some, None, ap, sym, subst, ◌∙◌}
use Rattle.std.specs.Prelude.{String, string_bytes}
use Rattle.std.specs.declared.alloc.Global.{Global}
use Rattle.std.specs.Ordering.{nat_cmp}
use Rattle.std.specs.Cmp.Lexicographic.{slice_cmp}
use Rattle.std.proofs.lemmas.Str.{IsUtf8-string_bytes}
use Rattle.ft_overlap.specs.Items.{AreKnown, IsInOrder, ItemList, has_key, id_at}
use Rattle.ft_interval_index.specs.Indexes.{IsSameIndex, KeepsOtherLabels, LabelIndex, PutsItem, index_of, item_for, labelled}
use Rattle.ft_interval_index.specs.ByLabel.{labelled_by}
use Rattle.ft_interval_index.specs.Order.{IsPlaced, list_place}
use Rattle.ft_interval_index.proofs.LabelLists.{Entries, finds-text, found-some, others-inserted}
use Rattle.ft_interval_index.proofs.ListedNames.{none-in-order, puts-from}
use Rattle.ft_interval_index.proofs.indexes.add_first.Goals as goal

pub add_item-requires-clause-known : goal.add_item-requires-clause-known
add_item-requires-clause-known c =
    subst (λ (x : ItemList). AreKnown (IsPlaced c.args.tree.now) (item_for c.args.start c.args.end ∷ x.items)) (sym c.new-index.ensures)
    c.requires.known

pub add_item-requires-clause-order : goal.add_item-requires-clause-order
add_item-requires-clause-order c =
    let place = list_place c.args.tree.now.refs in
    subst (λ (x : ItemList). IsInOrder place x) (sym c.new-index.ensures) (none-in-order place)

pub add_item-requires-clause-fresh : goal.add_item-requires-clause-fresh
add_item-requires-clause-fresh c = ap (λ (x : ItemList). has_key c.args.start x.items) c.new-index.ensures

pub returns-clause-puts : goal.returns-clause-puts
returns-clause-puts c =
    let label = c.args.label.now in
    let is = ap chars c.in_ok-text.ensures.ok ∙ c.as_str.ensures.characters in
    let finds = finds-text label _ (IsUtf8-string_bytes c.in_ok-text.text) is in
    let first : LabelIndex = labelled label c.new-index.result in
    let now = found-some label _ finds c.insert.new.self.entries c.add_item.new.index c.in_ok-insert.ensures.updates.1 in
    let Puts = PutsItem c.args.tree.now.refs c.args.id.now c.args.start c.args.end in
    let same : IsSameIndex None (Some first) = record {
      list = c.new-index.ensures;
      ids = λ k. ap (λ (x : ItemList). id_at k x.ids) c.new-index.ensures;
    } in
    puts-from c.args.tree.now.refs c.args.id.now c.args.start c.args.end None (Some first) (index_of label (labelled_by c.insert.new.self.entries))
    same
    (subst (λ (o : Option LabelIndex). Puts (Some first) o) (sym now) (c.in_ok-add_item.ensures label))

pub returns-clause-others : goal.returns-clause-others
returns-clause-others c =
    let label = c.args.label.now in
    let es = c.args.by_label.now.entries in
    let is = ap chars c.in_ok-text.ensures.ok ∙ c.as_str.ensures.characters in
    let finds = finds-text label _ (IsUtf8-string_bytes c.in_ok-text.text) is in
    subst (λ (xs : Entries). KeepsOtherLabels label (labelled_by es) (labelled_by xs)) (sym c.in_ok-insert.ensures.entries)
    (others-inserted label (λ (x y : String Global). slice_cmp nat_cmp (string_bytes x) (string_bytes y)) c.in_ok-text.text is finds
    c.add_item.new.index es)
