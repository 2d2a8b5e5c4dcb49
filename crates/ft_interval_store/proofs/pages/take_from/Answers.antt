use Rattle.std.proofs.Common.{ap, arith, get_or, subst, sym, ◌∙◌}
use Rattle.std.specs.List.{remove}
use Rattle.std.proofs.lemmas.Bool.{eqb-true}
use Rattle.std.proofs.lemmas.List.{get_or-set_same, nil_from_length}
use Rattle.ft_interval_store.specs.Pages.{IsPagePlace, from_pages}
use Rattle.ft_interval_store.proofs.PageLists.{at-place, emptied, removed}
use Rattle.ft_interval_store.proofs.pages.take_from.Goals as goal

pub returns-then-is_empty-clause-value : goal.returns-then-is_empty-clause-value
returns-then-is_empty-clause-value g c =
    let ps = c.args.pages.now.items in
    let at = c.page_place-at.result in
    let place = c.args.place in
    let s = subst (λ xs. IsPagePlace place xs at) c.deref.ensures.value c.page_place-at.ensures in
    let x = c.remove-taken.result in
    let was = c.index_mut.result.now in
    c.remove-taken.ensures.value ∙ ap (λ v. get_or v.items at.offset x) c.index_mut.ensures.value
    ∙ sym (at-place at.page at.offset place ps was s.page s.sum x (s.offset was))

pub returns-then-is_empty-clause-items : goal.returns-then-is_empty-clause-items
returns-then-is_empty-clause-items g c =
    let ps = c.args.pages.now.items in
    let at = c.page_place-at.result in
    let place = c.args.place in
    let s = subst (λ xs. IsPagePlace place xs at) c.deref.ensures.value c.page_place-at.ensures in
    let was = c.index_mut.result.now in
    let new = c.remove-taken.new.self in
    let same = c.index.ensures ∙ get_or-set_same ps at.page new c.index.result.now s.page in
    let none = eqb-true c.index.result.now.len 0 (sym c.if-is_empty.ensures) in
    let empty = nil_from_length new.items (omega (arith, none, ap (λ v. v.len) same, new.ok.0)) in
    ap from_pages c.remove.ensures.items ∙ emptied at.page ps new s.page empty
    ∙ removed at.page at.offset place ps was s.page s.sum new (s.offset was)
    (c.remove-taken.ensures.items ∙ ap (λ v. remove v.items at.offset) c.index_mut.ensures.value)

pub returns-else-is_empty-clause-value : goal.returns-else-is_empty-clause-value
returns-else-is_empty-clause-value g c =
    let ps = c.args.pages.now.items in
    let at = c.page_place-at.result in
    let place = c.args.place in
    let s = subst (λ xs. IsPagePlace place xs at) c.deref.ensures.value c.page_place-at.ensures in
    let x = c.remove-taken.result in
    let was = c.index_mut.result.now in
    c.remove-taken.ensures.value ∙ ap (λ v. get_or v.items at.offset x) c.index_mut.ensures.value
    ∙ sym (at-place at.page at.offset place ps was s.page s.sum x (s.offset was))

pub returns-else-is_empty-clause-items : goal.returns-else-is_empty-clause-items
returns-else-is_empty-clause-items g c =
    let ps = c.args.pages.now.items in
    let at = c.page_place-at.result in
    let place = c.args.place in
    let s = subst (λ xs. IsPagePlace place xs at) c.deref.ensures.value c.page_place-at.ensures in
    let was = c.index_mut.result.now in
    removed at.page at.offset place ps was s.page s.sum c.remove-taken.new.self (s.offset was)
    (c.remove-taken.ensures.items ∙ ap (λ v. remove v.items at.offset) c.index_mut.ensures.value)
