use Rattle.std.proofs.Common.{ap, get_or, refl, set, subst, sym, ◌∙◌}
use Rattle.std.specs.Vec.{with_item}
use Rattle.ft_interval_store.specs.Pages.{IsPagePlace}
use Rattle.ft_interval_store.proofs.PageLists.{at-place, replaced, written}
use Rattle.ft_interval_store.proofs.pages.PagesIndexMutUsize.index_mut.Goals as goal

pub invariant_of-self-lent : goal.invariant_of-self-lent
invariant_of-self-lent g c w =
    let ps = c.self.inside.pages.items in
    let at = c.page_place-at.result in
    let place = c.args.place in
    let s = subst (λ xs. IsPagePlace place xs at) c.deref.ensures.value c.page_place-at.ensures in
    let page = c.index_mut-page.result.now in
    written at.page at.offset place ps page s.page s.sum (with_item page at.offset w) w c.self.inside.len (s.offset page)
    (ap (λ v. set v.items at.offset w) c.index_mut-page.ensures.value) c.self.invariant

pub returns : goal.returns
returns g c =
    let ps = c.self.inside.pages.items in
    let at = c.page_place-at.result in
    let place = c.args.place in
    let s = subst (λ xs. IsPagePlace place xs at) c.deref.ensures.value c.page_place-at.ensures in
    let page = c.index_mut-page.result.now in
    let x = c.index_mut.result.now in (
      (
        refl,
        λ w. replaced at.page at.offset place ps page s.page s.sum (with_item page at.offset w) w (s.offset page)
            (ap (λ v. set v.items at.offset w) c.index_mut-page.ensures.value)
            ∙ ap (λ xs. set xs place w) c.self.view_is,
      ),
      record {
        writes_back = tt;
        value = c.index_mut.ensures.value ∙ ap (λ v. get_or v.items at.offset x) c.index_mut-page.ensures.value
            ∙ sym (at-place at.page at.offset place ps page s.page s.sum x (s.offset page)) ∙ ap (λ xs. get_or xs place x) c.self.view_is;
      },
    )
