use Rattle.std.proofs.Common.{ap, get_or, subst, sym, ◌∙◌}
use Rattle.ft_interval_store.specs.Pages.{IsPagePlace}
use Rattle.ft_interval_store.proofs.PageLists.{at-place}
use Rattle.ft_interval_store.proofs.pages.PagesIndexUsize.index.Goals as goal

pub returns : goal.returns
returns g c =
    let ps = c.self.inside.pages.items in
    let at = c.page_place-at.result in
    let place = c.args.place in
    let s = subst (λ xs. IsPagePlace place xs at) c.deref.ensures.value c.page_place-at.ensures in
    let x = c.index-2.result.now in
    c.index-2.ensures ∙ ap (λ v. get_or v.items at.offset x) c.index.ensures
    ∙ sym (at-place at.page at.offset place ps c.index.result.now s.page s.sum x (s.offset c.index.result.now)) ∙ ap (λ xs. get_or xs place x) c.self.view_is
