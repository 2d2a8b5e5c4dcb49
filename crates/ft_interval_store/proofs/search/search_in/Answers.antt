use Rattle.std.proofs.Common.{◌-◌, ◌+◌, Ok, Err, get_or, length, ap, arith, subst, sym, ◌∙◌}
use Rattle.ft_interval_store.specs.Pages.{count_before}
use Rattle.ft_interval_store.specs.Intervals.{IsCutBy, Name, NamesRise, place_of_name}
use Rattle.ft_interval_store.proofs.PageLists.{up-to}
use Rattle.ft_interval_store.proofs.NamesOnPages.{page-rises, found-by, last-within, none-by, shifted}
use Rattle.ft_interval_store.proofs.RisingNames.{found-in_range, missing-in_range}
use Rattle.ft_interval_store.proofs.search.search_in.Goals as goal

pub returns-then-count-eq0 : goal.returns-then-count-eq0
returns-then-count-eq0 g c =
    let n : Name = (c.args.label.now, c.args.id.now) in
    let ps = c.args.pages.now in
    sym (none-by n ps c.requires.filled (subst (λ k. IsCutBy n ps k) c.if-count-eq0.true c.pages_by-count.ensures))

pub search_page-requires : goal.search_page-requires
search_page-requires g c =
    let n : Name = (c.args.label.now, c.args.id.now) in
    let ps = c.args.pages.now in
    let k = c.pages_by-count.result in
    let d = c.index-pages-page.result in
    let l = last-within k (length ps) c.if-count-eq0.false c.pages_by-count.ensures.within in
    let at = c.as_slice.ensures.value ∙ ap (λ v. v.items) c.index-pages-page.is in
    subst (λ is. NamesRise is) (sym at) (page-rises ps (k - 1) d l c.requires.rising)

pub overflow_add-result : goal.overflow_add-result
overflow_add-result g c =
    let n : Name = (c.args.label.now, c.args.id.now) in
    let ps = c.args.pages.now in
    let k = c.pages_by-count.result in
    let d = c.index-pages-page.result in
    let l = last-within k (length ps) c.if-count-eq0.false c.pages_by-count.ensures.within in
    let at = c.as_slice.ensures.value ∙ ap (λ v. v.items) c.index-pages-page.is in
    let found = found-in_range n c.in-Ok.i (get_or ps (k - 1) d).items (sym (ap (place_of_name n) at) ∙ sym c.search_page.ensures ∙ c.in-Ok.is) in
    omega (arith, c.count_before-first.ensures, up-to (k - 1) ps d l, found, c.requires.fits)

pub overflow_add-result-in-Err : goal.overflow_add-result-in-Err
overflow_add-result-in-Err g c =
    let n : Name = (c.args.label.now, c.args.id.now) in
    let ps = c.args.pages.now in
    let k = c.pages_by-count.result in
    let d = c.index-pages-page.result in
    let l = last-within k (length ps) c.if-count-eq0.false c.pages_by-count.ensures.within in
    let at = c.as_slice.ensures.value ∙ ap (λ v. v.items) c.index-pages-page.is in
    let found = missing-in_range n c.in-Err.i (get_or ps (k - 1) d).items (sym (ap (place_of_name n) at) ∙ sym c.search_page.ensures ∙ c.in-Err.is) in
    omega (arith, c.count_before-first.ensures, up-to (k - 1) ps d l, found, c.requires.fits)

pub returns-in-Ok : goal.returns-in-Ok
returns-in-Ok g c =
    let n : Name = (c.args.label.now, c.args.id.now) in
    let ps = c.args.pages.now in
    let k = c.pages_by-count.result in
    let d = c.index-pages-page.result in
    let l = last-within k (length ps) c.if-count-eq0.false c.pages_by-count.ensures.within in
    let at = c.as_slice.ensures.value ∙ ap (λ v. v.items) c.index-pages-page.is in
    ap (λ m. Ok (m + c.in-Ok.i)) c.count_before-first.ensures ∙ ap (λ r. shifted (count_before (k - 1) ps) r) (sym c.in-Ok.is)
    ∙ found-by n ps k d c.search_page.result c.if-count-eq0.false c.requires.filled c.requires.rising c.pages_by-count.ensures
    (c.search_page.ensures ∙ ap (place_of_name n) at)

pub returns-in-Err : goal.returns-in-Err
returns-in-Err g c =
    let n : Name = (c.args.label.now, c.args.id.now) in
    let ps = c.args.pages.now in
    let k = c.pages_by-count.result in
    let d = c.index-pages-page.result in
    let l = last-within k (length ps) c.if-count-eq0.false c.pages_by-count.ensures.within in
    let at = c.as_slice.ensures.value ∙ ap (λ v. v.items) c.index-pages-page.is in
    ap (λ m. Err (m + c.in-Err.i)) c.count_before-first.ensures ∙ ap (λ r. shifted (count_before (k - 1) ps) r) (sym c.in-Err.is)
    ∙ found-by n ps k d c.search_page.result c.if-count-eq0.false c.requires.filled c.requires.rising c.pages_by-count.ensures
    (c.search_page.ensures ∙ ap (place_of_name n) at)
