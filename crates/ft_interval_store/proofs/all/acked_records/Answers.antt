use Rattle.std.proofs.Common.{ℕ, ◌++◌, map, sym, ◌∙◌, ap, subst, take}
use Rattle.std.proofs.lemmas.List.{map-append, take_all}
use Rattle.ft_interval_store.specs.declared.intervals.Interval.{Interval}
use Rattle.ft_interval_store.specs.Ends.{AreLiveEnds}
use Rattle.ft_interval_store.specs.Pages.{from_pages}
use Rattle.ft_interval_store.specs.Standing.{acked_record}
use Rattle.ft_interval_store.specs.State.{AreLiveIntervals}
use Rattle.ft_interval_store.proofs.AckedRecords.{all-acked}
use Rattle.ft_interval_store.proofs.PageLists.{all-on_page, next-page}
use Rattle.ft_interval_store.proofs.all.acked_records.Goals as goal

pub add_acked_records-requires-clause-live : goal.add_acked_records-requires-clause-live
add_acked_records-requires-clause-live c =
    let refs = c.args.tree.now.refs in
    let pages = c.pages-pages.result.now in
    let all = subst (λ is. AreLiveIntervals refs is) (sym c.pages-pages.ensures.value) c.requires.live in
    subst (λ is. AreLiveIntervals refs is) (sym (c.deref.ensures.value ∙ ap (λ v. v.items) c.page-item.is))
    (all-on_page (λ (i : Interval ℕ). AreLiveEnds refs i.ends) c.loop-page.page-index pages c.page-item.result c.loop-page-test.true all)

pub loop-page-preserved : goal.loop-page-preserved
loop-page-preserved c =
    let record_of = acked_record c.args.tree.now in
    let pages = c.pages-pages.result.now in
    let n = c.loop-page.page-index in
    let page = c.page-item.result in
    c.in_ok-add_acked_records.ensures ∙ ap (λ is. c.loop-page.records.items ++ map record_of is) c.deref.ensures.value
    ∙ ap (λ rs. rs ++ map record_of page.items) c.loop-page.invariant ∙ sym (map-append record_of (from_pages (take n pages)) page.items)
    ∙ sym (ap (map record_of) (next-page n pages page c.loop-page-test.true c.page-item.is))

pub returns : goal.returns
returns c =
    let tree = c.args.tree.now in
    let whole = ap from_pages (take_all c.loop-page.page-index c.pages-pages.result.now c.loop-page-test.false) ∙ c.pages-pages.ensures.value in
    c.loop-page.invariant ∙ ap (map (acked_record tree)) whole ∙ all-acked tree c.args.acked.now
