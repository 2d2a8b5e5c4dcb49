use Rattle.std.proofs.Common.{ℕ, ◌+◌, ◌<◌, [], length, take, map, refl, sym, ◌∙◌, ap, subst}
use Rattle.std.specs.Global.{Vec}
use Rattle.std.proofs.lemmas.List.{take_all}
use Rattle.std.proofs.lemmas.List.Elements.{All-get_or}
use Rattle.ft_interval_store.specs.declared.intervals.Interval.{Interval}
use Rattle.ft_interval_store.specs.Ends.{AreLiveEnds, places_of_ends}
use Rattle.ft_interval_store.specs.Pages.{from_pages}
use Rattle.ft_interval_store.specs.Shown.{settled_interval}
use Rattle.ft_interval_store.specs.Standing.{ShowsAll}
use Rattle.ft_interval_store.specs.State.{AreLiveIntervals, placed_intervals, text_elements, with_mapped_ends}
use Rattle.ft_interval_store.proofs.OneInterval.{NamesRise-map}
use Rattle.ft_interval_store.proofs.PageLists.{all-on_page}
use Rattle.ft_interval_store.proofs.ShownAll.{filled-shown, page-shown, rise-shown}
use Rattle.ft_interval_store.proofs.all.first_places.Goals as goal

pub loop-page-init : goal.loop-page-init
loop-page-init c = subst (λ js. ShowsAll c.args.tree.now 0 [] js) (sym c.new-items.ensures) tt

pub placed_page-requires-clause-live : goal.placed_page-requires-clause-live
placed_page-requires-clause-live c =
    let refs = c.args.tree.now.refs in
    let pages = c.pages-pages.result.now in
    let all = subst (λ is. AreLiveIntervals refs is) (sym c.pages-pages.ensures.value) c.requires.live in
    subst (λ is. AreLiveIntervals refs is) (sym (c.deref.ensures.value ∙ ap (λ v. v.items) c.page-item.is))
    (all-on_page (λ (i : Interval ℕ). AreLiveEnds refs i.ends) c.loop-page.page-index pages c.page-item.result c.loop-page-test.true all)

pub push_page-requires : goal.push_page-requires
push_page-requires c =
    let xs = text_elements c.args.tree.now in
    let refs = c.args.tree.now.refs in
    let pages = c.pages-pages.result.now in
    let filled = All-get_or (λ (p : Vec (Interval ℕ)). 0 < length p.items) pages c.loop-page.page-index c.page-item.result c.loop-page-test.true c.pages-pages.ensures.filled in
    let some = subst (λ is. 0 < length is) (sym (c.deref.ensures.value ∙ ap (λ v. v.items) c.page-item.is)) filled in
    filled-shown c.args.tree.now 0 (settled_interval xs 0) (with_mapped_ends (places_of_ends refs)) c.deref.result.now c.in_ok-placed_page.field-0.items
    c.in_ok-placed_page.ensures some

pub loop-page-preserved : goal.loop-page-preserved
loop-page-preserved c =
    let tree = c.args.tree.now in
    let f = settled_interval (text_elements tree) 0 in
    let refs = tree.refs in
    let pages = c.pages-pages.result.now in
    let n = c.loop-page.page-index in
    let placed = c.in_ok-placed_page.field-0.items in
    let shows = subst (λ is. ShowsAll tree 0 (map f (placed_intervals refs is)) placed) c.deref.ensures.value c.in_ok-placed_page.ensures in
    subst (λ js. ShowsAll tree 0 (map f (placed_intervals refs (from_pages (take (n + 1) pages)))) js) (sym c.in_ok-push_page.ensures.ok)
    (page-shown tree 0 f (with_mapped_ends (places_of_ends refs)) pages n c.page-item.result c.loop-page.items placed c.loop-page-test.true c.page-item.is
    c.loop-page.invariant shows)

pub invariant_of-result : goal.invariant_of-result
invariant_of-result c =
    let xs = text_elements c.args.tree.now in
    let refs = c.args.tree.now.refs in
    let js = c.loop-page.items in
    let acked = c.args.acked.now in
    let whole = ap from_pages (take_all c.loop-page.page-index c.pages-pages.result.now c.loop-page-test.false) ∙ c.pages-pages.ensures.value in
    let shows = subst (λ is. ShowsAll c.args.tree.now 0 (map (settled_interval xs 0) (placed_intervals refs is)) js) whole c.loop-page.invariant in
    let rise = NamesRise-map (with_mapped_ends (places_of_ends refs)) acked (λ i. refl) c.pages-pages.ensures.rising in
    rise-shown c.args.tree.now 0 (map (settled_interval xs 0) (placed_intervals refs acked)) js shows
    (NamesRise-map (settled_interval xs 0) (placed_intervals refs acked) (λ i. refl) rise)

pub returns : goal.returns
returns c =
    let xs = text_elements c.args.tree.now in
    let refs = c.args.tree.now.refs in
    let whole = ap from_pages (take_all c.loop-page.page-index c.pages-pages.result.now c.loop-page-test.false) ∙ c.pages-pages.ensures.value in
    subst (λ is. ShowsAll c.args.tree.now 0 (map (settled_interval xs 0) (placed_intervals refs is)) c.loop-page.items) whole c.loop-page.invariant
