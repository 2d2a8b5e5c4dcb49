use Rattle.std.proofs.Common.{◌≡◌, ◌<◌, ◌≤◌, All, get_or, length, refl, sym, ◌∙◌, ap, subst, arith}
use Rattle.std.specs.Vec.{with_items}
use Rattle.std.specs.List.{AllZip}
use Rattle.std.proofs.lemmas.List.{with_items_is}
use Rattle.ft_interval_store.specs.Pages.{ArePages, from_pages}
use Rattle.ft_interval_store.specs.Standing.{HasPlaces, IsCarriedInterval}
use Rattle.ft_interval_store.proofs.PageLists.{AreAlike, all-on_page, zip-are, zip-pages}
use Rattle.ft_interval_store.proofs.WrittenLists.{all-written, next-holds, next-written}
use Rattle.ft_interval_store.proofs.all.carry_pages.Goals as goal

pub loop-page-init : goal.loop-page-init
loop-page-init c = record { rest = refl; done = tt }

pub carry_page-requires-clause-on_leaf : goal.carry_page-requires-clause-on_leaf
carry_page-requires-clause-on_leaf c =
    let P = HasPlaces c.args.tree.now in
    let R = IsCarriedInterval c.args.tree.now c.args.from c.args.to in
    let old = c.deref_mut-page-items.result.now in
    let whole : from_pages old ≡ c.args.items.now = ap from_pages c.deref_mut-page-items.ensures.value ∙ c.items.view_is in
    let all = subst (λ is. All P is) (sym whole) c.requires.on_leaf in
    let within : c.loop-page.page-index < length c.loop-page.page-items = omega (arith, c.loop-page-test.true, c.loop-page.auto.page-items) in
    subst (λ is. All P is) (sym c.deref_mut.ensures.value)
    (next-holds (AreAlike R) c.loop-page.page-index old c.loop-page.page-items c.loop-page.invariant (λ p. All P p.items)
    c.page-item.result within (λ k d l. all-on_page P k old d l all))

pub loop-page-preserved : goal.loop-page-preserved
loop-page-preserved c =
    let R = IsCarriedInterval c.args.tree.now c.args.from c.args.to in
    let old = c.deref_mut-page-items.result.now in
    let was = get_or c.loop-page.page-items c.loop-page.page-index c.page-item.result in
    let new = c.carry_page.new.page in
    let within : c.loop-page.page-index < length c.loop-page.page-items = omega (arith, c.loop-page-test.true, c.loop-page.auto.page-items) in
    let alike = subst (λ is. AllZip R is new) c.deref_mut.ensures.value c.carry_page.ensures in
    let kept = subst (λ is. AllZip R was.items is) (sym (with_items_is was new (c.carry_page.auto.page ∙ c.deref_mut.ensures.len))) alike in
    next-written (AreAlike R) c.loop-page.page-index old c.loop-page.page-items c.loop-page.invariant c.page-item.result (with_items was new) within kept

pub invariant_of-items : goal.invariant_of-items
invariant_of-items c =
    let R = IsCarriedInterval c.args.tree.now c.args.from c.args.to in
    let old = c.deref_mut-page-items.result.now in
    let new = c.loop-page.page-items in
    let n = c.items.inside.len in
    let past : length new ≤ c.loop-page.page-index = omega (arith, c.loop-page-test.false, c.loop-page.auto.page-items) in
    let done = all-written (AreAlike R) c.loop-page.page-index old new c.loop-page.invariant c.loop-page-test.false past in
    subst (λ ps. ArePages ps n) (sym (with_items_is c.items.inside.pages new (c.loop-page.auto.page-items ∙ c.deref_mut-page-items.ensures.len)))
    (zip-are R old new n done (subst (λ ps. ArePages ps n) (sym c.deref_mut-page-items.ensures.value) c.items.invariant))

pub returns : goal.returns
returns c =
    let R = IsCarriedInterval c.args.tree.now c.args.from c.args.to in
    let old = c.deref_mut-page-items.result.now in
    let new = c.loop-page.page-items in
    let past : length new ≤ c.loop-page.page-index = omega (arith, c.loop-page-test.false, c.loop-page.auto.page-items) in
    let done = all-written (AreAlike R) c.loop-page.page-index old new c.loop-page.invariant c.loop-page-test.false past in
    let whole : from_pages old ≡ c.args.items.now = ap from_pages c.deref_mut-page-items.ensures.value ∙ c.items.view_is in
    subst (λ ps. AllZip R c.args.items.now (from_pages ps)) (sym (with_items_is c.items.inside.pages new (c.loop-page.auto.page-items ∙ c.deref_mut-page-items.ensures.len)))
    (subst (λ is. AllZip R is (from_pages new)) whole (zip-pages R old new done))
