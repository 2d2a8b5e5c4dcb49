use Rattle.std.proofs.Common.{◌≡◌, List, ◌++◌, [], All, map, append-nil, append_assoc, subst, sym, ◌∙◌, ap, arith}
use Rattle.std.specs.Global.{Vec}
use Rattle.std.proofs.lemmas.List.{map-append, nil_from_length}
use Rattle.ft_sumdoc.specs.declared.summary.IntervalRec.{IntervalRec}
use Rattle.ft_refs.specs.declared.numbers.Place.{Place}
use Rattle.ft_interval_store.specs.declared.intervals.Interval.{Interval}
use Rattle.ft_interval_store.specs.Pages.{from_pages}
use Rattle.ft_interval_store.specs.Standing.{HasPlaces, record_at}
use Rattle.ft_interval_store.proofs.PageLists.{all-left, all-right}
use Rattle.ft_interval_store.proofs.all.records.Goals as goal

pub loop-page-init : goal.loop-page-init
loop-page-init c =
    let P = HasPlaces c.args.tree.now in
    let all : List (Interval Place) → List IntervalRec = map (record_at c.args.tree.now) in
    let rest = c.into_iter-page-iterator.result.rest.items in
    let whole = ap from_pages c.into_iter-page-iterator.ensures.into_iter_gives.0 ∙ c.into_pages-page-items.ensures ∙ c.all.view_is in
    record {
      on_leaf = subst (λ (is : List (Interval Place)). All P is) (sym whole) c.requires.on_leaf;
      made = ap (λ (rs : List IntervalRec). rs ++ all (from_pages rest)) c.in_ok-records.ensures.items ∙ ap all whole;
    }

pub add_records-requires-clause-on_leaf : goal.add_records-requires-clause-on_leaf
add_records-requires-clause-on_leaf c =
    let P = HasPlaces c.args.tree.now in
    let rest = c.next.new.self.rest.items in
    all-left P c.in-Some.page.items (from_pages rest)
    (subst (λ (ps : List (Vec (Interval Place))). All P (from_pages ps)) c.in-Some.ensures.steps.0 c.loop-page.invariant.on_leaf)

pub loop-page-preserved : goal.loop-page-preserved
loop-page-preserved c =
    let P = HasPlaces c.args.tree.now in
    let all : List (Interval Place) → List IntervalRec = map (record_at c.args.tree.now) in
    let rest = c.next.new.self.rest.items in
    let page = c.in-Some.page.items in
    let made : List IntervalRec = c.loop-page.records.items in
    record {
      on_leaf = all-right P page (from_pages rest)
          (subst (λ (ps : List (Vec (Interval Place))). All P (from_pages ps)) c.in-Some.ensures.steps.0 c.loop-page.invariant.on_leaf);
      made = ap (λ rs. rs ++ all (from_pages rest)) c.in_ok-add_records.ensures ∙ append_assoc made (all page) (all (from_pages rest))
          ∙ ap (λ rs. made ++ rs) (sym (map-append (record_at c.args.tree.now) page (from_pages rest)))
          ∙ ap (λ (ps : List (Vec (Interval Place))). made ++ all (from_pages ps)) (sym c.in-Some.ensures.steps.0) ∙ c.loop-page.invariant.made;
    }

pub returns : goal.returns
returns c =
    let tree = c.args.tree.now in
    let rest = c.loop-page.page-iterator.rest in
    let none : rest.items ≡ [] = nil_from_length rest.items (omega (arith, c.in-None.ensures.steps.0, rest.ok.0)) in
    sym (ap (λ (ps : List (Vec (Interval Place))). c.loop-page.records.items ++ map (record_at tree) (from_pages ps)) none ∙ append-nil c.loop-page.records.items)
    ∙ c.loop-page.invariant.made
