use Rattle.std.proofs.Common.{◌≡◌, ◌<◌, ◌≤◌, ◌+◌, [], ◌∷◌, List, drop, false, length, map, cond, refl, sym, ◌∙◌, ap, subst, arith}
use Rattle.std.proofs.Math.ListN.{drop_of_length-le}
use Rattle.std.proofs.lemmas.List.{drop_more}
use Rattle.std.proofs.lemmas.Result.{IfOk-weaker}
use Rattle.std.specs.Ordering.{is_eq}
use Rattle.ft_refs.specs.declared.numbers.Place.{Place}
use Rattle.ft_interval_store.specs.declared.intervals.Interval.{Interval}
use Rattle.ft_interval_store.specs.Ends.{map_ends, places_of_ends}
use Rattle.ft_interval_store.specs.Intervals.{Name, after_operation, interval_of, is_on, name_cmp}
use Rattle.ft_interval_store.specs.Shown.{carried, last, settled_end, settled_interval, shown_one_from}
use Rattle.ft_interval_store.specs.Standing.{ShowsAll}
use Rattle.ft_interval_store.specs.State.{placed_intervals, placed_operations, text_elements, with_mapped_ends}
use Rattle.ft_interval_store.proofs.Gathered.{none-part}
use Rattle.ft_interval_store.proofs.NamedIntervals.{next-at, next-of, no-other-shown, one-shown}
use Rattle.ft_interval_store.proofs.OneInterval.{NamesRise-map}
use Rattle.ft_interval_store.proofs.RisingLists.{name_cmp-self}
use Rattle.ft_interval_store.proofs.ShownAll.{carried-all, places-shown, records-shown}
use Rattle.ft_interval_store.proofs.ShownSteps.{last-shown, next-le, next-live, rest-live, rest-rises}
use Rattle.ft_interval_store.proofs.named.shown_named.Goals as goal

pub next-init : goal.next-init
next-init c =
    let tree = c.args.tree.now in
    let xs = text_elements tree in
    let n : Name = (c.args.label.now, c.args.id.now) in
    let from = map (settled_interval xs 0) (placed_intervals tree.refs c.args.acked.now) in
    let none = sym c.new-all.ensures in
    let w = c.in_ok-add_named.ensures.gathers [] (λ m. false) (subst (λ (js : List (Interval Place)). ShowsAll tree 0 [] js) none tt) (none-part from []) in
    let only = c.in_ok-add_named.ensures.only (λ m. false) (λ m e. subst (λ (js : List (Interval Place)). interval_of m js ≡ _) none refl) in
    record {
      rising = c.requires.rising;
      fits = omega arith;
      live = c.requires.pending;
      shows = (
        w.0,
        w.1,
        record { rises = w.2.rising; only = no-other-shown tree 0 w.0 c.add_named.new.all (λ m. is_eq (name_cmp m n)) w.1 only },
        ap (shown_one_from xs n 0 (placed_operations tree.refs c.args.pending.now.items)) (w.2.there n (ap is_eq (name_cmp-self n))),
      );
    }

pub take_next_if-requires-clause-live : goal.take_next_if-requires-clause-live
take_next_if-requires-clause-live c =
    let inside : c.next.i < length c.args.pending.now.items = omega (arith, c.next-test.true, c.len.ensures, c.args.pending.now.ok.0) in
    next-live c.args.pending.now.items c.next.i c.index-t.result.now inside c.index-t.ensures c.args.tree.now.refs c.next.invariant.live

pub take_next_if-requires-clause-on_leaf : goal.take_next_if-requires-clause-on_leaf
take_next_if-requires-clause-on_leaf c =
    let w = c.next.invariant.shows in
    places-shown c.args.tree.now c.next.stage w.0 c.next.all w.1

pub take_next_if-requires-clause-rises : goal.take_next_if-requires-clause-rises
take_next_if-requires-clause-rises c =
    let inside : c.next.i < length c.args.pending.now.items = omega (arith, c.next-test.true, c.len.ensures, c.args.pending.now.ok.0) in
    next-le c.args.pending.now.items c.next.i c.index-t.result.now inside c.index-t.ensures c.next.stage c.next.invariant.rising

pub next-preserved : goal.next-preserved
next-preserved c =
    let inside : c.next.i < length c.args.pending.now.items = omega (arith, c.next-test.true, c.len.ensures, c.args.pending.now.ok.0) in
    let tree = c.args.tree.now in
    let xs = text_elements tree in
    let refs = tree.refs in
    let n : Name = (c.args.label.now, c.args.id.now) in
    let ts = c.args.pending.now.items in
    let i = c.next.i in
    let k = c.next.stage in
    let t = c.index-t.result.now in
    let ends = map_ends (settled_end xs t.stage) (places_of_ends refs t.ends) in
    let w = c.next.invariant.shows in
    let there = carried xs k t.stage w.0 in
    let next = cond (is_on n t.op) (after_operation t.op ends there) there in
    let shown = subst (λ b. ShowsAll tree t.stage (cond b (after_operation t.op ends there) there) c.take_next_if.new.all) c.is_on.ensures (c.in_ok-take_next_if.ensures.shown w.0 w.1) in
    let front = drop_more ts i t inside ∙ ap (λ u. u ∷ drop (i + 1) ts) (sym c.index-t.ensures) in
    record {
      rising = rest-rises ts i t inside c.index-t.ensures k c.next.invariant.rising;
      fits = c.take_next_if.ensures.fits;
      live = rest-live ts i t inside c.index-t.ensures refs c.next.invariant.live;
      shows = (
        next,
        shown,
        next-of xs n k t.stage t.op ends w.0 w.2,
        ap (shown_one_from xs n t.stage (placed_operations refs (drop (i + 1) ts))) (next-at xs n k t.stage t.op ends w.0 w.2)
            ∙ sym (ap (λ us. shown_one_from xs n k (placed_operations refs us) (interval_of n w.0)) front) ∙ w.3,
      );
    }

pub carry_all-requires-clause-on_leaf : goal.carry_all-requires-clause-on_leaf
carry_all-requires-clause-on_leaf c =
    let w = c.next.invariant.shows in
    places-shown c.args.tree.now c.next.stage w.0 c.next.all w.1

pub records-requires-clause-on_leaf : goal.records-requires-clause-on_leaf
records-requires-clause-on_leaf c =
    let k = c.next.stage in
    let w = c.next.invariant.shows in
    let was = carried (text_elements c.args.tree.now) k last w.0 in
    places-shown c.args.tree.now last was c.carry_all.new.all (carried-all c.args.tree.now k last w.0 c.next.all c.carry_all.new.all w.1 c.carry_all.ensures)

pub returns : goal.returns
returns c =
    let past : length c.args.pending.now.items ≤ c.next.i = omega (arith, c.next-test.false, c.len.ensures, c.args.pending.now.ok.0) in
    let tree = c.args.tree.now in
    let xs = text_elements tree in
    let refs = tree.refs in
    let n : Name = (c.args.label.now, c.args.id.now) in
    let from = map (settled_interval xs 0) (placed_intervals refs c.args.acked.now) in
    let ts = c.args.pending.now.items in
    let k = c.next.stage in
    let w = c.next.invariant.shows in
    let new = c.carry_all.new.all in
    let none : drop c.next.i ts ≡ [] = drop_of_length-le ts past in
    let shows = carried-all tree k last w.0 c.next.all new w.1 c.carry_all.ensures in
    let rise = NamesRise-map (settled_interval xs 0) (placed_intervals refs c.args.acked.now) (λ i. refl)
    (NamesRise-map (with_mapped_ends (places_of_ends refs)) c.args.acked.now (λ i. refl) c.pages-all.ensures.rising) in
    let same = records-shown tree (carried xs k last w.0) new shows
    ∙ one-shown xs n k (placed_operations refs ts) from w.0 w.2 rise (last-shown xs refs n k c.next.i ts (interval_of n w.0) none ∙ w.3) in
    IfOk-weaker c.records.result _ _ (λ records e. e ∙ same) c.records.ensures
