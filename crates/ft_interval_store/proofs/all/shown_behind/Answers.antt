use Rattle.std.proofs.Common.{◌≡◌, ◌<◌, ◌≤◌, [], drop, length, map, refl, ◌∙◌, ap, arith}
use Rattle.std.proofs.Math.ListN.{drop_of_length-le}
use Rattle.std.proofs.lemmas.Result.{IfOk-weaker}
use Rattle.ft_interval_store.specs.Ends.{map_ends, places_of_ends}
use Rattle.ft_interval_store.specs.Intervals.{after_operation}
use Rattle.ft_interval_store.specs.Shown.{carried, last, settled_end, shown_from, shown_record}
use Rattle.ft_interval_store.specs.State.{placed_operations, text_elements}
use Rattle.ft_interval_store.proofs.ShownAll.{carried-all, places-shown, last-all, next-all, records-shown}
use Rattle.ft_interval_store.proofs.ShownSteps.{next-le, next-live, rest-live, rest-rises}
use Rattle.ft_interval_store.proofs.all.shown_behind.Goals as goal

pub next-init : goal.next-init
next-init c =
    let xs = text_elements c.args.tree.now in
    record {
      rising = c.requires.rising;
      fits = omega arith;
      live = c.requires.pending;
      shows = λ was h. (was, h, refl);
    }

pub take_next-requires-clause-live : goal.take_next-requires-clause-live
take_next-requires-clause-live c =
    let inside : c.next.i < length c.args.pending.now.items = omega (arith, c.next-test.true, c.len.ensures, c.args.pending.now.ok.0) in
    next-live c.args.pending.now.items c.next.i c.index-t.result.now inside c.index-t.ensures c.args.tree.now.refs c.next.invariant.live

pub take_next-requires-clause-on_leaf : goal.take_next-requires-clause-on_leaf
take_next-requires-clause-on_leaf c =
    places-shown c.args.tree.now c.next.stage (c.next.invariant.shows c.requires.shown.0 c.requires.shown.1).0 c.next.all
    (c.next.invariant.shows c.requires.shown.0 c.requires.shown.1).1

pub take_next-requires-clause-rises : goal.take_next-requires-clause-rises
take_next-requires-clause-rises c =
    let inside : c.next.i < length c.args.pending.now.items = omega (arith, c.next-test.true, c.len.ensures, c.args.pending.now.ok.0) in
    next-le c.args.pending.now.items c.next.i c.index-t.result.now inside c.index-t.ensures c.next.stage c.next.invariant.rising

pub next-preserved : goal.next-preserved
next-preserved c =
    let inside : c.next.i < length c.args.pending.now.items = omega (arith, c.next-test.true, c.len.ensures, c.args.pending.now.ok.0) in
    let xs = text_elements c.args.tree.now in
    let refs = c.args.tree.now.refs in
    let ts = c.args.pending.now.items in
    let i = c.next.i in
    let t = c.index-t.result.now in
    let ends = map_ends (settled_end xs t.stage) (places_of_ends refs t.ends) in
    record {
      rising = rest-rises ts i t inside c.index-t.ensures c.next.stage c.next.invariant.rising;
      fits = c.take_next.ensures.fits;
      live = rest-live ts i t inside c.index-t.ensures refs c.next.invariant.live;
      shows = λ was h. (let w = c.next.invariant.shows was h in (
        after_operation t.op ends (carried xs c.next.stage t.stage w.0),
        c.in_ok-take_next.ensures.shown w.0 w.1,
        next-all xs refs c.next.stage i ts w.0 (shown_from xs 0 (placed_operations refs ts) was) w.2 t inside c.index-t.ensures,
      ));
    }

pub carry_all-requires-clause-on_leaf : goal.carry_all-requires-clause-on_leaf
carry_all-requires-clause-on_leaf c =
    places-shown c.args.tree.now c.next.stage (c.next.invariant.shows c.requires.shown.0 c.requires.shown.1).0 c.next.all
    (c.next.invariant.shows c.requires.shown.0 c.requires.shown.1).1

pub records-requires-clause-on_leaf : goal.records-requires-clause-on_leaf
records-requires-clause-on_leaf c =
    let k = c.next.stage in
    let w = c.next.invariant.shows c.requires.shown.0 c.requires.shown.1 in
    let was = carried (text_elements c.args.tree.now) k last w.0 in
    places-shown c.args.tree.now last was c.carry_all.new.all
    (carried-all c.args.tree.now k last w.0 c.next.all c.carry_all.new.all w.1 c.carry_all.ensures)

pub returns : goal.returns
returns c =
    let past : length c.args.pending.now.items ≤ c.next.i = omega (arith, c.next-test.false, c.len.ensures, c.args.pending.now.ok.0) in
    λ was h.
    let xs = text_elements c.args.tree.now in
    let refs = c.args.tree.now.refs in
    let ts = c.args.pending.now.items in
    let k = c.next.stage in
    let w = c.next.invariant.shows was h in
    let new = c.carry_all.new.all in
    let all = shown_from xs 0 (placed_operations refs ts) was in
    let none : drop c.next.i ts ≡ [] = drop_of_length-le ts past in
    let shows = carried-all c.args.tree.now k last w.0 c.next.all new w.1 c.carry_all.ensures in
    let same = records-shown c.args.tree.now (carried xs k last w.0) new shows
    ∙ ap (λ is. map (shown_record xs) is) (last-all xs refs k c.next.i ts w.0 all w.2 none) in
    IfOk-weaker c.records.result _ _ (λ records e. e ∙ same) c.records.ensures
